pub mod Handling
pub mod Placeholder
