pub mod Choices
pub mod Listed
pub mod Headers
pub mod Consistent
