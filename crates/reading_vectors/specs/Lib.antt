pub mod Choices
pub mod Listed
