pub mod Commands
pub mod Failing
pub mod Objects
