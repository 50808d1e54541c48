pub mod Objects
pub mod States
