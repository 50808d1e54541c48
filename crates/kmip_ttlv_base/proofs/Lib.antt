pub mod Views
pub mod Shapes
pub mod Building
pub mod Visiting
pub mod TagNames
