pub mod Choices
pub mod KeptRules
pub mod Laws
pub mod Leaves
pub mod Listed
pub mod ListedRows
pub mod Parts
