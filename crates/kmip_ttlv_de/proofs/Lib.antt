pub mod FieldTagLemmas
pub mod RowLemmas
pub mod Filling
pub mod Fronts
pub mod BySize
pub mod Exact
pub mod Stopping
pub mod Leaving
