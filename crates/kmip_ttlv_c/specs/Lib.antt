pub mod Buffers
pub mod Calls
pub mod LentItems
pub mod LentWrites
pub mod JsonTexts
pub mod NameTexts
