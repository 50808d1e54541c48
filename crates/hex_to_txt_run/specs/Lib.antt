pub mod Pair
pub mod Tasks
pub mod Inputs
pub mod Reasons
pub mod TaskTexts
pub mod Runs
