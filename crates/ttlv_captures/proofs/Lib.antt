pub mod Tokens
pub mod Messages
pub mod Costs
