pub mod Notations
pub mod Captures
pub mod Attempts
pub mod Searches
