pub mod FoundItems
pub mod ItemWalks
pub mod WalkPlaces
pub mod Enclosing
pub mod Stepping
