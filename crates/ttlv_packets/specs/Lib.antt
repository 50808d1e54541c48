pub mod Numbers
pub mod Frames
pub mod Files
pub mod Listings
pub mod Streams
pub mod Messages
pub mod Orders
pub mod Captures
