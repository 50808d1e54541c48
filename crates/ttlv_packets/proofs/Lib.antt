pub mod Options
pub mod Walking
pub mod Streaming
pub mod Splitting
pub mod Carrying
pub mod Orders
pub mod Rows
