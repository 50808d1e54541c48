pub mod Rows
pub mod Words
pub mod Calendar
pub mod Dates
