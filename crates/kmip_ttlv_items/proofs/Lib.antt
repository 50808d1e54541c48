pub mod Spans
pub mod Leads
pub mod Lefts
pub mod Steps
pub mod Names
pub mod Walks
pub mod Completes
