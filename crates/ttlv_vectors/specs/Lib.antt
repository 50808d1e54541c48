pub mod Samples
pub mod Requests
pub mod AttributeRequests
pub mod Selections
pub mod Choices
pub mod Listed
