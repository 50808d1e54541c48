pub mod Answers
pub mod Asking
pub mod Calling
pub mod Exchanges
pub mod Negotiation
pub mod Payloads
pub mod Refusals
pub mod Turns
