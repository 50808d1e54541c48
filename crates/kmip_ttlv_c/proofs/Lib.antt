pub mod Reports
pub mod Written
pub mod Redacted
pub mod Lines
pub mod Bits
pub mod NamedAs
