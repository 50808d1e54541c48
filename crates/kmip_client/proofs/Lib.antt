mod Answering
mod Refusing
mod Deciding
mod Asked
mod Versions
mod Exchanging
mod Tagging
pub mod Widening
