pub mod Answering
pub mod Fitting
pub mod Going
pub mod Led
pub mod Performing
pub mod Refusing
pub mod Sending
pub mod Taking
