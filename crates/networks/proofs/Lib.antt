pub mod Numbers
pub mod Rolls
pub mod Shutting
