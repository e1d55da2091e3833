pub mod Words
pub mod Answering
pub mod Turns
pub mod Texts
pub mod Planned
pub mod Filed
pub mod Claims
