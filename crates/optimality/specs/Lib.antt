pub mod Sheets
pub mod Problems
pub mod Keys
pub mod Search
pub mod Published
pub mod Bounded
