pub mod Meant
pub mod Rows
