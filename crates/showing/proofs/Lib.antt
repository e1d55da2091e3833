mod Reading
mod Told
pub mod Naming
