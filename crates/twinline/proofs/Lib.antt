pub mod Twins
pub mod Hits
pub mod Crossings
pub mod Drawings
