pub mod Nets
pub mod Given
pub mod Ranges
pub mod Blanks
pub mod Shut
pub mod Routes
