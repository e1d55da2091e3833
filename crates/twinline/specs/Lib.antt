pub mod Twin
pub mod Held
pub mod Drawn
pub mod Touching
