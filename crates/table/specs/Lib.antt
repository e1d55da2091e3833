pub mod After
pub mod Drawn
pub mod Table
