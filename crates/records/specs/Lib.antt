pub mod Bytes
pub mod Shapes
pub mod Due
pub mod DueReasons
pub mod Values
pub mod Layout
pub mod Fields
pub mod Laws
