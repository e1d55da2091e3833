pub mod Checks
pub mod PageReasons
pub mod Content
pub mod Encoding
pub mod Writing
pub mod Again
pub mod Refusing
pub mod Retracing
