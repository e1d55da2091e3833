pub mod Faults
pub mod Reasons
