pub mod Coding
pub mod Passing
pub mod Runs
pub mod Firsts
