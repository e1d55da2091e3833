pub mod Answering
pub mod Turning
pub mod Telling
pub mod Naming
pub mod Pages
pub mod Words
