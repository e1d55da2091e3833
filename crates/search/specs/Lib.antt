pub mod Replay
pub mod Calls
pub mod Rules
pub mod Claims
