pub mod Amount
pub mod Forms
pub mod Kinds
pub mod Sampling
pub mod Totals
pub mod Labels
