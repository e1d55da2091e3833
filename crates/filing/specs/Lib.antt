pub mod Arrivals
pub mod Halves
pub mod Listing
pub mod Costs
pub mod Filing
pub mod Holding
pub mod Claims
pub mod Chains
