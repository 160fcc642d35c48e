pub mod Addresses
pub mod Accepted
pub mod Held
pub mod Conserved
pub mod Outcomes
