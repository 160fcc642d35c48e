pub mod FundsWrites
pub mod Addresses
pub mod QueueWrites
pub mod Verdicts
pub mod WordWrites
