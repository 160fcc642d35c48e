pub mod Debits
pub mod Told
pub mod Tables
pub mod Lists
pub mod Rising
pub mod Sums
pub mod Moving
pub mod Calling
pub mod Holding
pub mod Outcomes
pub mod Markets
pub mod Flows
mod Examples
