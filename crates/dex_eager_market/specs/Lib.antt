pub mod Accounts
pub mod Foreseen
pub mod Listing
pub mod States
pub mod Trading
pub mod Acting
pub mod Making
pub mod Running
