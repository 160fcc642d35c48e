pub mod Wallets
pub mod Acted
pub mod Opened
pub mod Steps
