pub mod Flaws
pub mod Wallets
pub mod Both
pub mod Rows
