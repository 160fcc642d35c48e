pub mod Balances
pub mod Crossing
pub mod Journal
pub mod Mints
pub mod Moves
