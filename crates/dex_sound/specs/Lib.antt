pub mod Bounds
pub mod Cancels
pub mod Cranks
pub mod Exchange
pub mod Fields
pub mod Kept
pub mod Made
pub mod Places
