pub mod Flat
pub mod Lent
