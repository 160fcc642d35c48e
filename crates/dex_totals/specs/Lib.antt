pub mod Reading
pub mod Held
pub mod Owned
pub mod Tallies
pub mod Sums
