pub mod Named
pub mod Takers
