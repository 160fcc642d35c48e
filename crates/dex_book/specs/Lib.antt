pub mod ListSide
pub mod Places
