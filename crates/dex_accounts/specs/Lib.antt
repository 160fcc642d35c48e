pub mod StandsFor
pub mod Decoded
pub mod Accepted
pub mod Owners
pub mod Parts
pub mod Keeps
