pub mod Heard
pub mod Parts
