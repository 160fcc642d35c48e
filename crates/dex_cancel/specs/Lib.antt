pub mod Cancelling
pub mod TakenOff
pub mod Finding
pub mod Counting
pub mod Parts
