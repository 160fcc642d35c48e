pub mod Funds
pub mod PaidBytes
pub mod Parts
