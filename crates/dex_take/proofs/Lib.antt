pub mod TakeAmounts
pub mod TakeReasons
pub mod TakeLeaves
