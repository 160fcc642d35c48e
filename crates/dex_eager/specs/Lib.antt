pub mod Slots
pub mod Worth
pub mod Eager
pub mod Histories
