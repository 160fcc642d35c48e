pub mod Parts
pub mod Rooms
pub mod Acting
pub mod Groups
pub mod Shares
