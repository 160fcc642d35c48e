pub mod Columns
pub mod Closing
pub mod Opened
pub mod LaneItems
pub mod Running
