pub mod Process
pub mod Histories
