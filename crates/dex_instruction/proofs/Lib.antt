mod Examples
pub mod Bytes
pub mod Fields
pub mod Writing
pub mod IdLists
pub mod Again
pub mod Unbroken
pub mod Whole
pub mod Ranges
