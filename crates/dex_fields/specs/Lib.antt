pub mod Bytes
pub mod Frame
pub mod Tiling
pub mod Rules
pub mod Empty
pub mod Writes
