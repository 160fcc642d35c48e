pub mod CellState
pub mod CellInside
pub mod Paying
