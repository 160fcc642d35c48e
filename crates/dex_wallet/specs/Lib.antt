pub mod TokenAmount
pub mod CellState
pub mod CellInside
