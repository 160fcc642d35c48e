pub mod Bank
pub mod Seats
pub mod Submitted
pub mod Inside
pub mod Outline
pub mod Turns
pub mod Legs
pub mod TwoTurns
