pub mod History
pub mod GateView
pub mod PassView
pub mod TurnView
pub mod AwayView
pub mod Rule
pub mod Steps
pub mod Seats
