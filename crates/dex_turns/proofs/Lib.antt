pub mod Common
mod Rising
mod Examples
mod Counts
mod Growing
mod LeavingTurns
mod InHand
mod Acted
pub mod Taking
mod Entering
mod SeatAfter
mod RowMore
mod LegHands
mod LegNames
mod LegPlaces
mod LegReplies
mod LegSeat
mod LegTurns
mod TwoPlaces
mod Exchanging
