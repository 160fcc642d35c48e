pub mod Endings
pub mod LaneAnswerLaws
pub mod Listed
mod OneOutcome
pub mod Pieces
pub mod PartCalls
pub mod PartWorths
