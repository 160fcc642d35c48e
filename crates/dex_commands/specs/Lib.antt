pub mod Ending
pub mod LaneAnswers
pub mod Listed
pub mod Process
pub mod Stops
pub mod Worths
