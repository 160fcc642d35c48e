pub mod Answers
pub mod ExitCodes
pub mod Hearing
pub mod Paired
pub mod Suits
pub mod Telling
pub mod Told
