pub mod Pieces
pub mod Terms
pub mod DumpText
pub mod Reading
pub mod TakenAddresses
pub mod Checks
pub mod Answers
pub mod Telling
