pub mod TakeGiven
pub mod TakeTerms
pub mod Exchanging
pub mod Taking
pub mod Taken
