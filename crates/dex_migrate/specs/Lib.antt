pub mod Migrated
pub mod TooSmall
pub mod Answers
pub mod Steps
