pub mod Commands
pub mod Positionals
pub mod Spelling
pub mod Threads
