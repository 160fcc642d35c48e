pub mod Numbers
pub mod Codes
pub mod IdFacts
pub mod IdList
pub mod Spelling
pub mod Rules
pub mod Reading
pub mod Writing
