pub mod Lists
pub mod Slots
pub mod Funds
pub mod Books
pub mod Own
pub mod RulesOf
