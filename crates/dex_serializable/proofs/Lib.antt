pub mod Common
mod Acting
mod Acts
pub mod CallEntries
mod Ends
mod Examples
mod Fronts
mod Gathered
mod Items
mod Journals
pub mod LastCells
pub mod Orders
mod Seeing
mod Sorted
mod Steps
mod Turns
