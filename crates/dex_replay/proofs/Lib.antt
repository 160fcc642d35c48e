pub mod Common
mod AllOrNone
pub mod Counting
mod Doing
pub mod Ends
pub mod Groups
mod Holdings
mod Items
pub mod LastAccounts
mod Lawfulness
pub mod MappedLists
mod Numbers
pub mod Orders
pub mod Room
pub mod ActedTo
mod RunOf
mod RunSteps
mod Runs
mod Sights
pub mod Singles
pub mod Starts
pub mod OneReplay
mod CallsTold
mod Finding
pub mod SightTold
