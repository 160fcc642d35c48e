pub mod Sums
pub mod Lists
pub mod Histories
pub mod Keeps
pub mod Seating
pub mod Closing
