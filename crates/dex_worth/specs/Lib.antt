pub mod Tables
pub mod Amounts
pub mod Entries
pub mod Ledgers
pub mod Holdings
pub mod Rows
pub mod Flows
