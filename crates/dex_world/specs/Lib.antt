pub mod World
pub mod Fold
pub mod Groups
pub mod Items
pub mod RowsOf
pub mod Lists
pub mod Places
