pub mod Purse
