pub mod EventKinds
pub mod Prospects
pub mod Taker
