pub mod Derived
pub mod TokenBytes
pub mod MarketSet
pub mod MarketBytes
pub mod Blanks
