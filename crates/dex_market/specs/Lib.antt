pub mod MarketAccount
pub mod RequestQueue
pub mod Faults
pub mod StandsFor
pub mod MarketFunds
