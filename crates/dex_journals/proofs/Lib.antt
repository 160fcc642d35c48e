pub mod Counting
pub mod StampedLists
pub mod LaneGrowth
pub mod MarketLaws
pub mod WalletLaws
