pub mod Together
pub mod Chains
pub mod Numbered
pub mod Shards
pub mod Joins
pub mod Numbers
pub mod Sharded
pub mod Cuts
