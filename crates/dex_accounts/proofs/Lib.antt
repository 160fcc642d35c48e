pub mod OneMarket
pub mod Decoded
pub mod OwnerLaws
pub mod PartLaws
