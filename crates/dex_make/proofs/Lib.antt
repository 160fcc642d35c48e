pub mod MarketLaws
pub mod PartLaws
pub mod TokenLaws
pub mod RequestLaws
pub mod MadeLaws
