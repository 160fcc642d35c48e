pub mod ListLaws
pub mod UnheldLaws
pub mod MetLaws
pub mod BookLaws
pub mod MarketLaws
