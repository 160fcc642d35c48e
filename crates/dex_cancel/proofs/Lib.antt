pub mod WalkSteps
pub mod OwnLaws
pub mod TakenOffLaws
pub mod PruneLaws
pub mod ListedLaws
pub mod MarketLaws
