pub mod NextLaws
pub mod BetweenLaws
