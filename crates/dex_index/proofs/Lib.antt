pub mod ReachedLaws
pub mod NearLaws
pub mod MadeLaws
pub mod AllLaws
