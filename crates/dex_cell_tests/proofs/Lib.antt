pub mod CallLaws
pub mod DoneLaws
pub mod MadeLaws
pub mod SetLaws
