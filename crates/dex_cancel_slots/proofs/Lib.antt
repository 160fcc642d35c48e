pub mod PremiseLaws
pub mod SlotSteps
pub mod MixedLaws
pub mod ToldLaws
pub mod AnswerLaws
pub mod FirstLaws
pub mod PruneLaws
pub mod TakenLaws
