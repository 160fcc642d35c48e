pub mod AnswerLaws
pub mod InFront
pub mod PairLaws
pub mod HeardLaws
pub mod TextLaws
