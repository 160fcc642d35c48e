pub mod ReadLaws
pub mod FinalLaws
pub mod SumLaws
pub mod OwnerLaws
pub mod OwnLaws
