pub mod NamedLaws
pub mod OrderLaws
pub mod PartLaws
pub mod Planning
pub mod TakeLaws
