pub mod CellLaws
pub mod Journals
