pub mod ActLaws
pub mod HistoryLaws
