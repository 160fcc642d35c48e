pub mod Findings
pub mod Supplies
pub mod Audited
