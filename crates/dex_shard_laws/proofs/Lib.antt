pub mod ShardWorths
pub mod AuditLaws
