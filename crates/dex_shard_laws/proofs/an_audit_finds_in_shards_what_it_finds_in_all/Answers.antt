use Rattle.dex_shard_laws.proofs.AuditLaws.{found-in-shards, supplies-of-shards}
use Rattle.dex_shard_laws.proofs.an_audit_finds_in_shards_what_it_finds_in_all.Goals as goal

pub returns-clause-markets : goal.returns-clause-markets
returns-clause-markets c = found-in-shards

pub returns-clause-mints : goal.returns-clause-mints
returns-clause-mints c = supplies-of-shards
