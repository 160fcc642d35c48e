use Rattle.dex_shard_laws.proofs.ShardWorths.{shard-worth}
use Rattle.dex_shard_laws.proofs.shards_have_the_worth_of_the_whole.Goals as goal

pub returns : goal.returns
returns c = shard-worth
