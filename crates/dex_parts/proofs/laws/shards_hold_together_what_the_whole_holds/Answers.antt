use Rattle.dex_parts.proofs.ShardSums.{held-over}
use Rattle.dex_parts.proofs.laws.shards_hold_together_what_the_whole_holds.Goals as goal

pub returns : goal.returns
returns c = held-over
