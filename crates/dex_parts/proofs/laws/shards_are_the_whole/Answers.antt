use Rattle.dex_parts.proofs.ShardLaws.{leaves, shard-left}
use Rattle.dex_parts.proofs.ShardWorlds.{items-act}
use Rattle.dex_parts.proofs.laws.shards_are_the_whole.Goals as goal

pub returns-clause-world : goal.returns-clause-world
returns-clause-world c = items-act

pub returns-clause-leaves : goal.returns-clause-leaves
returns-clause-leaves c = λ sharding script rising falls shard part left is replay. leaves sharding shard script rising falls part is left replay

pub returns-clause-outcome : goal.returns-clause-outcome
returns-clause-outcome c = shard-left
