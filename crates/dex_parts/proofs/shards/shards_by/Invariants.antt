use Rattle.std.proofs.Common.{◌≡◌, map, take}
use Rattle.dex_parts.specs.Numbers.{in_market}
use Rattle.dex_parts.proofs.shards.shards_by.Given as goal

abbrev pub invariant-loop-label : goal.invariant-loop-label
invariant-loop-label l = l.shards.items ≡ map (in_market l.markets) (take l.label-index l.labels)
