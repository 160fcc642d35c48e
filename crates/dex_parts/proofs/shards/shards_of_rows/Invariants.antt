use Rattle.std.proofs.Common.{◌≡◌, take}
use Rattle.dex_parts.specs.Numbers.{row_shards}
use Rattle.dex_parts.proofs.shards.shards_of_rows.Given as goal

abbrev pub invariant-loop-at : goal.invariant-loop-at
invariant-loop-at l = l.shards.items ≡ row_shards l.markets (take l.at-index l.places)
