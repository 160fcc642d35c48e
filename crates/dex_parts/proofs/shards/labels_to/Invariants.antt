use Rattle.std.proofs.Common.{◌≡◌}
use Rattle.dex_parts.specs.Numbers.{numbers_to}
use Rattle.dex_parts.proofs.shards.labels_to.Given as goal

abbrev pub invariant-loop-number : goal.invariant-loop-number
invariant-loop-number l = l.labels.items ≡ numbers_to l.number
