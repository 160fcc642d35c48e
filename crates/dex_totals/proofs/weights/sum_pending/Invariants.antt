use Rattle.std.proofs.Common.{◌≡◌, map, take}
use Rattle.dex_types.specs.QueuedEvent.{decoded_event}
use Rattle.dex_types.specs.Totals.{total}
use Rattle.dex_totals.specs.Sums.{capped, weight_of}
use Rattle.dex_totals.proofs.weights.sum_pending.Given as goal

abbrev pub invariant-loop-place : goal.invariant-loop-place
invariant-loop-place l = l.sum ≡ capped (total (weight_of l.weight) (take l.place (map decoded_event l.events)))
