use Rattle.std.proofs.Common.{◌≡◌, map, take}
use Rattle.dex_types.specs.QueuedEvent.{decoded_event}
use Rattle.dex_types.specs.Totals.{total, weighed_where}
use Rattle.dex_totals.specs.Held.{is_event_held}
use Rattle.dex_totals.specs.Sums.{capped, weight_of}
use Rattle.dex_totals.proofs.weights.sum_held.Given as goal

abbrev pub invariant-loop-place : goal.invariant-loop-place
invariant-loop-place l = l.sum ≡ capped (total (weighed_where (is_event_held l.owners) (weight_of l.weight)) (take l.place (map decoded_event l.events)))
