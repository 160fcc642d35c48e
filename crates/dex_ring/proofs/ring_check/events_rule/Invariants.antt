use Rattle.std.proofs.Common.{◌≡◌, ◌<◌, ℕ, None}
use Rattle.dex_ring.specs.Faults.{event_rule}
use Rattle.dex_ring.specs.Ring.{event_at}
use Rattle.dex_ring.proofs.ring_check.events_rule.Given as goal

abbrev pub invariant-loop-number : goal.invariant-loop-number
invariant-loop-number l = (k : ℕ) → k < l.number → event_rule k (event_at l.bytes k) ≡ None
