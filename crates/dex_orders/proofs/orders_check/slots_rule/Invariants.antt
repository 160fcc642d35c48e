use Rattle.std.proofs.Common.{◌≡◌, ◌<◌, ℕ, None}
use Rattle.dex_orders.specs.Faults.{place_rule}
use Rattle.dex_orders.proofs.orders_check.slots_rule.Given as goal

abbrev pub invariant-loop-place : goal.invariant-loop-place
invariant-loop-place l = (k : ℕ) → k < l.place → place_rule l.bytes k ≡ None
