use Rattle.std.proofs.Common.{◌≡◌, ◌<◌, ℕ, None}
use Rattle.dex_orders.specs.Faults.{pair_rule}
use Rattle.dex_orders.proofs.orders_check.repeat_rule.Given as goal

abbrev pub invariant-loop-lower : goal.invariant-loop-lower
invariant-loop-lower l = (k : ℕ) → k < l.lower → pair_rule l.bytes l.slot k ≡ None
