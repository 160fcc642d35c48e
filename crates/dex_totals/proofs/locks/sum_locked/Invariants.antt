use Rattle.std.proofs.Common.{◌≡◌, take}
use Rattle.dex_types.specs.Owed.{order_lock}
use Rattle.dex_types.specs.Totals.{total}
use Rattle.dex_totals.specs.Sums.{capped}
use Rattle.dex_totals.proofs.locks.sum_locked.Given as goal

abbrev pub invariant-loop-place : goal.invariant-loop-place
invariant-loop-place l = l.sum ≡ capped (total (order_lock l.side l.sizes) (take l.place l.orders))
