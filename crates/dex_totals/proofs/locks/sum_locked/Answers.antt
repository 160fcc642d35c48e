use Rattle.std.proofs.Common.{ℕ, [], arith}
use Rattle.dex_types.specs.declared.orders.Order.{Order}
use Rattle.dex_types.specs.Owed.{order_lock}
use Rattle.dex_totals.proofs.SumLaws.{capped-total}
use Rattle.dex_totals.proofs.locks.sum_locked.Goals as goal

pub loop-place-preserved : goal.loop-place-preserved
loop-place-preserved c =
    let d : Order = record { id = 0; owner = record { 0 = [] }; slot = 0; tier = 0; lots = 0; client = 0 } in
    let weight : Order → ℕ = order_lock c.args.side c.args.sizes in
    capped-total weight c.args.orders.now c.loop-place.place d c.loop-place.sum c.saturating_add-sum.result c.lock_of-more.result (omega arith) c.loop-place.invariant
    c.lock_of-more.ensures
    c.saturating_add-sum.ensures
