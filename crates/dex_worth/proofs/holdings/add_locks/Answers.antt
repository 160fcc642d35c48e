use Rattle.std.proofs.Common.{ℕ, ◌<◌, [], length, get_or, ap, ◌∙◌}
use Rattle.std.proofs.lemmas.List.{get_or_default}
use Rattle.dex_types.specs.declared.orders.Order.{Order}
use Rattle.dex_worth.specs.Amounts.{on_side}
use Rattle.dex_worth.proofs.Holding.{locks-more}
use Rattle.dex_worth.proofs.holdings.add_locks.Goals as goal

pub loop-place-preserved : goal.loop-place-preserved
loop-place-preserved c = λ before are.
    let d : Order = record { id = 0; owner = record { 0 = [] }; slot = 0; tier = 0; lots = 0; client = 0 } in
    let order : Order = get_or c.args.orders.now c.loop-place.place d in
    let lt : c.loop-place.place < length c.args.orders.now = c.loop-place-test.true in
    locks-more c.args.side c.args.sizes c.args.orders.now c.loop-place.place order before c.args.owners.now c.on_side.result c.loop-place.held c.add.new.sums
    lt (get_or_default c.args.orders.now c.loop-place.place order d lt)
    (c.on_side.ensures ∙ ap (λ (n : ℕ). on_side c.args.side n) c.lock_of-lock.ensures)
    (c.loop-place.invariant before are)
    c.add.ensures
