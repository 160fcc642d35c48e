use Rattle.std.proofs.Common.{[], get_or, arith}
use Rattle.dex_types.specs.declared.orders.Order.{Order}
use Rattle.dex_types.specs.Owed.{order_lock}
use Rattle.dex_audit_rules.specs.Funds.{too_large}
use Rattle.dex_audit_rules.proofs.ListLaws.{told-more}
use Rattle.dex_audit_rules.proofs.locks.tell_too_large.Goals as goal

pub loop-place-preserved : goal.loop-place-preserved
loop-place-preserved c =
    let d : Order = record { id = 0; owner = record { 0 = [] }; slot = 0; tier = 0; lots = 0; client = 0 } in
    told-more (too_large c.args.side c.args.sizes c.args.account) c.args.orders.now c.loop-place.place d c.args.found.now.items c.loop-place.found.items c.tell_exceeds.new.found.items
    (omega arith) c.loop-place.invariant
    (c.in_ok-tell_exceeds.ensures (order_lock c.args.side c.args.sizes (get_or c.args.orders.now c.loop-place.place d)) c.lock_of-amount.ensures)
