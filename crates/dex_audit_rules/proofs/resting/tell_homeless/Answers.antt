use Rattle.std.proofs.Common.{arith}
use Rattle.dex_audit_rules.specs.Slots.{homeless}
use Rattle.dex_audit_rules.proofs.ListLaws.{told-more}
use Rattle.dex_audit_rules.proofs.resting.tell_homeless.Goals as goal

pub loop-place-preserved : goal.loop-place-preserved
loop-place-preserved c =
    told-more (homeless c.args.owners.now c.args.side) c.args.orders.now c.loop-place.place _
    c.args.found.now.items c.loop-place.found.items c.tell_unless.new.found.items (omega arith) c.loop-place.invariant
    (rw c.is_open.ensures at c.in_ok-tell_unless.ensures)
