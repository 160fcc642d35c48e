use Rattle.std.proofs.Common.{◌∙◌, arith}
use Rattle.dex_audit_rules.specs.Slots.{unpaired}
use Rattle.dex_audit_rules.proofs.ListLaws.{joined-more}
use Rattle.dex_audit_rules.proofs.slots.tell_unpaired.Goals as goal

pub loop-place-preserved : goal.loop-place-preserved
loop-place-preserved c = λ bids asks events rest are.
    let ends = c.count_ends-ends.ensures bids asks events rest are in
    let told = c.from-in-loop-place.ensures ∙ ends in
    joined-more (unpaired bids asks events) c.args.taken.now c.loop-place.place _
    c.args.found.now.items c.loop-place.found.items c.tell_unless.new.found.items (omega arith) (c.loop-place.invariant bids asks events rest are)
    (rw (c.from.ensures, told, ends) at c.in_ok-tell_unless.ensures)
