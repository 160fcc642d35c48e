use Rattle.std.proofs.Common.{◌≡◌, ◌++◌, None, ap, ◌∙◌, arith, get_or}
use Rattle.std.proofs.lemmas.List.{take_all}
use Rattle.dex_orders.proofs.SlotLaw.{length-slots_of}
use Rattle.dex_orders.specs.OrdersAccount.{account_of}
use Rattle.dex_audit_rules.specs.Lists.{numbered}
use Rattle.dex_totals.specs.Reading.{held_in}
use Rattle.dex_audit_rules.specs.Slots.{taken_here}
use Rattle.dex_audit_rules.proofs.ListLaws.{told-more}
use Rattle.dex_totals.proofs.ReadLaws.{held_in-told}
use Rattle.dex_audit_rules.proofs.taken.add_slots.Goals as goal

pub loop-slot-preserved : goal.loop-slot-preserved
loop-slot-preserved c =
    let slots = (account_of c.args.view.bytes.now).slots in
    let held : held_in c.slot.result ≡ get_or slots c.loop-slot.slot None = ap held_in c.slot.ensures ∙ held_in-told (get_or slots c.loop-slot.slot None) in
    told-more (taken_here c.args.owner) slots c.loop-slot.slot None
    c.args.taken.now.items c.loop-slot.taken.items c.add_slot.new.taken.items (omega (arith, length-slots_of c.args.view.bytes.now)) c.loop-slot.invariant
    (c.in_ok-add_slot.ensures ∙ ap (λ h. c.loop-slot.taken.items ++ taken_here c.args.owner c.loop-slot.slot h) held)

pub returns : goal.returns
returns c =
    let slots = (account_of c.args.view.bytes.now).slots in
    c.loop-slot.invariant
    ∙ ap (λ l. c.args.taken.now.items ++ numbered (taken_here c.args.owner) 0 l)
    (take_all c.loop-slot.slot slots (omega (arith, length-slots_of c.args.view.bytes.now)))
