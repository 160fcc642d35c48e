use Rattle.std.proofs.Common.{◌≡◌, ◌<◌, ◌++◌, ℕ, None, Option, ap, ◌∙◌, arith, get_or}
use Rattle.std.proofs.lemmas.List.{get_or-replicate, take_all}
use Rattle.dex_types.specs.declared.terms.Side.TheVariants.{Bid, Ask}
use Rattle.dex_types.specs.Trader.{Holding}
use Rattle.dex_orders.proofs.SlotLaw.{length-slots_of}
use Rattle.dex_orders.specs.OrdersAccount.{account_of}
use Rattle.dex_audit_rules.specs.Lists.{numbered}
use Rattle.dex_totals.specs.Reading.{held_in}
use Rattle.dex_audit_rules.specs.Slots.{misheld, or_else, unheld_finding, unheld_in}
use Rattle.dex_audit_rules.proofs.ListLaws.{told-more}
use Rattle.dex_audit_rules.proofs.UnheldLaws.{unheld-own}
use Rattle.dex_totals.proofs.ReadLaws.{held_in-told}
use Rattle.dex_audit_rules.proofs.misheld.tell_slots.Goals as goal

pub loop-slot-preserved : goal.loop-slot-preserved
loop-slot-preserved c = λ m is.
    let owner = c.args.owner in
    let account = account_of c.args.view.bytes.now in
    let slot = c.loop-slot.slot in
    let here : Option Holding = get_or account.slots slot None in
    let held : held_in c.slot.result ≡ here = ap held_in c.slot.ensures ∙ held_in-told here in
    let small : slot < 128 = omega arith in
    let none : Option ℕ = None in
    let of_bids : unheld_in owner account Bid slot c.of.result.now ≡ unheld_in owner account Bid slot m.bids =
    ap (unheld_in owner account Bid slot) (c.of.ensures ∙ is.bids owner) ∙ unheld-own owner slot here Bid m.bids in
    let of_asks : unheld_in owner account Ask slot c.of-2.result.now ≡ unheld_in owner account Ask slot m.asks =
    ap (unheld_in owner account Ask slot) (c.of-2.ensures ∙ is.asks owner) ∙ unheld-own owner slot here Ask m.asks in
    let bids : get_or c.note_side.new.first slot None ≡ unheld_in owner account Bid slot m.bids =
    c.note_side.ensures.each slot small ∙ ap (λ (o : Option ℕ). or_else o (unheld_in owner account Bid slot c.of.result.now)) (get_or-replicate 128 slot none none small) ∙ of_bids in
    let first : get_or c.note_side-2.new.first slot None ≡ or_else (unheld_in owner account Bid slot m.bids) (unheld_in owner account Ask slot m.asks) =
    c.note_side-2.ensures.each slot small ∙ ap (λ (o : Option ℕ). or_else o (unheld_in owner account Ask slot c.of-2.result.now)) bids
    ∙ ap (or_else (unheld_in owner account Bid slot m.bids)) of_asks in
    told-more (misheld m.bids m.asks owner) account.slots slot None
    c.args.found.now.items c.loop-slot.found.items c.tell_slot.new.found.items (omega (arith, length-slots_of c.args.view.bytes.now)) (c.loop-slot.invariant m is)
    (c.in_ok-tell_slot.ensures
    ∙ ap (λ (h : Option Holding). c.loop-slot.found.items ++ unheld_finding owner slot h (get_or c.note_side-2.new.first slot None)) held
    ∙ ap (λ (o : Option ℕ). c.loop-slot.found.items ++ unheld_finding owner slot here o) first)

pub returns : goal.returns
returns c = λ m is.
    let slots = (account_of c.args.view.bytes.now).slots in
    c.loop-slot.invariant m is
    ∙ ap (λ l. c.args.found.now.items ++ numbered (misheld m.bids m.asks c.args.owner) 0 l)
    (take_all c.loop-slot.slot slots (omega (arith, length-slots_of c.args.view.bytes.now)))
