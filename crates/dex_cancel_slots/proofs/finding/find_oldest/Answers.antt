use Rattle.std.proofs.Common.{refl, sym, ap, ◌∙◌, arith}
use Rattle.dex_orders.specs.OrdersAccount.{slots_of}
use Rattle.dex_orders.proofs.SlotLaw.{length-slots_of}
use Rattle.dex_cancel.specs.Finding.{maybe_resting, older_of}
use Rattle.dex_cancel_slots.specs.Given.{slots_in}
use Rattle.dex_cancel_slots.specs.Slots.{has_client, held_in, named_by_slot, oldest_of, orders_in}
use Rattle.dex_cancel_slots.proofs.AnswerLaws.{told-oldest}
use Rattle.dex_cancel_slots.proofs.SlotSteps.{older_of-none, oldest-step}
use Rattle.dex_cancel_slots.proofs.TakenLaws.{past-taken}
use Rattle.dex_cancel_slots.proofs.finding.find_oldest.Goals as goal

pub slots-preserved : goal.slots-preserved
slots-preserved g c =
    let test = has_client c.args.client in
    let bids = g.B.SideRead.orders c.args.bids.now in
    let asks = g.A.SideRead.orders c.args.asks.now in
    let own = c.gathered.result in
    let named = c.named_at.ensures
    ∙ ap (λ b. named_by_slot test (g.B.SideRead.orders b) (g.A.SideRead.orders own.asks.now) (held_in (slots_in own.orders) c.slots.slot)) c.gathered.ensures.bids
    ∙ ap (λ a. named_by_slot test bids (g.A.SideRead.orders a) (held_in (slots_in own.orders) c.slots.slot)) c.gathered.ensures.asks
    ∙ ap (λ b. named_by_slot test bids asks (held_in (slots_of b) c.slots.slot)) c.gathered.ensures.orders in
    oldest-step test bids asks (slots_in c.args.owner.orders) c.slots.slot
    (omega (arith, length-slots_of c.args.owner.orders.bytes.now, c.slots-test.true, c.taken_end-end.ensures.within))
    (maybe_resting c.slots.found) (maybe_resting c.named_at.result) (maybe_resting c.older_of-found.result) named c.older_of-found.ensures
    ∙ c.slots.invariant

pub returns : goal.returns
returns g c =
    let slots = slots_in c.args.owner.orders in
    let bids = g.B.SideRead.orders c.args.bids.now in
    let asks = g.A.SideRead.orders c.args.asks.now in
    let named = orders_in (has_client c.args.client) bids asks in
    let found = maybe_resting c.slots.found in
    sym (older_of-none found)
    ∙ sym (past-taken (λ s. older_of found (oldest_of (named s))) (λ later. refl) c.args.owner.orders.bytes.now c.taken_end-end.result c.slots.slot
    (omega (arith, c.slots-test.false)) c.taken_end-end.ensures.free)
    ∙ c.slots.invariant
    ∙ told-oldest c.args.owner.account slots bids asks c.requires.names c.args.client
