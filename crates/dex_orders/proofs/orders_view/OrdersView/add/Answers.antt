use Rattle.std.proofs.Common.{◌≡◌, Some, set, ap, subst, sym, ◌∙◌}
use Rattle.dex_types.specs.Trader.{Account, Holding}
use Rattle.dex_orders.specs.Bits.{is_set}
use Rattle.dex_orders.specs.OrdersAccount.{AreDistinct, holding_of, slots_of}
use Rattle.dex_orders.proofs.DistinctLaw.{AreDistinct-add}
use Rattle.dex_orders.proofs.orders_view.OrdersView.add.Goals as goal

pub returns-clause-accepted : goal.returns-clause-accepted
returns-clause-accepted c =
    let old = c.args.self.now.bytes.now in
    let slot = c.args.slot in
    let held : Holding = record { id = c.args.id; side = c.args.side; client = c.args.client } in
    let told : holding_of (is_set c.without_bit-free_bits.result slot) (is_set c.with_side-bid_bits.result slot) c.args.id c.args.client ≡ Some held =
    ap (λ b. holding_of b (is_set c.with_side-bid_bits.result slot) c.args.id c.args.client) c.without_bit-free_bits.ensures.same
    ∙ ap (λ s. let made : Holding = record { id = c.args.id; side = s; client = c.args.client } in Some made) c.with_side-bid_bits.ensures.same in
    let now : slots_of c.write_slot.new.bytes ≡ set (slots_of old) slot (Some held) =
    ap (λ (a : Account). a.slots) c.write_slot.ensures.words ∙ ap (set (slots_of old) slot) told in
    c.write_slot.ensures.accepted (subst AreDistinct (sym now) (AreDistinct-add (slots_of old) slot held c.requires.accepted.opened.distinct c.requires.fresh))
