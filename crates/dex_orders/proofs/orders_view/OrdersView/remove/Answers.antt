use Rattle.std.proofs.Common.{◌≡◌, ◌<◌, ℕ, List, IsSome, None, get_or, set, ap, subst, sym, inl, inr, ◌∙◌}
use Rattle.std.proofs.lemmas.Bool.{cases_lt}
use Rattle.dex_types.specs.Trader.{Account}
use Rattle.dex_orders.specs.Bits.{is_set}
use Rattle.dex_orders.specs.OrdersAccount.{AreDistinct, holding_of, slots_of}
use Rattle.dex_orders.proofs.DistinctLaw.{AreDistinct-remove}
use Rattle.dex_orders.proofs.SlotLaw.{get_or-slots_of_past}
use Rattle.dex_orders.proofs.orders_view.OrdersView.remove.Goals as goal

below : (bytes : List ℕ) (slot : ℕ) → IsSome (get_or (slots_of bytes) slot None) → slot < 128
below bytes slot taken =
    elim (cases_lt slot 128) [
      | inl lt ↦ lt
      | inr past ↦ absurd (let none = get_or-slots_of_past bytes slot past in cc taken)
    ]

pub with_bit-free_bits-requires : goal.with_bit-free_bits-requires
with_bit-free_bits-requires c = below c.args.self.now.bytes.now c.args.slot c.requires.taken

pub without_bit-bid_bits-requires : goal.without_bit-bid_bits-requires
without_bit-bid_bits-requires c = below c.args.self.now.bytes.now c.args.slot c.requires.taken

pub write_slot-requires-clause-slot : goal.write_slot-requires-clause-slot
write_slot-requires-clause-slot c = below c.args.self.now.bytes.now c.args.slot c.requires.taken

pub returns-clause-accepted : goal.returns-clause-accepted
returns-clause-accepted c =
    let old = c.args.self.now.bytes.now in
    let slot = c.args.slot in
    let told : holding_of (is_set c.with_bit-free_bits.result slot) (is_set c.without_bit-bid_bits.result slot) 0 0 ≡ None =
    ap (λ b. holding_of b (is_set c.without_bit-bid_bits.result slot) 0 0) c.with_bit-free_bits.ensures.same in
    let now : slots_of c.write_slot.new.bytes ≡ set (slots_of old) slot None =
    ap (λ (a : Account). a.slots) c.write_slot.ensures.words ∙ ap (set (slots_of old) slot) told in
    c.write_slot.ensures.accepted (subst AreDistinct (sym now) (AreDistinct-remove (slots_of old) slot c.requires.accepted.opened.distinct))
