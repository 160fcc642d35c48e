-- An event and its 88 bytes.
use Rattle.std.proofs.Common.{◌≡◌, ℕ, ◌^◌, ◌<◌, List, [], ◌∷◌, length, map, get_or, refl, ap, ◌∙◌, lit<}
use Rattle.dex_fields.specs.declared.event.TheConstants.{FLAGS, OWNER_SLOT, FEE_TIER, NATIVE_QTY_RELEASED, NATIVE_QTY_PAID, NATIVE_FEE_OR_REBATE, ORDER_ID, OWNER, CLIENT_ORDER_ID}
use Rattle.dex_fields.specs.Bytes.{bytes_in, bytes_of_number, number_in}
use Rattle.dex_types.specs.declared.orders.Event.{Event}
use Rattle.dex_ring.specs.EventBytes.{event_bytes, event_of, event_parts}
use Rattle.dex_ring.proofs.Parts.{length-concat, number_from, part_field, part_in, total_of}

-- each field of the event fits its bytes
pub record IsFitting (event : Event) : Type 0 where
  pub flags : event.flags < 2 ^ 8
  pub slot : event.slot < 2 ^ 8
  pub tier : event.tier < 2 ^ 8
  pub released : event.released < 2 ^ 64
  pub paid : event.paid < 2 ^ 64
  pub fee_or_rebate : event.fee_or_rebate < 2 ^ 64
  pub id : event.id < 2 ^ 128
  pub owner : length event.owner.0 ≡ 32
  pub client : event.client < 2 ^ 64

abbrev pub event_widths : List ℕ
event_widths = 1 ∷ 1 ∷ 1 ∷ 5 ∷ 8 ∷ 8 ∷ 8 ∷ 16 ∷ 32 ∷ 8 ∷ []

pub widths-event_parts : (e : Event) → length e.owner.0 ≡ 32 → map length (event_parts e) ≡ event_widths
unfolding bytes_of_number
widths-event_parts e owner = ap (λ (n : ℕ). 1 ∷ 1 ∷ 1 ∷ 5 ∷ 8 ∷ 8 ∷ 8 ∷ 16 ∷ n ∷ 8 ∷ []) owner

pub length-event_bytes : (e : Event) → length e.owner.0 ≡ 32 → length (event_bytes e) ≡ 88
unfolding event_bytes
length-event_bytes e owner = length-concat (event_parts e) ∙ ap total_of (widths-event_parts e owner)

module _ (e : Event) (fits : IsFitting e) where
  part : (k : ℕ) → k < 10 → bytes_in (event_bytes e) (part_field event_widths k) ≡ get_or (event_parts e) k []
  unfolding event_bytes
  part k lt = part_in (event_parts e) event_widths k (widths-event_parts e fits.owner) lt

  -- an event is read back from its bytes
  pub event_of-event_bytes : event_of (event_bytes e) ≡ e
  unfolding event_of
  event_of-event_bytes =
      let flags : number_in (event_bytes e) FLAGS ≡ e.flags = number_from (event_bytes e) FLAGS 1 e.flags (part 0 (lit< tt)) fits.flags in
      let slot : number_in (event_bytes e) OWNER_SLOT ≡ e.slot = number_from (event_bytes e) OWNER_SLOT 1 e.slot (part 1 (lit< tt)) fits.slot in
      let tier : number_in (event_bytes e) FEE_TIER ≡ e.tier = number_from (event_bytes e) FEE_TIER 1 e.tier (part 2 (lit< tt)) fits.tier in
      let released : number_in (event_bytes e) NATIVE_QTY_RELEASED ≡ e.released = number_from (event_bytes e) NATIVE_QTY_RELEASED 8 e.released (part 4 (lit< tt)) fits.released in
      let paid : number_in (event_bytes e) NATIVE_QTY_PAID ≡ e.paid = number_from (event_bytes e) NATIVE_QTY_PAID 8 e.paid (part 5 (lit< tt)) fits.paid in
      let fee : number_in (event_bytes e) NATIVE_FEE_OR_REBATE ≡ e.fee_or_rebate = number_from (event_bytes e) NATIVE_FEE_OR_REBATE 8 e.fee_or_rebate (part 6 (lit< tt)) fits.fee_or_rebate in
      let id : number_in (event_bytes e) ORDER_ID ≡ e.id = number_from (event_bytes e) ORDER_ID 16 e.id (part 7 (lit< tt)) fits.id in
      let owner : bytes_in (event_bytes e) OWNER ≡ e.owner.0 = part 8 (lit< tt) in
      let client : number_in (event_bytes e) CLIENT_ORDER_ID ≡ e.client = number_from (event_bytes e) CLIENT_ORDER_ID 8 e.client (part 9 (lit< tt)) fits.client in
      rw (flags, slot, tier, released, paid, fee, id, owner, client) refl
