-- What a write of one slot's four parts leaves of an open account.
use Rattle.std.proofs.Common.{◌≡◌, ◌≢◌, ℕ, ◌^◌, ◌<◌, ◌≤◌, List, length, set, refl, ap, ◌∙◌, arith, inl, inr, lit≤}
use Rattle.dex_fields.specs.declared.field.Field.{Field}
use Rattle.dex_fields.specs.declared.open_orders.TheConstants.{ACCOUNT_FLAGS, MARKET, OWNER, NATIVE_COIN_FREE, NATIVE_COIN_TOTAL, NATIVE_PC_FREE, NATIVE_PC_TOTAL, FREE_SLOT_BITS, IS_BID_BITS, ORDERS, CLIENT_ORDER_IDS, REFERRER_REBATES_ACCRUED}
use Rattle.dex_fields.specs.Bytes.{AreApart, bytes_in, end_of, number_in, with_number}
use Rattle.dex_fields.specs.Frame.{IsFramed}
use Rattle.dex_fields.proofs.FrameLaw.{IsFramed-with_number}
use Rattle.dex_fields.proofs.Places.{AreApart-item_of, number_in-other}
use Rattle.dex_fields.proofs.Writing.{bytes_in-with_number_apart, length-with_number, number_in-with_number, number_in-with_number_apart}
use Rattle.dex_types.specs.declared.addresses.Address.{Address}
use Rattle.dex_orders.specs.Bits.{is_set}
use Rattle.dex_orders.specs.OrdersAccount.{AreDistinct, IsOpen, account_of, client_field, holding_of, id_field, market_of, slots_of, with_slot}
use Rattle.dex_orders.proofs.BesideLaw.{account_of-by}
use Rattle.dex_orders.proofs.SlotLaw.{slot_in-from, slot_in-same, slots_of-set}

module _ (bytes : List ℕ) (slot free_bits bid_bits id client : ℕ) (size : length bytes ≡ 3228) (lt : slot < 128) where
  -- the stages of the write
  abbrev freed : List ℕ
  freed = with_number bytes FREE_SLOT_BITS free_bits

  abbrev sided : List ℕ
  sided = with_number freed IS_BID_BITS bid_bits

  abbrev named : List ℕ
  named = with_number sided (id_field slot) id

  abbrev last : List ℕ
  last = with_slot bytes slot free_bits bid_bits id client

  length-freed : length freed ≡ 3228
  length-freed = length-with_number bytes FREE_SLOT_BITS free_bits ∙ size

  length-sided : length sided ≡ 3228
  length-sided = length-with_number freed IS_BID_BITS bid_bits ∙ length-freed

  length-named : length named ≡ 3228
  length-named = length-with_number sided (id_field slot) id ∙ length-sided

  pub length-with_slot : length last ≡ 3228
  length-with_slot = length-with_number named (client_field slot) client ∙ length-named

  -- a field that is apart from all four
  number_apart : (other : Field) → AreApart other FREE_SLOT_BITS → AreApart other IS_BID_BITS → AreApart other (id_field slot) → AreApart other (client_field slot)
      → number_in last other ≡ number_in bytes other
  number_apart other a b c d =
      number_in-with_number_apart named other (client_field slot) client d ∙ number_in-with_number_apart sided other (id_field slot) id c
      ∙ number_in-with_number_apart freed other IS_BID_BITS bid_bits b ∙ number_in-with_number_apart bytes other FREE_SLOT_BITS free_bits a

  -- a field that stands before the slots
  pub number_before : (other : Field) → end_of other ≤ 109 → number_in last other ≡ number_in bytes other
  number_before other low = number_apart other (inl low) (inl (omega arith)) (inl (omega arith)) (inl (omega arith))

  pub bytes_before : (other : Field) → end_of other ≤ 109 → bytes_in last other ≡ bytes_in bytes other
  bytes_before other low =
      bytes_in-with_number_apart named other (client_field slot) client (inl (omega arith)) ∙ bytes_in-with_number_apart sided other (id_field slot) id (inl (omega arith))
      ∙ bytes_in-with_number_apart freed other IS_BID_BITS bid_bits (inl (omega arith)) ∙ bytes_in-with_number_apart bytes other FREE_SLOT_BITS free_bits (inl low)

  -- the field after them
  pub referrer_behind : number_in last REFERRER_REBATES_ACCRUED ≡ number_in bytes REFERRER_REBATES_ACCRUED
  referrer_behind = number_apart REFERRER_REBATES_ACCRUED (inr (omega arith)) (inr (omega arith)) (inr (omega arith)) (inr (omega arith))

  pub framed-with_slot : IsFramed bytes → IsFramed last
  framed-with_slot framed =
      IsFramed-with_number named (client_field slot) client (omega arith) (omega (arith, length-named))
      (IsFramed-with_number sided (id_field slot) id (omega arith) (omega (arith, length-sided))
      (IsFramed-with_number freed IS_BID_BITS bid_bits (lit≤ tt) (omega (arith, length-freed))
      (IsFramed-with_number bytes FREE_SLOT_BITS free_bits (lit≤ tt) (omega (arith, size)) framed)))

  -- another slot keeps its id and its client id
  other_id : (other : ℕ) → other < 128 → other ≢ slot → number_in last (id_field other) ≡ number_in bytes (id_field other)
  other_id other low apart =
      number_apart (id_field other) (inr (omega arith)) (inr (omega arith)) (AreApart-item_of ORDERS 16 other slot apart) (inl (omega arith))

  other_client : (other : ℕ) → other < 128 → other ≢ slot → number_in last (client_field other) ≡ number_in bytes (client_field other)
  other_client other low apart =
      number_apart (client_field other) (inr (omega arith)) (inr (omega arith)) (inr (omega arith)) (AreApart-item_of CLIENT_ORDER_IDS 8 other slot apart)

  module _ (free_fits : free_bits < 2 ^ 128) (bid_fits : bid_bits < 2 ^ 128) (id_fits : id < 2 ^ 128) (client_fits : client < 2 ^ 64) where
    free_now : number_in last FREE_SLOT_BITS ≡ free_bits
    free_now =
        number_in-with_number_apart named FREE_SLOT_BITS (client_field slot) client (inl (omega arith))
        ∙ number_in-with_number_apart sided FREE_SLOT_BITS (id_field slot) id (inl (omega arith))
        ∙ number_in-other freed IS_BID_BITS bid_bits FREE_SLOT_BITS refl
        ∙ number_in-with_number bytes FREE_SLOT_BITS free_bits (omega (arith, size)) free_fits

    bid_now : number_in last IS_BID_BITS ≡ bid_bits
    bid_now =
        number_in-with_number_apart named IS_BID_BITS (client_field slot) client (inl (omega arith))
        ∙ number_in-with_number_apart sided IS_BID_BITS (id_field slot) id (inl (omega arith))
        ∙ number_in-with_number freed IS_BID_BITS bid_bits (omega (arith, length-freed)) bid_fits

    id_now : number_in last (id_field slot) ≡ id
    id_now =
        number_in-with_number_apart named (id_field slot) (client_field slot) client (inl (omega arith))
        ∙ number_in-with_number sided (id_field slot) id (omega (arith, length-sided)) id_fits

    client_now : number_in last (client_field slot) ≡ client
    client_now = number_in-with_number named (client_field slot) client (omega (arith, length-named)) client_fits

    module _ (free_others : (other : ℕ) → other < 128 → other ≢ slot → is_set free_bits other ≡ is_set (number_in bytes FREE_SLOT_BITS) other)
        (bid_others : (other : ℕ) → other < 128 → other ≢ slot → is_set bid_bits other ≡ is_set (number_in bytes IS_BID_BITS) other) where
      -- the slot holds what was written, and every other slot what it held
      pub slots_of-with_slot : slots_of last ≡ set (slots_of bytes) slot (holding_of (is_set free_bits slot) (is_set bid_bits slot) id client)
      slots_of-with_slot =
          slots_of-set bytes last slot _ lt (slot_in-from last slot free_bits bid_bits id client free_now bid_now id_now client_now) (λ other low apart.
          slot_in-same bytes last other
          (ap (λ (n : ℕ). is_set n other) free_now ∙ free_others other low apart)
          (ap (λ (n : ℕ). is_set n other) bid_now ∙ bid_others other low apart)
          (other_id other low apart) (other_client other low apart))

      pub account_of-with_slot : account_of last
          ≡ record (account_of bytes) { slots = set (slots_of bytes) slot (holding_of (is_set free_bits slot) (is_set bid_bits slot) id client) }
      account_of-with_slot =
          account_of-by last (bytes_in bytes OWNER) (number_in bytes NATIVE_COIN_FREE) (number_in bytes NATIVE_COIN_TOTAL) (number_in bytes NATIVE_PC_FREE) (number_in bytes NATIVE_PC_TOTAL)
          (number_in bytes REFERRER_REBATES_ACCRUED) _ (bytes_before OWNER (lit≤ tt)) (number_before NATIVE_COIN_FREE (lit≤ tt)) (number_before NATIVE_COIN_TOTAL (lit≤ tt))
          (number_before NATIVE_PC_FREE (lit≤ tt)) (number_before NATIVE_PC_TOTAL (lit≤ tt)) referrer_behind slots_of-with_slot

  pub market_of-with_slot : market_of last ≡ market_of bytes
  market_of-with_slot =
      let made : List ℕ → Address = λ b. record { 0 = b } in
      ap made (bytes_before MARKET (lit≤ tt))

  pub IsOpen-with_slot : IsOpen bytes → AreDistinct (slots_of last) → IsOpen last
  IsOpen-with_slot open_before distinct = record {
    opened = record {
      size = length-with_slot;
      framed = framed-with_slot open_before.opened.framed;
      coin = omega (arith, number_before NATIVE_COIN_FREE (lit≤ tt), number_before NATIVE_COIN_TOTAL (lit≤ tt), open_before.opened.coin);
      pc = omega (arith, number_before NATIVE_PC_FREE (lit≤ tt), number_before NATIVE_PC_TOTAL (lit≤ tt), open_before.opened.pc);
      distinct = distinct;
    };
    flags = number_before ACCOUNT_FLAGS (lit≤ tt) ∙ open_before.flags;
  }
