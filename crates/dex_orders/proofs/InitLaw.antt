-- What the opening of a blank account leaves.
use Rattle.std.proofs.Common.{◌≡◌, ℕ, ◌-◌, ◌^◌, ◌<◌, ◌≤◌, Bool, List, length, get_or, Option, None, refl, sym, ap, ◌∙◌, arith, inl, inr, lit≤, lit<}
use Rattle.std.proofs.lemmas.Bool.{cases_lt, eq-eqb}
use Rattle.std.proofs.lemmas.List.{get_or-replicate, length-replicate}
use Rattle.std.proofs.lemmas.Nat.Bits.{bit_at_ones}
use Rattle.std.specs.Int.{bit_at}
use Rattle.dex_fields.specs.declared.field.Field.{Field}
use Rattle.dex_fields.specs.declared.frame.TheConstants.{END_TEXT, FRONT, FRONT_TEXT}
use Rattle.dex_fields.specs.declared.open_orders.TheConstants.{SERUM, ACCOUNT_FLAGS, MARKET, OWNER, NATIVE_COIN_FREE, NATIVE_COIN_TOTAL, NATIVE_PC_FREE, NATIVE_PC_TOTAL, FREE_SLOT_BITS, IS_BID_BITS, REFERRER_REBATES_ACCRUED, PADDING}
use Rattle.dex_fields.specs.Bytes.{AreApart, bytes_in, end_of, number_in, with_bytes, with_number}
use Rattle.dex_fields.specs.Frame.{IsFramed}
use Rattle.dex_fields.proofs.Places.{AreApart-from_test, bytes_in-other}
use Rattle.dex_fields.proofs.Writing.{bytes_in-with_bytes, bytes_in-with_bytes_apart, length-with_bytes, length-with_number, number_in-with_bytes_apart, number_in-with_number, number_in-with_number_apart}
use Rattle.dex_types.specs.declared.addresses.Address.{Address}
use Rattle.dex_types.specs.Trader.{Holding, no_slots}
use Rattle.dex_orders.specs.Bits.{is_set}
use Rattle.dex_orders.specs.OrdersAccount.{AreDistinct, IsBlank, IsOpen, account_of, client_field, hold_one, holding_of, id_field, market_of, opened, slot_in, slots_of}
use Rattle.dex_orders.proofs.BesideLaw.{account_by, account_of-by}
use Rattle.dex_orders.proofs.BlankLaw.{number_in-zeros}
use Rattle.dex_orders.proofs.SlotLaw.{get_or-slots_of, get_or-slots_of_past, slot_in-from, slots_of-by_each}

module _ (bytes : List ℕ) (market owner : Address) (blank : IsBlank bytes) (market_size : length market.0 ≡ 32) (owner_size : length owner.0 ≡ 32) where
  -- the stages of the opening
  abbrev fronted : List ℕ
  fronted = with_bytes bytes SERUM FRONT_TEXT

  abbrev flagged : List ℕ
  flagged = with_number fronted ACCOUNT_FLAGS 5

  abbrev placed : List ℕ
  placed = with_bytes flagged MARKET market.0

  abbrev owned : List ℕ
  owned = with_bytes placed OWNER owner.0

  abbrev freed : List ℕ
  freed = with_number owned FREE_SLOT_BITS (2 ^ 128 - 1)

  abbrev now : List ℕ
  now = opened bytes market owner

  length-fronted : length fronted ≡ 3228
  length-fronted = length-with_bytes bytes SERUM FRONT_TEXT ∙ blank.size

  length-flagged : length flagged ≡ 3228
  length-flagged = length-with_number fronted ACCOUNT_FLAGS 5 ∙ length-fronted

  length-placed : length placed ≡ 3228
  length-placed = length-with_bytes flagged MARKET market.0 ∙ length-flagged

  length-owned : length owned ≡ 3228
  length-owned = length-with_bytes placed OWNER owner.0 ∙ length-placed

  length-freed : length freed ≡ 3228
  length-freed = length-with_number owned FREE_SLOT_BITS (2 ^ 128 - 1) ∙ length-owned

  length-now : length now ≡ 3228
  length-now = length-with_bytes freed PADDING END_TEXT ∙ length-freed

  -- a field after the owner that is not the mask is zero, as it was
  zero_now : (field : Field) → 77 ≤ field.at → end_of field ≤ 3221 → AreApart field FREE_SLOT_BITS → number_in now field ≡ 0
  zero_now field behind before apart =
      number_in-with_bytes_apart freed field PADDING END_TEXT (inl (omega arith))
      ∙ number_in-with_number_apart owned field FREE_SLOT_BITS (2 ^ 128 - 1) apart
      ∙ number_in-with_bytes_apart placed field OWNER owner.0 (inr (omega arith))
      ∙ number_in-with_bytes_apart flagged field MARKET market.0 (inr (omega arith))
      ∙ number_in-with_number_apart fronted field ACCOUNT_FLAGS 5 (inr (omega arith))
      ∙ number_in-with_bytes_apart bytes field SERUM FRONT_TEXT (inr (omega arith))
      ∙ number_in-zeros bytes blank.zeros field (omega (arith, blank.size))

  mask_now : number_in now FREE_SLOT_BITS ≡ 2 ^ 128 - 1
  mask_now =
      number_in-with_bytes_apart freed FREE_SLOT_BITS PADDING END_TEXT (AreApart-from_test FREE_SLOT_BITS PADDING refl)
      ∙ number_in-with_number owned FREE_SLOT_BITS (2 ^ 128 - 1) (omega (arith, length-owned)) (lit< tt)

  flags_now : number_in now ACCOUNT_FLAGS ≡ 5
  flags_now =
      number_in-with_bytes_apart freed ACCOUNT_FLAGS PADDING END_TEXT (AreApart-from_test ACCOUNT_FLAGS PADDING refl)
      ∙ number_in-with_number_apart owned ACCOUNT_FLAGS FREE_SLOT_BITS (2 ^ 128 - 1) (AreApart-from_test ACCOUNT_FLAGS FREE_SLOT_BITS refl)
      ∙ number_in-with_bytes_apart placed ACCOUNT_FLAGS OWNER owner.0 (AreApart-from_test ACCOUNT_FLAGS OWNER refl)
      ∙ number_in-with_bytes_apart flagged ACCOUNT_FLAGS MARKET market.0 (AreApart-from_test ACCOUNT_FLAGS MARKET refl)
      ∙ number_in-with_number fronted ACCOUNT_FLAGS 5 (omega (arith, length-fronted)) (lit< tt)

  owner_now : bytes_in now OWNER ≡ owner.0
  owner_now =
      bytes_in-with_bytes_apart freed OWNER PADDING END_TEXT (AreApart-from_test OWNER PADDING refl)
      ∙ bytes_in-other owned FREE_SLOT_BITS (2 ^ 128 - 1) OWNER refl
      ∙ bytes_in-with_bytes placed OWNER owner.0 (omega (arith, length-placed)) owner_size

  market_now : bytes_in now MARKET ≡ market.0
  market_now =
      bytes_in-with_bytes_apart freed MARKET PADDING END_TEXT (AreApart-from_test MARKET PADDING refl)
      ∙ bytes_in-other owned FREE_SLOT_BITS (2 ^ 128 - 1) MARKET refl
      ∙ bytes_in-with_bytes_apart placed MARKET OWNER owner.0 (AreApart-from_test MARKET OWNER refl)
      ∙ bytes_in-with_bytes flagged MARKET market.0 (omega (arith, length-flagged)) market_size

  pub market_of-opened : market_of now ≡ market
  market_of-opened =
      let made : List ℕ → Address = λ b. record { 0 = b } in
      ap made market_now

  framed_now : IsFramed now
  framed_now = record {
    front =
        bytes_in-with_bytes_apart freed FRONT PADDING END_TEXT (AreApart-from_test FRONT PADDING refl)
        ∙ bytes_in-other owned FREE_SLOT_BITS (2 ^ 128 - 1) FRONT refl
        ∙ bytes_in-with_bytes_apart placed FRONT OWNER owner.0 (AreApart-from_test FRONT OWNER refl)
        ∙ bytes_in-with_bytes_apart flagged FRONT MARKET market.0 (AreApart-from_test FRONT MARKET refl)
        ∙ bytes_in-other fronted ACCOUNT_FLAGS 5 FRONT refl
        ∙ bytes_in-with_bytes bytes SERUM FRONT_TEXT (omega (arith, blank.size)) refl;
    end =
        let last : ℕ → Field = λ n. record { at = n - 7; len = 7 } in
        ap (λ (n : ℕ). bytes_in now (last n)) length-now
        ∙ bytes_in-with_bytes freed PADDING END_TEXT (omega (arith, length-freed)) refl;
  }

  -- every slot is free
  free_now : (slot : ℕ) → slot < 128 → slot_in now slot ≡ None
  free_now slot lt =
      let held : Bool → Option Holding = λ is_free. holding_of is_free (is_set 0 slot) 0 0 in
      slot_in-from now slot (2 ^ 128 - 1) 0 0 0 mask_now
      (zero_now IS_BID_BITS (lit≤ tt) (lit≤ tt) (AreApart-from_test IS_BID_BITS FREE_SLOT_BITS refl))
      (zero_now (id_field slot) (omega arith) (omega arith) (inr (omega arith)))
      (zero_now (client_field slot) (omega arith) (omega arith) (inr (omega arith)))
      ∙ ap held (eq-eqb (bit_at (2 ^ 128 - 1) slot) 1 (bit_at_ones 128 slot lt))

  slots_now : slots_of now ≡ no_slots
  slots_now =
      slots_of-by_each now no_slots (length-replicate {A = Option Holding} 128 None)
      (λ slot lt. get_or-replicate {A = Option Holding} 128 slot None None lt ∙ sym (free_now slot lt))

  none_at : (slot : ℕ) → get_or (slots_of now) slot None ≡ None
  none_at slot =
      elim (cases_lt slot 128) [
        | inl lt ↦ get_or-slots_of now slot lt ∙ free_now slot lt
        | inr past ↦ get_or-slots_of_past now slot past
      ]

  distinct_now : AreDistinct (slots_of now)
  distinct_now i j lt = ap (λ (x : Option Holding). hold_one x (get_or (slots_of now) i None)) (none_at j)

  coin_free_now : number_in now NATIVE_COIN_FREE ≡ 0
  coin_free_now = zero_now NATIVE_COIN_FREE (lit≤ tt) (lit≤ tt) (AreApart-from_test NATIVE_COIN_FREE FREE_SLOT_BITS refl)

  pc_free_now : number_in now NATIVE_PC_FREE ≡ 0
  pc_free_now = zero_now NATIVE_PC_FREE (lit≤ tt) (lit≤ tt) (AreApart-from_test NATIVE_PC_FREE FREE_SLOT_BITS refl)

  pub account_of-opened : account_of now ≡ account_by owner.0 0 0 0 0 0 no_slots
  account_of-opened =
      account_of-by now owner.0 0 0 0 0 0 no_slots owner_now coin_free_now
      (zero_now NATIVE_COIN_TOTAL (lit≤ tt) (lit≤ tt) (AreApart-from_test NATIVE_COIN_TOTAL FREE_SLOT_BITS refl)) pc_free_now
      (zero_now NATIVE_PC_TOTAL (lit≤ tt) (lit≤ tt) (AreApart-from_test NATIVE_PC_TOTAL FREE_SLOT_BITS refl))
      (zero_now REFERRER_REBATES_ACCRUED (lit≤ tt) (lit≤ tt) (AreApart-from_test REFERRER_REBATES_ACCRUED FREE_SLOT_BITS refl)) slots_now

  pub IsOpen-opened : IsOpen now
  IsOpen-opened = record {
    opened = record {
      size = length-now;
      framed = framed_now;
      coin = omega (arith, coin_free_now);
      pc = omega (arith, pc_free_now);
      distinct = distinct_now;
    };
    flags = flags_now;
  }
