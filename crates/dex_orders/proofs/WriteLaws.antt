-- What writes leave of an open account, by its bytes alone: other funds, an order in a slot, and a slot that is free
-- again.
use Rattle.std.proofs.Common.{◌≡◌, ◌≢◌, ℕ, zero, suc, ◌+◌, ◌-◌, ◌*◌, ◌/◌, ◌%◌, ◌^◌, ◌<◌, Bool, eqb, List, length, set, Some, None, refl, sym, ap, ◌∙◌, subst, arith, lit<}
use Rattle.std.proofs.Math.Nat.{add-mul-div_left, add-mul-mod_self_left, mul_assoc, pow-succ'}
use Rattle.std.proofs.lemmas.Nat.{pow-add, pow_pos}
use Rattle.dex_fields.specs.declared.field.Field.{Field}
use Rattle.dex_fields.specs.declared.open_orders.TheConstants.{NATIVE_COIN_FREE, NATIVE_COIN_TOTAL, NATIVE_PC_FREE, NATIVE_PC_TOTAL, FREE_SLOT_BITS, IS_BID_BITS, REFERRER_REBATES_ACCRUED}
use Rattle.dex_fields.specs.Bytes.{bytes_of_number, number_in, number_of_bytes, with_bytes, with_number}
use Rattle.dex_fields.proofs.Numbers.{bytes_of_number-number_of_bytes, length-bytes_of_number, number_of_bytes-lt}
use Rattle.dex_fields.proofs.Writing.{AreBytes-bytes_of_number, length-with_number, number_in-with_number}
use Rattle.dex_types.specs.declared.terms.Side.{Side}
use Rattle.dex_types.specs.declared.terms.Side.TheVariants.{Bid, Ask}
use Rattle.dex_types.specs.Side.{by_side}
use Rattle.dex_types.specs.Trader.{Account, Holding}
use Rattle.dex_orders.specs.declared.amounts.Funds.{Funds}
use Rattle.dex_orders.specs.Bits.{is_set, with_bit, without_bit}
use Rattle.dex_orders.specs.OrdersAccount.{AreDistinct, FundsFit, HasNoOrder, IsOpen, account_of, added, client_field, funded, holding_of, id_field, market_of, removed, side_by_bit, slots_of, with_funds, with_slot}
use Rattle.dex_orders.proofs.BitLaw.{is_set-with_bit, is_set-with_bit_other, is_set-without_bit, is_set-without_bit_other}
use Rattle.dex_orders.proofs.DistinctLaw.{AreDistinct-add, AreDistinct-remove}
use Rattle.dex_orders.proofs.FundsLaw as funds_law
use Rattle.dex_orders.proofs.SlotWrites.{IsOpen-with_slot, account_of-with_slot, market_of-with_slot}

-- ---- what a field of 16 bytes keeps of a number

abbrev kept : ℕ → ℕ → ℕ
kept count x = number_of_bytes (bytes_of_number count x)

record Low (count x : ℕ) : Type 0 where
  above : ℕ
  is : x ≡ kept count x + 256 ^ count * above

low_more : (x rest above small large : ℕ) → x / 256 ≡ rest + small * above → large ≡ 256 * small → x ≡ (x % 256 + 256 * rest) + large * above
low_more x rest above small large e made =
    let same : large * above ≡ 256 * (small * above) = ap (λ (n : ℕ). n * above) made ∙ mul_assoc 256 small above in
    omega (arith, same, e)

low : (count x : ℕ) → Low count x
unfolding bytes_of_number number_of_bytes
low zero x = record { above = x; is = omega arith }
low (suc count) x =
    let rest : Low count (x / 256) = low count (x / 256) in
    let made : 256 ^ suc count ≡ 256 * 256 ^ count = pow-succ' 256 count in
    record { above = rest.above; is = low_more x (kept count (x / 256)) rest.above (256 ^ count) (256 ^ suc count) rest.is made }

-- a bit below the 128th
same_bit : (x above place j : ℕ) → place + suc j ≡ 128 → 0 < 2 ^ place → is_set (x + 256 ^ 16 * above) place ≡ is_set x place
same_bit x above place j e pos =
    let split : 256 ^ 16 ≡ 2 ^ place * 2 ^ suc j = ap (λ (n : ℕ). 2 ^ n) (sym e) ∙ pow-add 2 place (suc j) in
    let two : 2 ^ suc j ≡ 2 * 2 ^ j = pow-succ' 2 j in
    let moved : 256 ^ 16 * above ≡ 2 ^ place * (2 * (2 ^ j * above)) =
    ap (λ (n : ℕ). n * above) split ∙ mul_assoc (2 ^ place) (2 ^ suc j) above
    ∙ ap (λ (n : ℕ). 2 ^ place * n) (ap (λ (n : ℕ). n * above) two ∙ mul_assoc 2 (2 ^ j) above) in
    ap (λ (n : ℕ). eqb ((x + n) / 2 ^ place % 2) 1) moved
    ∙ ap (λ (n : ℕ). eqb (n % 2) 1) (add-mul-div_left x (2 * (2 ^ j * above)) pos)
    ∙ ap (λ (n : ℕ). eqb n 1) (add-mul-mod_self_left (x / 2 ^ place) 2 (2 ^ j * above))

kept-bit : (x place : ℕ) → place < 128 → is_set (kept 16 x) place ≡ is_set x place
kept-bit x place lt =
    let split : Low 16 x = low 16 x in
    let j : ℕ = 127 - place in
    let e : place + suc j ≡ 128 = omega arith in
    sym (ap (λ (n : ℕ). is_set n place) split.is ∙ same_bit (kept 16 x) split.above place j e (pow_pos place))

kept-lt : (count x : ℕ) → kept count x < 256 ^ count
kept-lt count x =
    subst (λ (n : ℕ). kept count x < 256 ^ n) (length-bytes_of_number count x) (number_of_bytes-lt (bytes_of_number count x) (AreBytes-bytes_of_number count x))

-- a write of a number is one of what the field keeps of it
with_number-kept : (bytes : List ℕ) (field : Field) (x : ℕ) → with_number bytes field x ≡ with_number bytes field (kept field.len x)
unfolding with_number
with_number-kept bytes field x =
    let count = field.len in
    let again : bytes_of_number count (kept count x) ≡ bytes_of_number count x =
    ap (λ (n : ℕ). bytes_of_number n (kept count x)) (sym (length-bytes_of_number count x))
    ∙ bytes_of_number-number_of_bytes (bytes_of_number count x) (AreBytes-bytes_of_number count x) in
    ap (with_bytes bytes field) (sym again)

-- ---- one slot

module _ (bytes : List ℕ) (slot free_bits bid_bits id client : ℕ) (accepted : IsOpen bytes) (lt : slot < 128) (id_fits : id < 2 ^ 128) (client_fits : client < 2 ^ 64)
    (free_others : (other : ℕ) → other < 128 → other ≢ slot → is_set free_bits other ≡ is_set (number_in bytes FREE_SLOT_BITS) other)
    (bid_others : (other : ℕ) → other < 128 → other ≢ slot → is_set bid_bits other ≡ is_set (number_in bytes IS_BID_BITS) other) where
  with_slot-kept : with_slot bytes slot free_bits bid_bits id client ≡ with_slot bytes slot (kept 16 free_bits) (kept 16 bid_bits) id client
  with_slot-kept =
      ap (λ (b : List ℕ). with_number (with_number (with_number b IS_BID_BITS bid_bits) (id_field slot) id) (client_field slot) client) (with_number-kept bytes FREE_SLOT_BITS free_bits)
      ∙ ap (λ (b : List ℕ). with_number (with_number b (id_field slot) id) (client_field slot) client)
      (with_number-kept (with_number bytes FREE_SLOT_BITS (kept 16 free_bits)) IS_BID_BITS bid_bits)

  account_of-slotted : account_of (with_slot bytes slot free_bits bid_bits id client)
      ≡ record (account_of bytes) { slots = set (slots_of bytes) slot (holding_of (is_set free_bits slot) (is_set bid_bits slot) id client) }
  account_of-slotted =
      let slotted : Bool → Bool → Account = λ is_free is_bid. record (account_of bytes) { slots = set (slots_of bytes) slot (holding_of is_free is_bid id client) } in
      ap account_of with_slot-kept
      ∙ account_of-with_slot bytes slot (kept 16 free_bits) (kept 16 bid_bits) id client accepted.opened.size lt (kept-lt 16 free_bits) (kept-lt 16 bid_bits) id_fits client_fits
      (λ other low apart. kept-bit free_bits other low ∙ free_others other low apart)
      (λ other low apart. kept-bit bid_bits other low ∙ bid_others other low apart)
      ∙ ap (λ (b : Bool). slotted b (is_set (kept 16 bid_bits) slot)) (kept-bit free_bits slot lt)
      ∙ ap (slotted (is_set free_bits slot)) (kept-bit bid_bits slot lt)

-- ---- a slot that is free again

module _ (bytes : List ℕ) (slot : ℕ) (accepted : IsOpen bytes) (lt : slot < 128) where
  pub account_of-removed : account_of (removed bytes slot) ≡ record (account_of bytes) { slots = set (account_of bytes).slots slot None }
  account_of-removed =
      let free_bits = with_bit (number_in bytes FREE_SLOT_BITS) slot in
      let bid_bits = without_bit (number_in bytes IS_BID_BITS) slot in
      let slotted : Bool → Account = λ is_free. record (account_of bytes) { slots = set (slots_of bytes) slot (holding_of is_free (is_set bid_bits slot) 0 0) } in
      account_of-slotted bytes slot free_bits bid_bits 0 0 accepted lt (lit< tt) (lit< tt)
      (λ other low apart. is_set-with_bit_other (number_in bytes FREE_SLOT_BITS) slot lt other apart)
      (λ other low apart. is_set-without_bit_other (number_in bytes IS_BID_BITS) slot lt other low apart)
      ∙ ap slotted (is_set-with_bit (number_in bytes FREE_SLOT_BITS) slot lt)

  pub market_of-removed : market_of (removed bytes slot) ≡ market_of bytes
  market_of-removed =
      market_of-with_slot bytes slot (with_bit (number_in bytes FREE_SLOT_BITS) slot) (without_bit (number_in bytes IS_BID_BITS) slot) 0 0 accepted.opened.size lt

  pub IsOpen-removed : IsOpen (removed bytes slot)
  IsOpen-removed =
      IsOpen-with_slot bytes slot (with_bit (number_in bytes FREE_SLOT_BITS) slot) (without_bit (number_in bytes IS_BID_BITS) slot) 0 0 accepted.opened.size lt accepted
      (subst AreDistinct (sym (ap (λ (a : Account). a.slots) account_of-removed)) (AreDistinct-remove (slots_of bytes) slot accepted.opened.distinct))

-- ---- an order in a slot

-- the side bits with the slot's for this side
abbrev sided : Side → ℕ → ℕ → ℕ
sided side bits slot = by_side side (with_bit bits slot) (without_bit bits slot)

sided-same : (side : Side) (bits slot : ℕ) → slot < 128 → side_by_bit (is_set (sided side bits slot) slot) ≡ side
sided-same Bid bits slot lt = ap side_by_bit (is_set-with_bit bits slot lt)
sided-same Ask bits slot lt = ap side_by_bit (is_set-without_bit bits slot lt)

sided-other : (side : Side) (bits slot : ℕ) → slot < 128 → (other : ℕ) → other < 128 → other ≢ slot → is_set (sided side bits slot) other ≡ is_set bits other
sided-other Bid bits slot lt other low apart = is_set-with_bit_other bits slot lt other apart
sided-other Ask bits slot lt other low apart = is_set-without_bit_other bits slot lt other low apart

module _ (bytes : List ℕ) (slot id : ℕ) (side : Side) (client : ℕ) (accepted : IsOpen bytes) (lt : slot < 128) (id_fits : id < 2 ^ 128) (client_fits : client < 2 ^ 64) where
  abbrev added_as : Side → Account
  added_as told = record (account_of bytes) { slots = set (account_of bytes).slots slot (Some (record { id = id; side = told; client = client })) }

  pub account_of-added : account_of (added bytes slot id side client) ≡ added_as side
  account_of-added =
      let free_bits = without_bit (number_in bytes FREE_SLOT_BITS) slot in
      let bid_bits = sided side (number_in bytes IS_BID_BITS) slot in
      let slotted : Bool → Account = λ is_free. record (account_of bytes) { slots = set (slots_of bytes) slot (holding_of is_free (is_set bid_bits slot) id client) } in
      account_of-slotted bytes slot free_bits bid_bits id client accepted lt id_fits client_fits
      (λ other low apart. is_set-without_bit_other (number_in bytes FREE_SLOT_BITS) slot lt other low apart)
      (sided-other side (number_in bytes IS_BID_BITS) slot lt)
      ∙ ap slotted (is_set-without_bit (number_in bytes FREE_SLOT_BITS) slot lt)
      ∙ ap added_as (sided-same side (number_in bytes IS_BID_BITS) slot lt)

  pub market_of-added : market_of (added bytes slot id side client) ≡ market_of bytes
  market_of-added =
      market_of-with_slot bytes slot (without_bit (number_in bytes FREE_SLOT_BITS) slot) (sided side (number_in bytes IS_BID_BITS) slot) id client accepted.opened.size lt

  pub IsOpen-added : HasNoOrder id side (account_of bytes).slots → IsOpen (added bytes slot id side client)
  IsOpen-added fresh =
      let held : Holding = record { id = id; side = side; client = client } in
      IsOpen-with_slot bytes slot (without_bit (number_in bytes FREE_SLOT_BITS) slot) (sided side (number_in bytes IS_BID_BITS) slot) id client accepted.opened.size lt accepted
      (subst AreDistinct (sym (ap (λ (a : Account). a.slots) account_of-added)) (AreDistinct-add (slots_of bytes) slot held accepted.opened.distinct fresh))

-- ---- other funds

module _ (bytes : List ℕ) (funds : Funds) (accepted : IsOpen bytes) (fit : FundsFit funds) where
  abbrev b1 : List ℕ
  b1 = with_number bytes NATIVE_COIN_FREE funds.coin_free

  abbrev b2 : List ℕ
  b2 = with_number b1 NATIVE_COIN_TOTAL funds.coin_total

  abbrev b3 : List ℕ
  b3 = with_number b2 NATIVE_PC_FREE funds.pc_free

  abbrev b4 : List ℕ
  b4 = with_number b3 NATIVE_PC_TOTAL funds.pc_total

  s1 : length b1 ≡ 3228
  s1 = length-with_number bytes NATIVE_COIN_FREE funds.coin_free ∙ accepted.opened.size

  s2 : length b2 ≡ 3228
  s2 = length-with_number b1 NATIVE_COIN_TOTAL funds.coin_total ∙ s1

  s3 : length b3 ≡ 3228
  s3 = length-with_number b2 NATIVE_PC_FREE funds.pc_free ∙ s2

  s4 : length b4 ≡ 3228
  s4 = length-with_number b3 NATIVE_PC_TOTAL funds.pc_total ∙ s3

  g1 : number_in b1 NATIVE_COIN_FREE ≡ funds.coin_free
  g1 = number_in-with_number bytes NATIVE_COIN_FREE funds.coin_free (omega (arith, accepted.opened.size)) (omega (arith, fit.coin, fit.coin_total))

  g2 : number_in b2 NATIVE_COIN_TOTAL ≡ funds.coin_total
  g2 = number_in-with_number b1 NATIVE_COIN_TOTAL funds.coin_total (omega (arith, s1)) fit.coin_total

  g3 : number_in b3 NATIVE_PC_FREE ≡ funds.pc_free
  g3 = number_in-with_number b2 NATIVE_PC_FREE funds.pc_free (omega (arith, s2)) (omega (arith, fit.pc, fit.pc_total))

  g4 : number_in b4 NATIVE_PC_TOTAL ≡ funds.pc_total
  g4 = number_in-with_number b3 NATIVE_PC_TOTAL funds.pc_total (omega (arith, s3)) fit.pc_total

  g5 : number_in (funded bytes funds) REFERRER_REBATES_ACCRUED ≡ funds.referrer
  g5 = number_in-with_number b4 REFERRER_REBATES_ACCRUED funds.referrer (omega (arith, s4)) fit.referrer

  pub account_of-funded : account_of (funded bytes funds) ≡ with_funds funds (account_of bytes)
  account_of-funded = funds_law.account_of-funded bytes b1 b2 b3 b4 (funded bytes funds) funds accepted.opened.size refl g1 refl g2 refl g3 refl g4 refl g5

  pub market_of-funded : market_of (funded bytes funds) ≡ market_of bytes
  market_of-funded = funds_law.market_of-funded bytes b1 b2 b3 b4 (funded bytes funds) funds accepted.opened.size refl g1 refl g2 refl g3 refl g4 refl g5

  pub IsOpen-funded : IsOpen (funded bytes funds)
  IsOpen-funded =
      funds_law.IsOpen-funded bytes b1 b2 b3 b4 (funded bytes funds) funds accepted.opened.size refl g1 refl g2 refl g3 refl g4 refl g5 accepted fit.coin fit.pc
