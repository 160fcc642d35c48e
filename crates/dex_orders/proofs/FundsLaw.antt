-- What a write of the funds, and one of the flags, leaves of an open account.
use Rattle.std.proofs.Common.{◌≡◌, ℕ, ◌≤◌, List, length, refl, sym, ap, ◌∙◌, subst, arith, inl, inr, lit≤}
use Rattle.dex_fields.specs.declared.open_orders.TheConstants.{ACCOUNT_FLAGS, MARKET, OWNER, NATIVE_COIN_FREE, NATIVE_COIN_TOTAL, NATIVE_PC_FREE, NATIVE_PC_TOTAL, REFERRER_REBATES_ACCRUED}
use Rattle.dex_fields.specs.Bytes.{bytes_in, number_in, with_number}
use Rattle.dex_types.specs.declared.addresses.Address.{Address}
use Rattle.dex_orders.specs.declared.amounts.Funds.{Funds}
use Rattle.dex_orders.specs.OrdersAccount.{AreDistinct, IsOpen, IsOpened, account_of, market_of, slots_of, with_funds}
use Rattle.dex_orders.proofs.BesideLaw.{account_of-by, bytes_kept, framed_kept, length_kept, number_kept, slots_kept}

-- an address by the bytes of its field
address_by : (old new : List ℕ) → bytes_in new MARKET ≡ bytes_in old MARKET → market_of new ≡ market_of old
address_by old new same =
    let made : List ℕ → Address = λ b. record { 0 = b } in
    ap made same

-- ---- the five words, one after another

module _ (b0 b1 b2 b3 b4 b5 : List ℕ) (funds : Funds) (size : length b0 ≡ 3228)
    (m1 : b1 ≡ with_number b0 NATIVE_COIN_FREE funds.coin_free) (g1 : number_in b1 NATIVE_COIN_FREE ≡ funds.coin_free)
    (m2 : b2 ≡ with_number b1 NATIVE_COIN_TOTAL funds.coin_total) (g2 : number_in b2 NATIVE_COIN_TOTAL ≡ funds.coin_total)
    (m3 : b3 ≡ with_number b2 NATIVE_PC_FREE funds.pc_free) (g3 : number_in b3 NATIVE_PC_FREE ≡ funds.pc_free)
    (m4 : b4 ≡ with_number b3 NATIVE_PC_TOTAL funds.pc_total) (g4 : number_in b4 NATIVE_PC_TOTAL ≡ funds.pc_total)
    (m5 : b5 ≡ with_number b4 REFERRER_REBATES_ACCRUED funds.referrer) (g5 : number_in b5 REFERRER_REBATES_ACCRUED ≡ funds.referrer) where
  coin_free : number_in b5 NATIVE_COIN_FREE ≡ funds.coin_free
  coin_free =
      number_kept b4 b5 REFERRER_REBATES_ACCRUED funds.referrer m5 NATIVE_COIN_FREE refl ∙ number_kept b3 b4 NATIVE_PC_TOTAL funds.pc_total m4 NATIVE_COIN_FREE refl
      ∙ number_kept b2 b3 NATIVE_PC_FREE funds.pc_free m3 NATIVE_COIN_FREE refl ∙ number_kept b1 b2 NATIVE_COIN_TOTAL funds.coin_total m2 NATIVE_COIN_FREE refl ∙ g1

  coin_total : number_in b5 NATIVE_COIN_TOTAL ≡ funds.coin_total
  coin_total =
      number_kept b4 b5 REFERRER_REBATES_ACCRUED funds.referrer m5 NATIVE_COIN_TOTAL refl ∙ number_kept b3 b4 NATIVE_PC_TOTAL funds.pc_total m4 NATIVE_COIN_TOTAL refl
      ∙ number_kept b2 b3 NATIVE_PC_FREE funds.pc_free m3 NATIVE_COIN_TOTAL refl ∙ g2

  pc_free : number_in b5 NATIVE_PC_FREE ≡ funds.pc_free
  pc_free =
      number_kept b4 b5 REFERRER_REBATES_ACCRUED funds.referrer m5 NATIVE_PC_FREE refl ∙ number_kept b3 b4 NATIVE_PC_TOTAL funds.pc_total m4 NATIVE_PC_FREE refl ∙ g3

  pc_total : number_in b5 NATIVE_PC_TOTAL ≡ funds.pc_total
  pc_total = number_kept b4 b5 REFERRER_REBATES_ACCRUED funds.referrer m5 NATIVE_PC_TOTAL refl ∙ g4

  flags : number_in b5 ACCOUNT_FLAGS ≡ number_in b0 ACCOUNT_FLAGS
  flags =
      number_kept b4 b5 REFERRER_REBATES_ACCRUED funds.referrer m5 ACCOUNT_FLAGS refl ∙ number_kept b3 b4 NATIVE_PC_TOTAL funds.pc_total m4 ACCOUNT_FLAGS refl
      ∙ number_kept b2 b3 NATIVE_PC_FREE funds.pc_free m3 ACCOUNT_FLAGS refl ∙ number_kept b1 b2 NATIVE_COIN_TOTAL funds.coin_total m2 ACCOUNT_FLAGS refl
      ∙ number_kept b0 b1 NATIVE_COIN_FREE funds.coin_free m1 ACCOUNT_FLAGS refl

  owner : bytes_in b5 OWNER ≡ bytes_in b0 OWNER
  owner =
      bytes_kept b4 b5 REFERRER_REBATES_ACCRUED funds.referrer m5 OWNER refl ∙ bytes_kept b3 b4 NATIVE_PC_TOTAL funds.pc_total m4 OWNER refl
      ∙ bytes_kept b2 b3 NATIVE_PC_FREE funds.pc_free m3 OWNER refl ∙ bytes_kept b1 b2 NATIVE_COIN_TOTAL funds.coin_total m2 OWNER refl
      ∙ bytes_kept b0 b1 NATIVE_COIN_FREE funds.coin_free m1 OWNER refl

  pub market_of-funded : market_of b5 ≡ market_of b0
  market_of-funded =
      address_by b0 b5
      (bytes_kept b4 b5 REFERRER_REBATES_ACCRUED funds.referrer m5 MARKET refl ∙ bytes_kept b3 b4 NATIVE_PC_TOTAL funds.pc_total m4 MARKET refl
      ∙ bytes_kept b2 b3 NATIVE_PC_FREE funds.pc_free m3 MARKET refl ∙ bytes_kept b1 b2 NATIVE_COIN_TOTAL funds.coin_total m2 MARKET refl
      ∙ bytes_kept b0 b1 NATIVE_COIN_FREE funds.coin_free m1 MARKET refl)

  slots : slots_of b5 ≡ slots_of b0
  slots =
      slots_kept b4 b5 REFERRER_REBATES_ACCRUED funds.referrer m5 (inr (lit≤ tt)) ∙ slots_kept b3 b4 NATIVE_PC_TOTAL funds.pc_total m4 (inl (lit≤ tt))
      ∙ slots_kept b2 b3 NATIVE_PC_FREE funds.pc_free m3 (inl (lit≤ tt)) ∙ slots_kept b1 b2 NATIVE_COIN_TOTAL funds.coin_total m2 (inl (lit≤ tt))
      ∙ slots_kept b0 b1 NATIVE_COIN_FREE funds.coin_free m1 (inl (lit≤ tt))

  pub account_of-funded : account_of b5 ≡ with_funds funds (account_of b0)
  account_of-funded =
      account_of-by b5 (bytes_in b0 OWNER) funds.coin_free funds.coin_total funds.pc_free funds.pc_total funds.referrer (slots_of b0) owner coin_free coin_total pc_free pc_total g5 slots

  s1 : length b1 ≡ 3228
  s1 = length_kept b0 b1 NATIVE_COIN_FREE funds.coin_free m1 ∙ size

  s2 : length b2 ≡ 3228
  s2 = length_kept b1 b2 NATIVE_COIN_TOTAL funds.coin_total m2 ∙ s1

  s3 : length b3 ≡ 3228
  s3 = length_kept b2 b3 NATIVE_PC_FREE funds.pc_free m3 ∙ s2

  s4 : length b4 ≡ 3228
  s4 = length_kept b3 b4 NATIVE_PC_TOTAL funds.pc_total m4 ∙ s3

  pub IsOpen-funded : IsOpen b0 → funds.coin_free ≤ funds.coin_total → funds.pc_free ≤ funds.pc_total → IsOpen b5
  IsOpen-funded before coin pc = record {
    opened = record {
      size = length_kept b4 b5 REFERRER_REBATES_ACCRUED funds.referrer m5 ∙ s4;
      framed =
          framed_kept b4 b5 REFERRER_REBATES_ACCRUED funds.referrer m5 (lit≤ tt) (omega (arith, s4))
          (framed_kept b3 b4 NATIVE_PC_TOTAL funds.pc_total m4 (lit≤ tt) (omega (arith, s3))
          (framed_kept b2 b3 NATIVE_PC_FREE funds.pc_free m3 (lit≤ tt) (omega (arith, s2))
          (framed_kept b1 b2 NATIVE_COIN_TOTAL funds.coin_total m2 (lit≤ tt) (omega (arith, s1))
          (framed_kept b0 b1 NATIVE_COIN_FREE funds.coin_free m1 (lit≤ tt) (omega (arith, size)) before.opened.framed))));
      coin = omega (arith, coin_free, coin_total);
      pc = omega (arith, pc_free, pc_total);
      distinct = subst AreDistinct (sym slots) before.opened.distinct;
    };
    flags = flags ∙ before.flags;
  }

-- ---- the flags

module _ (old new : List ℕ) (x : ℕ) (made : new ≡ with_number old ACCOUNT_FLAGS x) where
  flags_slots : slots_of new ≡ slots_of old
  flags_slots = slots_kept old new ACCOUNT_FLAGS x made (inl (lit≤ tt))

  pub market_of-flagged : market_of new ≡ market_of old
  market_of-flagged = address_by old new (bytes_kept old new ACCOUNT_FLAGS x made MARKET refl)

  pub account_of-flagged : account_of new ≡ account_of old
  account_of-flagged =
      account_of-by new (bytes_in old OWNER) (number_in old NATIVE_COIN_FREE) (number_in old NATIVE_COIN_TOTAL) (number_in old NATIVE_PC_FREE) (number_in old NATIVE_PC_TOTAL)
      (number_in old REFERRER_REBATES_ACCRUED) (slots_of old) (bytes_kept old new ACCOUNT_FLAGS x made OWNER refl) (number_kept old new ACCOUNT_FLAGS x made NATIVE_COIN_FREE refl)
      (number_kept old new ACCOUNT_FLAGS x made NATIVE_COIN_TOTAL refl) (number_kept old new ACCOUNT_FLAGS x made NATIVE_PC_FREE refl)
      (number_kept old new ACCOUNT_FLAGS x made NATIVE_PC_TOTAL refl) (number_kept old new ACCOUNT_FLAGS x made REFERRER_REBATES_ACCRUED refl) flags_slots

  pub IsOpened-flagged : IsOpened old → IsOpened new
  IsOpened-flagged before = record {
    size = length_kept old new ACCOUNT_FLAGS x made ∙ before.size;
    framed = framed_kept old new ACCOUNT_FLAGS x made (lit≤ tt) (omega (arith, before.size)) before.framed;
    coin = omega (arith, number_kept old new ACCOUNT_FLAGS x made NATIVE_COIN_FREE refl, number_kept old new ACCOUNT_FLAGS x made NATIVE_COIN_TOTAL refl, before.coin);
    pc = omega (arith, number_kept old new ACCOUNT_FLAGS x made NATIVE_PC_FREE refl, number_kept old new ACCOUNT_FLAGS x made NATIVE_PC_TOTAL refl, before.pc);
    distinct = subst AreDistinct (sym flags_slots) before.distinct;
  }
