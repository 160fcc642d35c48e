-- One bit of a mask of 128 after it was set or cleared.
use Rattle.std.proofs.Common.{◌≡◌, ◌≢◌, ℕ, ◌*◌, ◌%◌, ◌^◌, ◌<◌, eqb, true, false, bit_and, bit_or, sym, ap, ◌∙◌}
use Rattle.std.proofs.lemmas.Bool.{eq-eqb}
use Rattle.std.proofs.lemmas.Nat.{one_shl}
use Rattle.std.proofs.lemmas.Nat.Bits.{bit_at_clear_other, bit_at_clear_same, bit_at_set_other, bit_at_set_same}
use Rattle.std.specs.Int.{bit_at, bit_not, w128}
use Rattle.dex_orders.specs.Bits.{is_set, with_bit, without_bit}

module _ (bits place : ℕ) (within : place < 128) where
  -- `1 << place`
  mask : 1 * 2 ^ place % 2 ^ 128 ≡ 2 ^ place
  mask = one_shl place 128 within

  pub with_bit-is : bit_or bits (1 * 2 ^ place % 2 ^ 128) ≡ with_bit bits place
  unfolding with_bit
  with_bit-is = ap (bit_or bits) mask

  pub without_bit-is : bit_and bits (bit_not w128 (1 * 2 ^ place % 2 ^ 128)) ≡ without_bit bits place
  unfolding without_bit
  without_bit-is = ap (λ (m : ℕ). bit_and bits (bit_not w128 m)) mask

  pub is_set-with_bit : is_set (with_bit bits place) place ≡ true
  is_set-with_bit =
      eq-eqb (bit_at (with_bit bits place) place) 1 (ap (λ (n : ℕ). bit_at n place) (sym with_bit-is) ∙ bit_at_set_same w128 bits place within)

  pub is_set-without_bit : is_set (without_bit bits place) place ≡ false
  is_set-without_bit =
      let clear : bit_at (without_bit bits place) place ≡ 0 = ap (λ (n : ℕ). bit_at n place) (sym without_bit-is) ∙ bit_at_clear_same w128 bits place within in
      ap (λ (b : ℕ). eqb b 1) clear

  pub is_set-with_bit_other : (other : ℕ) → other ≢ place → is_set (with_bit bits place) other ≡ is_set bits other
  is_set-with_bit_other other apart =
      ap (λ (b : ℕ). eqb b 1) (ap (λ (n : ℕ). bit_at n other) (sym with_bit-is) ∙ bit_at_set_other w128 bits place within other apart)

  pub is_set-without_bit_other : (other : ℕ) → other < 128 → other ≢ place → is_set (without_bit bits place) other ≡ is_set bits other
  is_set-without_bit_other other low apart =
      ap (λ (b : ℕ). eqb b 1) (ap (λ (n : ℕ). bit_at n other) (sym without_bit-is) ∙ bit_at_clear_other w128 bits place within other low apart)
