-- What the type of client ids asks of those that are read.
use Rattle.std.proofs.Common.{◌≡◌, ℕ, zero, suc, ◌+◌, ◌-◌, ◌≤◌, List, ◌++◌, length, replicate, get_or, min, max, arith, refl, ap, ◌∙◌}
use Rattle.std.specs.Prelude.{slice_index}
use Rattle.std.proofs.Math.Seq.{get_or-append_right}
use Rattle.dex_instruction.specs.Numbers.{numbers_at}

-- as many numbers as were asked for
pub length-numbers_at : (count place : ℕ) (bytes : List ℕ) → length (numbers_at count place bytes) ≡ count
unfolding numbers_at
length-numbers_at zero place bytes = refl
length-numbers_at (suc count) place bytes = ap suc (length-numbers_at count (place + 8) bytes)

-- the count of client ids is at least one
pub is_some : (n : ℕ) → 1 ≤ max 1 (min 8 n)
is_some n = omega arith

-- the count of client ids is at most eight
pub is_at_most_eight : (n : ℕ) → max 1 (min 8 n) ≤ 8
is_at_most_eight n = omega arith

replicate-zeros : (n i : ℕ) → get_or (replicate {A = ℕ} n 0) i 0 ≡ zero
replicate-zeros zero i = refl
replicate-zeros (suc n) zero = refl
replicate-zeros (suc n) (suc i) = replicate-zeros n i

zeros : (front : List ℕ) (n i : ℕ) → length front ≤ i → get_or (front ++ replicate n 0) i 0 ≡ zero
zeros front n i h = get_or-append_right front (replicate {A = ℕ} n 0) i 0 h ∙ replicate-zeros n (i - length front)

-- after the numbers stand zeros
pub is_zero_behind : (count place : ℕ) (bytes : List ℕ) (i : ℕ) → count ≤ i
    → slice_index (numbers_at count place bytes ++ replicate (8 - count) 0) i ≡ 0
is_zero_behind count place bytes i h =
    zeros (numbers_at count place bytes) (8 - count) i (omega (arith, length-numbers_at count place bytes))
