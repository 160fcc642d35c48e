-- What the bits of a list of bytes say: where its first zero stands, and whether all bytes from a place on are zero.
use Rattle.std.proofs.Common.{◌≡◌, ◌+◌, ◌*◌, ◌/◌, ◌%◌, ◌^◌, ◌≤◌, ◌<◌, ◌==◌, ◌&&◌, ℕ, zero, suc, Bool, true, false, not, cond, eqb, nat_lt, List, [], ◌∷◌, length, drop, map, refl, sym, ap, ◌∙◌, arith, Some, None}
use Rattle.std.proofs.Math.Nat.{zero-div, div-one, pow-suc, mul_comm, div-div-eq-div-mul}
use Rattle.std.proofs.lemmas.Bool.{ne_eqb}
use Rattle.std.proofs.lemmas.Bool.Decides.{nat_tests}
use Rattle.std.proofs.lemmas.List.Recursion.{is_position_or_len}
use Rattle.std.proofs.lemmas.List.Sums.{prefix_len-le-length}
use Rattle.std.specs.Prelude.{unwrap_or}
use Rattle.std.specs.List.{list_all, position_or_len, prefix_len}
use Rattle.std.specs.Simd.Lanes.{mask_l}
use Rattle.dex_types.specs.Text.{first_zero}

halved : (b : Bool) (n : ℕ) → (cond b 1 0 + 2 * n) / 2 ≡ n
halved true n = omega arith
halved false n = omega arith

-- the bits from a place on are those of the list from it on
pub bits_from : (ms : List Bool) (n : ℕ) → mask_l ms / 2 ^ n ≡ mask_l (drop n ms)
bits_from [] zero = refl
bits_from [] (suc n) = zero-div (2 ^ suc n)
bits_from (m ∷ ms) zero = div-one (mask_l (m ∷ ms))
bits_from (m ∷ ms) (suc n) =
    ap (λ k. mask_l (m ∷ ms) / k) (pow-suc 2 n ∙ mul_comm (2 ^ n) 2) ∙ sym (div-div-eq-div-mul (mask_l (m ∷ ms)) 2 (2 ^ n))
    ∙ ap (λ k. k / 2 ^ n) (halved m (mask_l ms)) ∙ bits_from ms n

doubled : (n : ℕ) → eqb (0 + 2 * n) 0 ≡ eqb n 0
doubled zero = refl
doubled (suc n) = ne_eqb (0 + 2 * suc n) 0 (λ e. omega arith) ∙ sym (ne_eqb (suc n) 0 (λ e. omega arith))

one_more : (b : Bool) (n : ℕ) (r : Bool) → eqb n 0 ≡ r → eqb (cond (not b) 1 0 + 2 * n) 0 ≡ (b && r)
one_more true n r h = doubled n ∙ h
one_more false n r h = ne_eqb (1 + 2 * n) 0 (λ e. omega arith)

-- no bit of the other bytes is set exactly where all bytes are zero
pub no_others : (xs : List ℕ) → eqb (mask_l (map (λ b. not (b == 0)) xs)) 0 ≡ list_all (λ b. b == 0) xs
no_others [] = refl
no_others (x ∷ xs) = one_more (x == 0) (mask_l (map (λ b. not (b == 0)) xs)) (list_all (λ b. b == 0) xs) (no_others xs)

pub map_drop : (p : ℕ → Bool) (xs : List ℕ) (n : ℕ) → drop n (map p xs) ≡ map p (drop n xs)
map_drop p [] zero = refl
map_drop p [] (suc n) = refl
map_drop p (x ∷ xs) zero = refl
map_drop p (x ∷ xs) (suc n) = map_drop p xs n

-- all bytes from a place on are zero exactly where no bit of the others is set from it on
pub no_others_from : (xs : List ℕ) (n : ℕ) → eqb (mask_l (map (λ b. not (b == 0)) xs) / 2 ^ n) 0 ≡ list_all (λ b. b == 0) (drop n xs)
no_others_from xs n =
    let p = λ (b : ℕ). not (b == 0) in
    ap (λ k. eqb k 0) (bits_from (map p xs) n ∙ ap mask_l (map_drop p xs n)) ∙ no_others (drop n xs)

flip : (b : Bool) (n m : ℕ) → cond (not b) n m ≡ cond b m n
flip true n m = refl
flip false n m = refl

is_place : (xs : List ℕ) → prefix_len (λ b. not (b == 0)) xs ≡ position_or_len (λ b. b == 0) xs
is_place = is_position_or_len (prefix_len (λ b. not (b == 0))) (λ b. b == 0) refl (λ x xs. flip (x == 0) (1 + prefix_len (λ b. not (b == 0)) xs) 0)

told : (b : Bool) (n m : ℕ) → (b ≡ false → n ≡ m) → n ≡ unwrap_or (cond b (Some n) None) m
told true n m h = refl
told false n m h = h refl

at_end : (n m : ℕ) → n ≤ m → nat_lt n m ≡ false → n ≡ m
at_end n m le h =
    let past : m ≤ n = grind (arith, nat_tests) in
    omega arith

-- the bytes in front of the first zero are as many as its place
pub first_zero_is : (xs : List ℕ) → prefix_len (λ b. not (b == 0)) xs ≡ first_zero xs
first_zero_is xs =
    let p = position_or_len (λ b. b == 0) xs in
    let le = prefix_len-le-length (λ b. not (b == 0)) xs in
    is_place xs ∙ told (nat_lt p (length xs)) p (length xs) (at_end p (length xs) (omega (arith, le, is_place xs)))
