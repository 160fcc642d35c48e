-- Two lists of bytes are the same where the mask of the places at which they differ is empty.
use Rattle.std.proofs.Common.{◌≡◌, ℕ, ◌*◌, ◌+◌, Bool, true, false, ◌&&◌, List, [], ◌∷◌, length, nat_eq, eqb, not, cond, refl, ◌∙◌, arith}
use Rattle.std.proofs.lemmas.Bool.Decides.{nat_tests}
use Rattle.std.specs.Str.{bytes_eq}
use Rattle.std.specs.Simd.Lanes.{mask_l, zip2}

-- two bytes differ
abbrev pub differ : ℕ → ℕ → Bool
differ x y = not (eqb x y)

-- no lane is set
abbrev pub is_empty : ℕ → Bool
is_empty mask = not (not (nat_eq mask 0))

-- a mask with one more lane is empty where that lane is not set and the others are empty
one_more : (same : Bool) (mask : ℕ) (others : Bool) → is_empty mask ≡ others → is_empty (cond (not same) 1 0 + 2 * mask) ≡ (same && others)
one_more false mask others e = grind (arith, nat_tests)
one_more true mask others e = twice ∙ e
  where
    twice : is_empty (0 + 2 * mask) ≡ is_empty mask
    twice = grind (arith, nat_tests)

pub none_differ : (xs ys : List ℕ) → length xs ≡ length ys → is_empty (mask_l (zip2 differ xs ys)) ≡ bytes_eq xs ys
none_differ [] [] e = refl
none_differ [] (y ∷ ys) e = absurd (omega arith)
none_differ (x ∷ xs) [] e = absurd (omega arith)
none_differ (x ∷ xs) (y ∷ ys) e = one_more (eqb x y) (mask_l (zip2 differ xs ys)) (bytes_eq xs ys) (none_differ xs ys (omega arith))
