-- sums over what is an owner's
use Rattle.std.proofs.Common.{◌≡◌, ℕ, ◌+◌, Bool, true, false, ◌&&◌, cond, List, [], ◌∷◌, map, refl, ap, arith}
use Rattle.std.specs.List.{filter}
use Rattle.dex_types.specs.Totals.{total, weighed_where}

-- what passes a test weighs what all weighs where the test holds, and another with it
pub total-both : {X : Type 0} (test other : X → Bool) (weight : X → ℕ) (xs : List X)
    → total (weighed_where other weight) (filter test xs) ≡ total (weighed_where (λ x. test x && other x) weight) xs
total-both test other weight [] = refl
total-both test other weight (x ∷ xs) = by-test (test x) (total-both test other weight xs)
  where
    by-test : (holds : Bool) → total (weighed_where other weight) (filter test xs) ≡ total (weighed_where (λ x. test x && other x) weight) xs
        → total (weighed_where other weight) (cond holds (x ∷ filter test xs) (filter test xs))
        ≡ cond (holds && other x) (weight x) 0 + total (weighed_where (λ x. test x && other x) weight) xs
    by-test true others = ap (λ (n : ℕ). weighed_where other weight x + n) others
    by-test false others = omega (arith, others)

pub total-own : {X : Type 0} (test : X → Bool) (weight : X → ℕ) (xs : List X) → total weight (filter test xs) ≡ total (weighed_where test weight) xs
total-own test weight [] = refl
total-own test weight (x ∷ xs) = by-test (test x) (total-own test weight xs)
  where
    by-test : (holds : Bool) → total weight (filter test xs) ≡ total (weighed_where test weight) xs
        → total weight (cond holds (x ∷ filter test xs) (filter test xs)) ≡ cond holds (weight x) 0 + total (weighed_where test weight) xs
    by-test true others = ap (λ (n : ℕ). weight x + n) others
    by-test false others = omega (arith, others)

-- what passes a test of what is made of it
pub filter-map : {X Y : Type 0} (f : X → Y) (test : Y → Bool) (xs : List X) → map f (filter (λ x. test (f x)) xs) ≡ filter test (map f xs)
filter-map f test [] = refl
filter-map f test (x ∷ xs) = by-test (test (f x)) (filter-map f test xs)
  where
    by-test : (holds : Bool) → map f (filter (λ x. test (f x)) xs) ≡ filter test (map f xs)
        → map f (cond holds (x ∷ filter (λ x. test (f x)) xs) (filter (λ x. test (f x)) xs)) ≡ cond holds (f x ∷ filter test (map f xs)) (filter test (map f xs))
    by-test true others = ap (λ (l : List _). f x ∷ l) others
    by-test false others = others
