-- A sum over a list, at one place, at two places and after a write.
use Rattle.std.proofs.Common.{◌≡◌, ◌≢◌, ℕ, zero, suc, ◌+◌, ◌≤◌, List, [], ◌∷◌, set, sum_by, sym, ap, arith}
use mathlib.Core.Option.{some, some-injective, some-ne-none}
use lib.ListN.{get_elem?}
use Rattle.std.proofs.lemmas.List.Sums.{sum_by-cons}

module _ {A : Type 0} where
  -- the sum after a write, and what stood there, are the old sum and what stands there now
  pub sum_by-set_at : (f : A → ℕ) (l : List A) (i : ℕ) (a b : A) → get_elem? l i ≡ some a → sum_by f (set l i b) + f a ≡ sum_by f l + f b
  sum_by-set_at f [] i a b e = absurd (some-ne-none a (sym e))
  sum_by-set_at f (x ∷ xs) zero a b e = let here : f x ≡ f a = ap f (some-injective x a e) in omega (arith, sum_by-cons f x xs, sum_by-cons f b xs)
  sum_by-set_at f (x ∷ xs) (suc i) a b e = omega (arith, sum_by-cons f x xs, sum_by-cons f x (set xs i b), sum_by-set_at f xs i a b e)

  pub at-le-sum_by : (f : A → ℕ) (l : List A) (i : ℕ) (a : A) → get_elem? l i ≡ some a → f a ≤ sum_by f l
  at-le-sum_by f [] i a e = absurd (some-ne-none a (sym e))
  at-le-sum_by f (x ∷ xs) zero a e = let here : f x ≡ f a = ap f (some-injective x a e) in omega (arith, sum_by-cons f x xs)
  at-le-sum_by f (x ∷ xs) (suc i) a e = omega (arith, sum_by-cons f x xs, at-le-sum_by f xs i a e)

  -- two places of a list are within the sum together
  pub two-le-sum_by : (f : A → ℕ) (l : List A) (i j : ℕ) (a b : A) → i ≢ j → get_elem? l i ≡ some a → get_elem? l j ≡ some b → f a + f b ≤ sum_by f l
  two-le-sum_by f [] i j a b ne e h = absurd (some-ne-none a (sym e))
  two-le-sum_by f (x ∷ xs) zero zero a b ne e h = absurd (omega arith)
  two-le-sum_by f (x ∷ xs) zero (suc j) a b ne e h = let here : f x ≡ f a = ap f (some-injective x a e) in omega (arith, sum_by-cons f x xs, at-le-sum_by f xs j b h)
  two-le-sum_by f (x ∷ xs) (suc i) zero a b ne e h = let here : f x ≡ f b = ap f (some-injective x b h) in omega (arith, sum_by-cons f x xs, at-le-sum_by f xs i a e)
  two-le-sum_by f (x ∷ xs) (suc i) (suc j) a b ne e h = omega (arith, sum_by-cons f x xs, two-le-sum_by f xs i j a b (λ same. ne (ap suc same)) e h)

  -- a sum of larger terms is larger
  pub sum_by-le-at : (f g : A → ℕ) (l : List A) → ((i : ℕ) (a : A) → get_elem? l i ≡ some a → f a ≤ g a) → sum_by f l ≤ sum_by g l
  sum_by-le-at f g [] h = omega arith
  sum_by-le-at f g (x ∷ xs) h = omega (arith, sum_by-cons f x xs, sum_by-cons g x xs, h 0 x (λ _. some x), sum_by-le-at f g xs (λ i a e. h (suc i) a e))
