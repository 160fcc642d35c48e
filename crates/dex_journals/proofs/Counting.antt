-- Of two lists of which each has lanes, the one with no more of each lane and fewer of one lane is the shorter one.
use Rattle.std.proofs.Common.{◌≡◌, ℕ, ◌+◌, ◌-◌, ◌≤◌, ◌<◌, Bool, true, false, cond, List, [], ◌∷◌, map, length, refl, arith, eqb-true, filter}
use Rattle.std.specs.Prelude.{◌==◌}
use Rattle.dex_world.proofs.Common.{eqb-false, length-map}

-- ---- numbers in a list

-- one where two numbers are the same
abbrev same : ℕ → ℕ → ℕ
same a b = 1 - ((a - b) + (b - a))

-- how often a number stands in a list
abbrev times : ℕ → List ℕ → ℕ
times n [] = 0
times n (k ∷ ks) = same k n + times n ks

-- the list without the first place of a number
abbrev without : ℕ → List ℕ → List ℕ
without n [] = []
without n (k ∷ ks) = cond (k == n) ks (k ∷ without n ks)

one-same : (a b : ℕ) → cond (a == b) 1 0 ≡ same a b
one-same a b = by-case (a == b) refl
  where
    by-case : (test : Bool) → (a == b) ≡ test → cond test 1 0 ≡ same a b
    by-case true is = let e = eqb-true a b is in omega (arith, e)
    by-case false is = let e : a ≡ b → ⊥ = eqb-false a b is in omega (arith, e)

-- it is shorter by one, and has that number once less
without-one : (n : ℕ) (ks : List ℕ) → 0 < times n ks
    → ((m : ℕ) → times m (without n ks) + same n m ≡ times m ks) × (length (without n ks) + 1 ≡ length ks)
without-one n [] some = absurd (omega (arith, some))
without-one n (k ∷ ks) some = by-case (λ more. without-one n ks more) (k == n) refl
  where
    by-case : (0 < times n ks → ((m : ℕ) → times m (without n ks) + same n m ≡ times m ks) × (length (without n ks) + 1 ≡ length ks))
        → (test : Bool) → (k == n) ≡ test
        → ((m : ℕ) → times m (cond test ks (k ∷ without n ks)) + same n m ≡ times m (k ∷ ks))
        × (length (cond test ks (k ∷ without n ks)) + 1 ≡ length (k ∷ ks))
    by-case left true is = let e = eqb-true k n is in ((λ m. omega (arith, e)), omega arith)
    by-case left false is =
        let e : k ≡ n → ⊥ = eqb-false k n is in
        let rest = left (omega (arith, e, some)) in
        ((λ m. omega (arith, e, rest.0 m)), omega (arith, rest.1))

fewer-numbers : (ks others : List ℕ) → ((n : ℕ) → times n ks ≤ times n others)
    → (n : ℕ) → times n ks < times n others → length ks < length others
fewer-numbers [] [] each n one = absurd (omega (arith, one))
fewer-numbers [] (k ∷ others) each n one = omega arith
fewer-numbers (k ∷ ks) others each n one =
    let out = without-one k others (omega (arith, each k)) in
    let fewer = fewer-numbers ks (without k others) (λ m. omega (arith, each m, out.0 m)) n (omega (arith, one, out.0 n)) in
    omega (arith, fewer, out.1)

-- ---- items with lanes

-- how many items have a lane
counted : {A : Type 0} (lane_of : A → ℕ) (lane : ℕ) (items : List A)
    → length (filter (λ (item : A). lane_of item == lane) items) ≡ times lane (map lane_of items)
counted lane_of lane [] = refl
counted {A} lane_of lane (item ∷ items) =
    by-case (counted lane_of lane items) (lane_of item == lane) (one-same (lane_of item) lane)
  where
    rest : List A
    rest = filter (λ (item : A). lane_of item == lane) items

    by-case : length rest ≡ times lane (map lane_of items) → (test : Bool) → cond test 1 0 ≡ same (lane_of item) lane
        → length (cond test (item ∷ rest) rest) ≡ times lane (map lane_of (item ∷ items))
    by-case others true one = omega (arith, one, others)
    by-case others false one = omega (arith, one, others)

-- the list with no more items of each lane, and with fewer of one, is shorter
pub fewer : {A B : Type 0} (lane_of : A → ℕ) (lane_at : B → ℕ) (items : List A) (others : List B)
    → ((lane : ℕ) → length (filter (λ (item : A). lane_of item == lane) items)
    ≤ length (filter (λ (other : B). lane_at other == lane) others))
    → (lane : ℕ) → length (filter (λ (item : A). lane_of item == lane) items)
    < length (filter (λ (other : B). lane_at other == lane) others)
    → length items < length others
fewer {A} {B} lane_of lane_at items others each lane one =
    let shorter = fewer-numbers (map lane_of items) (map lane_at others)
    (λ n. omega (arith, each n, counted lane_of n items, counted lane_at n others))
    lane (omega (arith, one, counted lane_of lane items, counted lane_at lane others)) in
    omega (arith, shorter, length-map items lane_of, length-map others lane_at)
