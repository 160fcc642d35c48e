-- laws of sums of a weight over a list
use Rattle.std.proofs.Common.{ℕ, zero, suc, ◌+◌, ◌≤◌, ◌≡◌, List, [], ◌∷◌, ◌++◌, length, map, take, drop, refl, arith}
use Rattle.std.specs.List.{All}
use Rattle.std.proofs.lemmas.List.Elements.{All-nil, All-cons, All-head, All-tail, All-weaker}
use Rattle.dex_types.specs.Totals.{total}

-- the total of two lists in one
pub total-append : {X : Type 0} (weight : X → ℕ) (xs ys : List X) → total weight (xs ++ ys) ≡ total weight xs + total weight ys
total-append weight [] ys = omega arith
total-append weight (x ∷ xs) ys = omega (arith, total-append weight xs ys)

-- two weights that agree on each item have one total
pub total-agree : {X : Type 0} (weight other : X → ℕ) (xs : List X) → All (λ x. weight x ≡ other x) xs → total weight xs ≡ total other xs
total-agree weight other [] agree = refl
total-agree weight other (x ∷ xs) agree =
    omega (arith, All-head (λ x. weight x ≡ other x) x xs agree, total-agree weight other xs (All-tail (λ x. weight x ≡ other x) x xs agree))

-- a weight that is at most another on each item has at most its total
pub total-le : {X : Type 0} (weight other : X → ℕ) (xs : List X) → All (λ x. weight x ≤ other x) xs → total weight xs ≤ total other xs
total-le weight other [] below = omega arith
total-le weight other (x ∷ xs) below =
    omega (arith, All-head (λ x. weight x ≤ other x) x xs below, total-le weight other xs (All-tail (λ x. weight x ≤ other x) x xs below))

-- the total of a sum of weights
pub total-plus : {X : Type 0} (weight other : X → ℕ) (xs : List X) → total (λ x. weight x + other x) xs ≡ total weight xs + total other xs
total-plus weight other [] = refl
total-plus weight other (x ∷ xs) = omega (arith, total-plus weight other xs)

-- a weight that is nothing on each item has no total
pub total-none : {X : Type 0} (weight : X → ℕ) (xs : List X) → All (λ x. weight x ≡ 0) xs → total weight xs ≡ 0
total-none weight [] none = refl
total-none weight (x ∷ xs) none =
    omega (arith, All-head (λ x. weight x ≡ 0) x xs none, total-none weight xs (All-tail (λ x. weight x ≡ 0) x xs none))

-- a weight that counts each item once gives the length
pub total-one : {X : Type 0} (xs : List X) → total (λ x. 1) xs ≡ length xs
total-one [] = refl
total-one (x ∷ xs) = omega (arith, total-one xs)

-- each item weighs at most the total
pub total-each : {X : Type 0} (weight : X → ℕ) (xs : List X) → All (λ x. weight x ≤ total weight xs) xs
total-each weight [] = All-nil _
total-each weight (x ∷ xs) =
    All-cons (λ y. weight y ≤ weight x + total weight xs) x xs (omega arith)
    (All-weaker (λ y. weight y ≤ total weight xs) (λ y. weight y ≤ weight x + total weight xs) (λ y below. omega arith) xs (total-each weight xs))

-- a part and the rest
pub total-take_drop : {X : Type 0} (weight : X → ℕ) (count : ℕ) (xs : List X) → total weight xs ≡ total weight (take count xs) + total weight (drop count xs)
total-take_drop weight zero xs = omega arith
total-take_drop weight (suc count) [] = refl
total-take_drop weight (suc count) (x ∷ xs) = omega (arith, total-take_drop weight count xs)

-- one more item in its place
pub total-between : {X : Type 0} (weight : X → ℕ) (before after : List X) (x : X) → total weight (before ++ x ∷ after) ≡ weight x + total weight (before ++ after)
total-between weight before after x = omega (arith, total-append weight before (x ∷ after), total-append weight before after)

-- the total over a list that was made from another
pub total-map : {X Y : Type 0} (weight : Y → ℕ) (f : X → Y) (xs : List X) → total weight (map f xs) ≡ total (λ x. weight (f x)) xs
total-map weight f [] = refl
total-map weight f (x ∷ xs) = omega (arith, total-map weight f xs)
