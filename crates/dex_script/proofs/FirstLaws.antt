-- The first element that passes a test, by its place.
use Rattle.std.proofs.Common.{◌≡◌, ◌<◌, ◌≤◌, ◌∙◌, ℕ, Bool, true, false, if◌then◌else◌, List, [], ◌∷◌, ◌++◌, Some, None, ap, arith, drop, get_or, inl, inr, length, map, refl, set, suc, zero, take}
use Rattle.std.proofs.lemmas.Bool.{cases_Bool}
use Rattle.std.proofs.lemmas.Grind.{common_steps}
use Rattle.std.proofs.lemmas.List.{append-nil, drop_all, take_all}
use Rattle.std.proofs.lemmas.List.Quantifiers.{position-Some}
use Rattle.std.proofs.lemmas.List.Sums.{fails_before_first}
use Rattle.std.proofs.lemmas.List.Elements.{All-cons, All-head, All-tail}
use Rattle.std.specs.List.{All, position, position_or_len}
use Rattle.dex_script_types.specs.Firsts.{first_of, with_first}

-- the element at a place is the first that passes
pub record IsFirst {X : Type 0} (test : X → Bool) (xs : List X) (place : ℕ) (d : X) : Type 0 where
  pub within : place < length xs
  pub passes : test (get_or xs place d) ≡ true
  pub others : (k : ℕ) → k < place → test (get_or xs k d) ≡ false

pub is-first : {X : Type 0} (test : X → Bool) (xs : List X) (place : ℕ) (d : X) → position test xs ≡ Some place → IsFirst test xs place d
is-first test xs place d here =
    let facts = position-Some test xs place d here in
    record { within = facts.0; passes = facts.1; others = facts.2 }

-- no element passes
pub none-passes : {X : Type 0} (test : X → Bool) (xs : List X) → position test xs ≡ None
    → (k : ℕ) (d : X) → k < length xs → test (get_or xs k d) ≡ false
none-passes test xs none k d within =
    let over : length xs ≤ position_or_len test xs = grind (arith, common_steps) in
    fails_before_first test xs k d (omega arith)

-- ---- of a list that is made of another

pub first-at : {X Y Z : Type 0} (test : Y → Bool) (told : Y → Z) (f : X → Y) (xs : List X) (place : ℕ) (d : X) → place < length xs
    → test (f (get_or xs place d)) ≡ true → ((k : ℕ) → k < place → test (f (get_or xs k d)) ≡ false)
    → first_of test told (map f xs) ≡ Some (told (f (get_or xs place d)))
first-at test told f [] place d within passes others = absurd (omega arith)
first-at test told f (x ∷ xs) zero d within passes others = rw passes refl
first-at test told f (x ∷ xs) (suc place) d within passes others =
    rw (others 0 (omega arith)) (first-at test told f xs place d (omega arith) passes (λ k below. others (suc k) (omega arith)))

pub first-none : {X Y Z : Type 0} (test : Y → Bool) (told : Y → Z) (f : X → Y) (xs : List X)
    → ((k : ℕ) (d : X) → k < length xs → test (f (get_or xs k d)) ≡ false) → first_of test told (map f xs) ≡ None
first-none test told f [] none = refl
first-none test told f (x ∷ xs) none =
    rw (none 0 x (omega arith)) (first-none test told f xs (λ k d below. none (suc k) d (omega arith)))

pub changed-at : {X Y : Type 0} (test : Y → Bool) (change : Y → Y) (f : X → Y) (xs : List X) (place : ℕ) (d y : X) → place < length xs
    → test (f (get_or xs place d)) ≡ true → ((k : ℕ) → k < place → test (f (get_or xs k d)) ≡ false)
    → f y ≡ change (f (get_or xs place d)) → map f (set xs place y) ≡ with_first test change (map f xs)
changed-at test change f [] place d y within passes others is = absurd (omega arith)
changed-at {X} {Y} test change f (x ∷ xs) zero d y within passes others is = rw passes (ap (λ (z : Y). z ∷ map f xs) is)
changed-at {X} {Y} test change f (x ∷ xs) (suc place) d y within passes others is =
    rw (others 0 (omega arith)) (ap (λ (zs : List Y). f x ∷ zs)
    (changed-at test change f xs place d y (omega arith) passes (λ k below. others (suc k) (omega arith)) is))

pub changed-none : {X Y : Type 0} (test : Y → Bool) (change : Y → Y) (f : X → Y) (xs : List X)
    → ((k : ℕ) (d : X) → k < length xs → test (f (get_or xs k d)) ≡ false) → map f xs ≡ with_first test change (map f xs)
changed-none test change f [] none = refl
changed-none {X} {Y} test change f (x ∷ xs) none =
    rw (none 0 x (omega arith)) (ap (λ (zs : List Y). f x ∷ zs)
    (changed-none test change f xs (λ k d below. none (suc k) d (omega arith))))

-- ---- a change in a list of the same length

-- a change that leaves what is told of each leaves what is told of all, and of the first that passes a test
pub map-changed : {X Y : Type 0} (told : X → Y) (test : X → Bool) (change : X → X) → ((x : X) → told (change x) ≡ told x) → (xs : List X)
    → map told (with_first test change xs) ≡ map told xs
map-changed told test change same [] = refl
map-changed {X} {Y} told test change same (x ∷ xs) = elim (cases_Bool (test x)) [
  | inl here ↦ rw here (ap (λ (y : Y). y ∷ map told xs) (same x))
  | inr other ↦ rw other (ap (λ (ys : List Y). told x ∷ ys) (map-changed told test change same xs))
]

pub first-changed : {X Y : Type 0} (seen : X → Bool) (told : X → Y) (test : X → Bool) (change : X → X) → ((x : X) → seen (change x) ≡ seen x)
    → ((x : X) → told (change x) ≡ told x) → (xs : List X) → first_of seen told (with_first test change xs) ≡ first_of seen told xs
first-changed seen told test change passes same [] = refl
first-changed seen told test change passes same (x ∷ xs) = elim (cases_Bool (test x)) [
  | inl here ↦ rw here (rw (passes x, same x) refl)
  | inr other ↦ rw other (rw (first-changed seen told test change passes same xs) refl)
]

-- a buffer whose slice was written, by a list of the same length
pub written-back : {X : Type 0} (count : ℕ) (old new : List X) → count ≡ length old → length new ≡ length old
    → take count (new ++ drop (length new) old) ≡ new
written-back {X} count old new all same =
    let none : drop (length new) old ≡ [] = drop_all (length new) old (omega arith) in
    ap (λ (rest : List X). take count (new ++ rest)) none ∙ ap (take count) (append-nil new) ∙ take_all count new (omega arith)

-- ---- what holds of each element

pub all_either : {X : Type 0} (P : X → Type 0) (b : Bool) (xs ys : List X) → All P xs → All P ys → All P (if b then xs else ys)
all_either P true xs ys here there = here
all_either P false xs ys here there = there

-- a change keeps what holds of each
pub all-changed : {X : Type 0} (P : X → Type 0) (test : X → Bool) (change : X → X) → ((x : X) → P x → P (change x)) → (xs : List X)
    → All P xs → All P (with_first test change xs)
all-changed P test change keeps [] all = all
all-changed P test change keeps (x ∷ xs) all =
    all_either P (test x) (change x ∷ xs) (x ∷ with_first test change xs)
    (All-cons P (change x) xs (keeps x (All-head P x xs all)) (All-tail P x xs all))
    (All-cons P x (with_first test change xs) (All-head P x xs all) (all-changed P test change keeps xs (All-tail P x xs all)))
