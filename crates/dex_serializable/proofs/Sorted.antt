-- Lists sorted by a number of each element. What is picked of the sorted list is what is picked, sorted.
use Rattle.std.proofs.Common.{◌≡◌, ℕ, ◌<◌, ◌≤◌, cond, ltb, suc, List, [], ◌∷◌, ◌++◌, refl, sym, ap, ◌∙◌, arith, All, le-ltb, ltb-true}
use Rattle.dex_world.proofs.Common.{All-append, All-cons, All-head, All-nil, All-tail, All-weaker, AllPairs, cond-false, cond-true, cond_both, flat_map, lt-ltb, ltb-false}

-- ---- definitions

-- an element in its place: before the first whose number is not below its own
abbrev pub placed : {A : Type 0} → (A → ℕ) → A → List A → List A
placed key x [] = x ∷ []
placed key x (y ∷ ys) = cond (ltb (key y) (key x)) (y ∷ placed key x ys) (x ∷ y ∷ ys)

-- each of these in its place among others
abbrev pub all_placed : {A : Type 0} → (A → ℕ) → List A → List A → List A
all_placed key [] others = others
all_placed key (x ∷ xs) others = placed key x (all_placed key xs others)

abbrev pub sorted : {A : Type 0} → (A → ℕ) → List A → List A
sorted key xs = all_placed key xs []

-- the numbers never fall
abbrev pub IsOrdered : {A : Type 0} → (A → ℕ) → List A → Type 0
IsOrdered key [] = Unit {0}
IsOrdered key (x ∷ xs) = All (λ y. key x ≤ key y) xs × IsOrdered key xs

-- the numbers rise
abbrev pub Rises : {A : Type 0} → (A → ℕ) → List A → Type 0
Rises key [] = Unit {0}
Rises key (x ∷ xs) = All (λ y. key x < key y) xs × Rises key xs

-- ---- one list

module _ {A : Type 0} (key : A → ℕ) where
  placed-all : (P : A → Type 0) (x : A) (xs : List A) → P x → All P xs → All P (placed key x xs)
  placed-all P x [] here all = All-cons P x [] here all
  placed-all P x (y ∷ ys) here all =
      cond_both (ltb (key y) (key x)) (y ∷ placed key x ys) (x ∷ y ∷ ys) (All P)
      (λ below. All-cons P y (placed key x ys) (All-head P y ys all) (placed-all P x ys here (All-tail P y ys all)))
      (λ above. All-cons P x (y ∷ ys) here all)

  placed-ordered : (x : A) (xs : List A) → IsOrdered key xs → IsOrdered key (placed key x xs)
  placed-ordered x [] ordered = (All-nil (λ y. key x ≤ key y), tt)
  placed-ordered x (y ∷ ys) ordered =
      cond_both (ltb (key y) (key x)) (y ∷ placed key x ys) (x ∷ y ∷ ys) (IsOrdered key)
      (λ below.
      let less : key y < key x = ltb-true (key y) (key x) below in
      (placed-all (λ z. key y ≤ key z) x ys (omega arith) ordered.0, placed-ordered x ys ordered.1))
      (λ above.
      let more : key x ≤ key y = ltb-false (key y) (key x) above in
      (All-cons (λ z. key x ≤ key z) y ys more (All-weaker (λ z. key y ≤ key z) (λ z. key x ≤ key z) (λ z later. omega arith) ys ordered.0), ordered))

  pub sorted-ordered : (xs : List A) → IsOrdered key (sorted key xs)
  sorted-ordered [] = tt
  sorted-ordered (x ∷ xs) = placed-ordered x (sorted key xs) (sorted-ordered xs)

  -- before all others, and after some
  pub placed-first : (x : A) (xs : List A) → All (λ y. key x ≤ key y) xs → placed key x xs ≡ x ∷ xs
  placed-first x [] all = refl
  placed-first x (y ∷ ys) all =
      cond-false (ltb (key y) (key x)) (y ∷ placed key x ys) (x ∷ y ∷ ys) (le-ltb (key y) (key x) (All-head (λ z. key x ≤ key z) y ys all))

  pub placed-behind : (x : A) (front xs : List A) → All (λ y. key y < key x) front → placed key x (front ++ xs) ≡ front ++ placed key x xs
  placed-behind x [] xs all = refl
  placed-behind x (y ∷ front) xs all =
      cond-true (ltb (key y) (key x)) (y ∷ placed key x (front ++ xs)) (x ∷ y ∷ front ++ xs) (lt-ltb (key y) (key x) (All-head (λ z. key z < key x) y front all))
      ∙ ap (λ zs. y ∷ zs) (placed-behind x front xs (All-tail (λ z. key z < key x) y front all))

  -- several elements of one number are placed before all that have no lower one
  all_placed-first : (n : ℕ) (zs xs : List A) → All (λ z. key z ≡ n) zs → All (λ x. n ≤ key x) xs → all_placed key zs xs ≡ zs ++ xs
  all_placed-first n [] xs same all = refl
  all_placed-first n (z ∷ zs) xs same all =
      let here : key z ≡ n = All-head (λ y. key y ≡ n) z zs same in
      let others : All (λ y. key y ≡ n) zs = All-tail (λ y. key y ≡ n) z zs same in
      ap (placed key z) (all_placed-first n zs xs others all)
      ∙ placed-first z (zs ++ xs)
      (All-append (λ y. key z ≤ key y) zs xs (All-weaker (λ y. key y ≡ n) (λ y. key z ≤ key y) (λ y is. omega arith) zs others)
      (All-weaker (λ y. n ≤ key y) (λ y. key z ≤ key y) (λ y is. omega arith) xs all))

  all_placed-behind : (n : ℕ) (zs front xs : List A) → All (λ z. key z ≡ n) zs → All (λ y. key y < n) front
      → all_placed key zs (front ++ xs) ≡ front ++ all_placed key zs xs
  all_placed-behind n [] front xs same all = refl
  all_placed-behind n (z ∷ zs) front xs same all =
      let here : key z ≡ n = All-head (λ y. key y ≡ n) z zs same in
      ap (placed key z) (all_placed-behind n zs front xs (All-tail (λ y. key y ≡ n) z zs same) all)
      ∙ placed-behind z front (all_placed key zs xs) (All-weaker (λ y. key y < n) (λ y. key y < key z) (λ y is. omega arith) front all)

  pub all_placed-append : (xs ys others : List A) → all_placed key (xs ++ ys) others ≡ all_placed key xs (all_placed key ys others)
  all_placed-append [] ys others = refl
  all_placed-append (x ∷ xs) ys others = ap (placed key x) (all_placed-append xs ys others)

  -- a list that rises is sorted
  pub sorted-rising : (xs : List A) → Rises key xs → sorted key xs ≡ xs
  sorted-rising [] rises = refl
  sorted-rising (x ∷ xs) rises =
      ap (placed key x) (sorted-rising xs rises.1) ∙ placed-first x xs (All-weaker (λ y. key x < key y) (λ y. key x ≤ key y) (λ y is. omega arith) xs rises.0)

  pub rises-from_pairs : (xs : List A) → AllPairs (λ x y. key x < key y) xs → Rises key xs
  rises-from_pairs [] pairs = tt
  rises-from_pairs (x ∷ xs) pairs = (
    λ k d within. pairs 0 (suc k) d (omega arith) (omega (arith, within)),
    rises-from_pairs xs (λ i j d before within. pairs (suc i) (suc j) d (omega (arith, before)) (omega (arith, within))),
  )

-- ---- what is picked of a list

module _ {A B : Type 0} (key : A → ℕ) (other : B → ℕ) (pick : A → List B) (same : (x : A) → All (λ y. other y ≡ key x) (pick x)) where
  picked-above : (n : ℕ) (xs : List A) → All (λ x. n ≤ key x) xs → All (λ y. n ≤ other y) (flat_map pick xs)
  picked-above n [] all = All-nil (λ y. n ≤ other y)
  picked-above n (x ∷ xs) all =
      let here : n ≤ key x = All-head (λ z. n ≤ key z) x xs all in
      All-append (λ y. n ≤ other y) (pick x) (flat_map pick xs)
      (All-weaker (λ y. other y ≡ key x) (λ y. n ≤ other y) (λ y is. omega arith) (pick x) (same x))
      (picked-above n xs (All-tail (λ z. n ≤ key z) x xs all))

  picked-placed : (x : A) (xs : List A) → IsOrdered key xs → flat_map pick (placed key x xs) ≡ all_placed other (pick x) (flat_map pick xs)
  picked-placed x [] ordered = sym (all_placed-first other (key x) (pick x) [] (same x) (All-nil (λ y. key x ≤ other y)))
  picked-placed x (y ∷ ys) ordered =
      cond_both (ltb (key y) (key x)) (y ∷ placed key x ys) (x ∷ y ∷ ys)
      (λ all. flat_map pick all ≡ all_placed other (pick x) (pick y ++ flat_map pick ys))
      (λ below.
      let less : key y < key x = ltb-true (key y) (key x) below in
      ap (λ zs. pick y ++ zs) (picked-placed x ys ordered.1)
      ∙ sym (all_placed-behind other (key x) (pick x) (pick y) (flat_map pick ys) (same x)
      (All-weaker (λ z. other z ≡ key y) (λ z. other z < key x) (λ z is. omega arith) (pick y) (same y))))
      (λ above.
      let more : key x ≤ key y = ltb-false (key y) (key x) above in
      sym (all_placed-first other (key x) (pick x) (pick y ++ flat_map pick ys) (same x)
      (picked-above (key x) (y ∷ ys)
      (All-cons (λ z. key x ≤ key z) y ys more (All-weaker (λ z. key y ≤ key z) (λ z. key x ≤ key z) (λ z is. omega arith) ys ordered.0)))))

  pub picked-sorted : (xs : List A) → flat_map pick (sorted key xs) ≡ sorted other (flat_map pick xs)
  picked-sorted [] = refl
  picked-sorted (x ∷ xs) =
      picked-placed x (sorted key xs) (sorted-ordered key xs)
      ∙ ap (all_placed other (pick x)) (picked-sorted xs)
      ∙ sym (all_placed-append other (pick x) (flat_map pick xs) [])
