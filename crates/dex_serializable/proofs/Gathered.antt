-- What stands of each lane in a list that rises makes that list, when it is sorted.
use Rattle.std.proofs.Common.{◌≡◌, ℕ, zero, suc, ◌+◌, ◌<◌, ◌≤◌, Bool, true, false, ◌||◌, cond, eqb, ltb, List, [], ◌∷◌, get_or, refl, sym, ap, ◌∙◌, subst, arith, All}
use Rattle.dex_world.proofs.Common.{All-filter, All-head, All-tail, All-weaker, cond-true, eq-eqb, eqb-true, filter, flat_map, length-range_with_len, list_any, list_any_at, lt-ltb, ne_eqb, range_with_len}
use Rattle.dex_serializable.proofs.Common.{filter-all, filter-none}
use Rattle.std.proofs.lemmas.Bool.{or_from}
use Rattle.std.proofs.lemmas.List.FromFn.{get_or-range_with_len}
use Rattle.dex_serializable.proofs.Sorted.{Rises, all_placed, all_placed-append, placed, placed-first, sorted}

-- ---- numbers of a range

pub none-before : (n first count : ℕ) → n < first → list_any (eqb n) (range_with_len first count) ≡ false
none-before n first zero before = refl
none-before n first (suc count) before =
    or_from (eqb n first) (list_any (eqb n) (range_with_len (first + 1) count)) (ne_eqb n first (λ same. absurd (omega arith)))
    (none-before n (first + 1) count (omega arith))

pub one-within : (n count : ℕ) → n < count → list_any (eqb n) (range_with_len 0 count) ≡ true
one-within n count within =
    list_any_at (eqb n) (range_with_len 0 count) n 0 (subst (λ (l : ℕ). n < l) (sym (length-range_with_len 0 count)) within)
    (eq-eqb n (get_or (range_with_len 0 count) n 0) (omega (arith, get_or-range_with_len 0 count n 0 within)))

-- ---- parts

module _ {A : Type 0} (key : A → ℕ) where
  all_placed-past : (x : A) (zs xs : List A) → All (λ z. key x < key z) zs → all_placed key zs (x ∷ xs) ≡ x ∷ all_placed key zs xs
  all_placed-past x [] xs all = refl
  all_placed-past x (z ∷ zs) xs all =
      ap (placed key z) (all_placed-past x zs xs (All-tail (λ y. key x < key y) z zs all))
      ∙ cond-true (ltb (key x) (key z)) (x ∷ placed key z (all_placed key zs xs)) (z ∷ x ∷ all_placed key zs xs)
      (lt-ltb (key x) (key z) (All-head (λ y. key x < key y) z zs all))

  two-parts : (p q : A → Bool) → ((x : A) → p x ≡ true → q x ≡ false) → (xs : List A) → Rises key xs
      → all_placed key (filter p xs) (filter q xs) ≡ filter (λ x. p x || q x) xs
  two-parts p q apart [] rises = refl
  two-parts p q apart (x ∷ xs) rises = either (p x) (q x) (apart x) (two-parts p q apart xs rises.1)
    where
      either : (b c : Bool) → (b ≡ true → c ≡ false) → all_placed key (filter p xs) (filter q xs) ≡ filter (λ y. p y || q y) xs
          → all_placed key (cond b (x ∷ filter p xs) (filter p xs)) (cond c (x ∷ filter q xs) (filter q xs))
          ≡ cond (b || c) (x ∷ filter (λ y. p y || q y) xs) (filter (λ y. p y || q y) xs)
      either true true one rest = absurd (let no : true ≡ false = one refl in cc)
      either true false one rest =
          ap (placed key x) rest
          ∙ placed-first key x (filter (λ y. p y || q y) xs)
          (All-filter (λ y. p y || q y) (λ y. key x ≤ key y) xs (All-weaker (λ y. key x < key y) (λ y. key x ≤ key y) (λ y is. omega arith) xs rises.0))
      either false true one rest =
          all_placed-past x (filter p xs) (filter q xs) (All-filter p (λ y. key x < key y) xs rises.0) ∙ ap (λ ys. x ∷ ys) rest
      either false false one rest = rest

  module _ (lane : A → ℕ) (xs : List A) (rises : Rises key xs) where
    parts-gathered : (first count : ℕ)
        → sorted key (flat_map (λ l. filter (λ x. eqb (lane x) l) xs) (range_with_len first count))
        ≡ filter (λ x. list_any (eqb (lane x)) (range_with_len first count)) xs
    parts-gathered first zero = sym (filter-none (λ x. false) xs (λ k d within. refl))
    parts-gathered first (suc count) =
        all_placed-append key (filter (λ x. eqb (lane x) first) xs)
        (flat_map (λ l. filter (λ x. eqb (lane x) l) xs) (range_with_len (first + 1) count)) []
        ∙ ap (all_placed key (filter (λ x. eqb (lane x) first) xs)) (parts-gathered (first + 1) count)
        ∙ two-parts (λ x. eqb (lane x) first) (λ x. list_any (eqb (lane x)) (range_with_len (first + 1) count))
        (λ x is. let same : lane x ≡ first = eqb-true (lane x) first is in none-before (lane x) (first + 1) count (omega arith)) xs rises

    pub gathered : (count : ℕ) → All (λ x. lane x < count) xs
        → sorted key (flat_map (λ l. filter (λ x. eqb (lane x) l) xs) (range_with_len 0 count)) ≡ xs
    gathered count all =
        parts-gathered 0 count
        ∙ filter-all (λ x. list_any (eqb (lane x)) (range_with_len 0 count)) xs
        (All-weaker (λ x. lane x < count) (λ x. list_any (eqb (lane x)) (range_with_len 0 count) ≡ true) (λ x is. one-within (lane x) count is) xs all)
