-- Items with stamps, and one more after them.
use Rattle.std.proofs.Common.{◌≡◌, ℕ, ◌+◌, ◌≤◌, ◌<◌, Bool, true, false, cond, List, [], ◌∷◌, ◌++◌, length, All, get_or, refl, sym, ap, ◌∙◌, subst, arith, eqb-true, filter, length-append}
use Rattle.std.specs.Prelude.{◌==◌}
use Rattle.dex_world.proofs.Common.{All-append, All-cons, All-head, All-nil, All-tail, filter-append, length-map}
use Rattle.std.proofs.lemmas.List.Quantifiers.{all_pairs_push}
use mathlib.Core.List.{map-append}
use Rattle.dex_stamps.specs.declared.stamp.Stamp.{Stamp}
use Rattle.dex_stamps.specs.Stamped.{AreRising, Stamped, items_of, stamped}
use Rattle.dex_journals.specs.Inside.{numbers_in}

-- ---- as many stamps as items

module _ {A : Type 0} where
  pub items_of-stamped : (items : List A) (stamps : List ℕ) → length stamps ≡ length items
      → items_of (stamped items stamps) ≡ items
  items_of-stamped [] [] long = refl
  items_of-stamped (item ∷ items) (stamp ∷ stamps) long =
      ap (λ (rest : List A). item ∷ rest) (items_of-stamped items stamps (omega (arith, long)))
  items_of-stamped _ _ long = absurd (omega (arith, long))

  pub length-stamped : (items : List A) (stamps : List ℕ) → length stamps ≡ length items → length (stamped items stamps) ≡ length items
  length-stamped items stamps long =
      sym (length-map (stamped items stamps) (λ (made : Stamped A). made.item)) ∙ ap length (items_of-stamped items stamps long)

  -- one more after
  pub stamped-more : (items : List A) (stamps : List ℕ) (item : A) (stamp : ℕ) → length stamps ≡ length items
      → stamped (items ++ item ∷ []) (stamps ++ stamp ∷ [])
      ≡ stamped items stamps ++ record { item = item; stamp = stamp } ∷ []
  stamped-more [] [] item stamp long = refl
  stamped-more (one ∷ items) (other ∷ stamps) item stamp long =
      ap (λ (rest : List (Stamped A)). record { item = one; stamp = other } ∷ rest)
      (stamped-more items stamps item stamp (omega (arith, long)))
  stamped-more _ _ item stamp long = absurd (omega (arith, long))

  -- ---- stamps that rise

  below-stamped : (items : List A) (stamps : List ℕ) (last : ℕ) → All (λ (stamp : ℕ). stamp ≤ last) stamps
      → All (λ (made : Stamped A). made.stamp ≤ last) (stamped items stamps)
  below-stamped [] stamps last below = All-nil (λ (made : Stamped A). made.stamp ≤ last)
  below-stamped (item ∷ items) [] last below = All-nil (λ (made : Stamped A). made.stamp ≤ last)
  below-stamped (item ∷ items) (stamp ∷ stamps) last below =
      All-cons (λ (made : Stamped A). made.stamp ≤ last) (record { item = item; stamp = stamp }) (stamped items stamps)
      (All-head (λ (one : ℕ). one ≤ last) stamp stamps below)
      (below-stamped items stamps last (All-tail (λ (one : ℕ). one ≤ last) stamp stamps below))

  -- a stamp above the last of them goes after
  pub rising-more : (items : List A) (stamps : List ℕ) (last : ℕ) (item : A) (stamp : ℕ)
      → length stamps ≡ length items → AreRising (stamped items stamps)
      → All (λ (one : ℕ). one ≤ last) stamps → last < stamp
      → AreRising (stamped (items ++ item ∷ []) (stamps ++ stamp ∷ []))
  rising-more items stamps last item stamp long rising below above =
      let made : Stamped A = record { item = item; stamp = stamp } in
      subst AreRising (sym (stamped-more items stamps item stamp long))
      (all_pairs_push (λ (one other : Stamped A). one.stamp < other.stamp) (stamped items stamps) made rising
      (λ k d within.
      let before : (get_or (stamped items stamps) k d).stamp ≤ last = below-stamped items stamps last below k d within in
      omega (arith, before, above)))

pub below-more : (stamps : List ℕ) (last stamp : ℕ) → All (λ (one : ℕ). one ≤ last) stamps → last < stamp
    → All (λ (one : ℕ). one ≤ stamp) (stamps ++ stamp ∷ [])
below-more stamps last stamp below above =
    let Below : ℕ → Type 0 = λ (one : ℕ). one ≤ stamp in
    All-append Below stamps (stamp ∷ [])
    (λ k d within. omega (arith, below k d within, above))
    (All-cons Below stamp [] (omega arith) (All-nil Below))

-- the numbers of a log with one stamp more
pub numbers-more : (pairs more : List (Stamp × Unit {0})) (stamp : Stamp) → more ≡ pairs ++ (stamp, tt) ∷ []
    → numbers_in more ≡ numbers_in pairs ++ stamp.number ∷ []
numbers-more pairs more stamp is =
    ap numbers_in is ∙ map-append (λ (pair : Stamp × Unit {0}). pair.0.number) pairs ((stamp, tt) ∷ [])

-- ---- lanes

filter-more : {A : Type 0} (test : A → Bool) (items : List A) (item : A)
    → length (filter test (items ++ item ∷ [])) ≡ length (filter test items) + cond (test item) 1 0
filter-more {A} test items item =
    ap length (filter-append test items (item ∷ [])) ∙ length-append (filter test items) (filter test (item ∷ []))
    ∙ ap (λ (n : ℕ). length (filter test items) + n) (by-case (test item))
  where
    by-case : (passes : Bool) → length (cond passes (item ∷ []) []) ≡ cond passes 1 0
    by-case true = refl
    by-case false = refl

-- each lane has as many items as it may have, and one more of a lane that may have one more
pub lanes-more : {A : Type 0} (lane_of : A → ℕ) (rows : ℕ → ℕ) (items : List A) (item : A)
    → ((lane : ℕ) → length (filter (λ (one : A). lane_of one == lane) items) ≤ rows lane)
    → length (filter (λ (one : A). lane_of one == lane_of item) items) < rows (lane_of item)
    → (lane : ℕ) → length (filter (λ (one : A). lane_of one == lane) (items ++ item ∷ [])) ≤ rows lane
lanes-more {A} lane_of rows items item each few lane =
    by-case (lane_of item == lane) refl (filter-more (λ (one : A). lane_of one == lane) items item)
  where
    by : ℕ → List A → ℕ
    by n list = length (filter (λ (one : A). lane_of one == n) list)

    by-case : (test : Bool) → (lane_of item == lane) ≡ test
        → by lane (items ++ item ∷ []) ≡ by lane items + cond (lane_of item == lane) 1 0
        → by lane (items ++ item ∷ []) ≤ rows lane
    by-case true is more =
        let here : by lane items < rows lane =
        subst (λ (n : ℕ). by n items < rows n) (eqb-true (lane_of item) lane is) few in
        let one : ◌≡◌ {A = ℕ} (cond (lane_of item == lane) 1 0) 1 = ap (λ (b : Bool). cond b 1 0) is in
        omega (arith, here, one, more)
    by-case false is more =
        let none : ◌≡◌ {A = ℕ} (cond (lane_of item == lane) 1 0) 0 = ap (λ (b : Bool). cond b 1 0) is in
        omega (arith, each lane, none, more)
