-- Groups of neighbours of one number, and what holds of their elements.
use Rattle.std.proofs.Common.{◌≡◌, ℕ, ◌<◌, ◌≤◌, suc, Bool, true, false, cond, eqb, List, [], ◌∷◌, get_or, map, refl, sym, ap, ◌∙◌, subst, arith}
use Rattle.dex_world.proofs.Common.{All-cons, All-filter, All-head, All-nil, All-tail, All-weaker, AllPairs, EachTwo, Goes, Group, Rise, alone, cond-false, cond-true, cond_both, eq-eqb, eqb-false, eqb-true, false≢true, filter, grouped, grouped-firsts, grouped-rise, members, ne_eqb}
use Rattle.std.specs.List.{All}
use Rattle.dex_world.specs.Groups.{joined}
use Rattle.dex_world.proofs.GroupLaws.{FirstStamp}

-- ---- each two elements

pub each-two : {A : Type 0} (R : A → A → Type 0) (xs : List A) → AllPairs R xs → EachTwo R xs
each-two R [] pairs = tt
each-two R (x ∷ xs) pairs = (
  λ k d within. pairs 0 (suc k) d (omega arith) (omega (arith, within)),
  each-two R xs (λ i j d less within. pairs (suc i) (suc j) d (omega (arith, less)) (omega (arith, within))),
)

pub each-two-weaker : {A : Type 0} (R S : A → A → Type 0) → ((x y : A) → R x y → S x y) → (xs : List A) → EachTwo R xs → EachTwo S xs
each-two-weaker R S weaker [] each = tt
each-two-weaker R S weaker (x ∷ xs) each = (All-weaker (R x) (S x) (weaker x) xs each.0, each-two-weaker R S weaker xs each.1)

pub each-two-filter : {A : Type 0} (R : A → A → Type 0) (p : A → Bool) (xs : List A) → EachTwo R xs → EachTwo R (filter p xs)
each-two-filter R p [] each = tt
each-two-filter R p (x ∷ xs) each =
    cond_both (p x) (x ∷ filter p xs) (filter p xs) (EachTwo R)
    (λ passes. (All-filter p (R x) xs each.0, each-two-filter R p xs each.1)) (λ fails. each-two-filter R p xs each.1)

-- what holds of each two, and of one with itself, holds of all with all
pub each-with-each : {A : Type 0} (S : A → A → Type 0) → ((x : A) → S x x) → ((x y : A) → S x y → S y x) → (xs : List A) → EachTwo S xs
    → All (λ x. All (S x) xs) xs
each-with-each S itself back [] each = All-nil _
each-with-each S itself back (x ∷ xs) each =
    All-cons (λ y. All (S y) (x ∷ xs)) x xs (All-cons (S x) x xs (itself x) each.0)
    (λ k d within.
    let y : _ = get_or xs k d in
    All-cons (S y) x xs (back x y (each.0 k d within)) (each-with-each S itself back xs each.1 k d within))

-- ---- what a test keeps

pub unfilter : {A : Type 0} (P : A → Type 0) (p : A → Bool) (xs : List A) → All P (filter p xs) → All (λ x. p x ≡ true → P x) xs
unfilter P p [] all = All-nil _
unfilter P p (x ∷ xs) all =
    let Q : _ → Type 0 = λ y. p y ≡ true → P y in
    All-cons Q x xs
    (λ passes. All-head P x (filter p xs) (subst (All P) (cond-true (p x) (x ∷ filter p xs) (filter p xs) passes) all))
    (unfilter P p xs (cond_both (p x) (x ∷ filter p xs) (filter p xs) (λ ys. All P ys → All P (filter p xs))
    (λ passes kept. All-tail P x (filter p xs) kept) (λ fails kept. kept) all))

pub filter-all : {A : Type 0} (p : A → Bool) (xs : List A) → All (λ x. p x ≡ true) xs → filter p xs ≡ xs
filter-all p [] all = refl
filter-all p (x ∷ xs) all =
    cond-true (p x) (x ∷ filter p xs) (filter p xs) (All-head (λ y. p y ≡ true) x xs all) ∙ ap (λ ys. x ∷ ys) (filter-all p xs (All-tail (λ y. p y ≡ true) x xs all))

pub filter-none : {A : Type 0} (p : A → Bool) (xs : List A) → All (λ x. p x ≡ false) xs → filter p xs ≡ []
filter-none p [] all = refl
filter-none p (x ∷ xs) all =
    cond-false (p x) (x ∷ filter p xs) (filter p xs) (All-head (λ y. p y ≡ false) x xs all) ∙ filter-none p xs (All-tail (λ y. p y ≡ false) x xs all)

-- each two of one class, where they are it class by class
pub pairs-of-class : {A : Type 0} (class : A → ℕ) (R : A → A → Type 0) (xs : List A) → ((n : ℕ) → EachTwo R (filter (λ x. eqb (class x) n) xs))
    → EachTwo (λ x y. class x ≡ class y → R x y) xs
pairs-of-class class R [] each = tt
pairs-of-class {A} class R (x ∷ xs) each = (
  All-weaker (λ y. eqb (class y) (class x) ≡ true → R x y) (λ y. class x ≡ class y → R x y) (λ y own same. own (eq-eqb (class y) (class x) (sym same))) xs
      (unfilter (R x) (λ y. eqb (class y) (class x)) xs (first (class x) (eq-eqb (class x) (class x) refl)).0),
  pairs-of-class class R xs (λ n. later n),
)
  where
    first : (n : ℕ) → eqb (class x) n ≡ true → EachTwo R (x ∷ filter (λ y. eqb (class y) n) xs)
    first n same = subst (EachTwo R) (cond-true (eqb (class x) n) (x ∷ filter (λ y. eqb (class y) n) xs) (filter (λ y. eqb (class y) n) xs) same) (each n)

    later : (n : ℕ) → EachTwo R (filter (λ y. eqb (class y) n) xs)
    later n = cond_both (eqb (class x) n) (x ∷ filter (λ y. eqb (class y) n) xs) (filter (λ y. eqb (class y) n) xs) (λ (ys : List A). EachTwo R ys → EachTwo R (filter (λ y. eqb (class y) n) xs))
        (λ same kept. kept.1) (λ apart kept. kept) (each n)

-- ---- groups

module _ {A : Type 0} (key : A → ℕ) where
  -- one element more
  pub joined-all : (Q H : Group A → Type 0) (x : A) (groups : List (Group A)) → Q (alone x)
      → ((group : Group A) → key x ≡ key group.first → H group → Q group → Q (record { first = x; others = members group }))
      → All H groups → All Q groups → All Q (joined key x groups)
  joined-all Q H x [] one more hold all = All-cons Q (alone x) [] one all
  joined-all Q H x (group ∷ groups) one more hold all =
      cond_both (eqb (key x) (key group.first)) (record { first = x; others = members group } ∷ groups) (alone x ∷ group ∷ groups) (All Q)
      (λ same. All-cons Q (record { first = x; others = members group }) groups
      (more group (eqb-true (key x) (key group.first) same) (All-head H group groups hold) (All-head Q group groups all)) (All-tail Q group groups all))
      (λ apart. All-cons Q (alone x) (group ∷ groups) one all)

  -- what holds of all elements holds of those of each group
  pub grouped-each : (P : A → Type 0) (xs : List A) → All P xs → All (λ (group : Group A). All P (members group)) (grouped key xs)
  grouped-each P [] all = All-nil _
  grouped-each P (x ∷ xs) all =
      let Q : Group A → Type 0 = λ (group : Group A). All P (members group) in
      let here : P x = All-head P x xs all in
      joined-all Q (λ group. Unit {0}) x (grouped key xs) (All-cons P x [] here (All-nil P)) (λ group same none rest. All-cons P x (members group) here rest)
      (λ k d within. tt) (grouped-each P xs (All-tail P x xs all))

  -- those of a group have one number
  pub grouped-number : (xs : List A) → All (λ (group : Group A). All (λ y. key y ≡ key group.first) (members group)) (grouped key xs)
  grouped-number [] = All-nil _
  grouped-number (x ∷ xs) =
      let Q : Group A → Type 0 = λ (group : Group A). All (λ y. key y ≡ key group.first) (members group) in
      joined-all Q (λ group. Unit {0}) x (grouped key xs) (All-cons (λ y. key y ≡ key x) x [] refl (All-nil _))
      (λ group same none rest. All-cons (λ y. key y ≡ key x) x (members group) refl
      (All-weaker (λ y. key y ≡ key group.first) (λ y. key y ≡ key x) (λ y is. is ∙ sym same) (members group) rest))
      (λ k d within. tt) (grouped-number xs)

  -- what holds of each two holds of each two of a group
  pub grouped-two : (R : A → A → Type 0) (xs : List A) → EachTwo R xs → All (λ (group : Group A). EachTwo R (members group)) (grouped key xs)
  grouped-two R [] each = All-nil _
  grouped-two R (x ∷ xs) each =
      joined-all (λ group. EachTwo R (members group)) (λ group. All (R x) (members group)) x (grouped key xs) (All-nil (R x), tt)
      (λ group same hold rest. (hold, rest)) (grouped-each (R x) xs each.0) (grouped-two R xs each.1)

  -- in front of groups of other numbers an element stands alone
  joined-alone : (x : A) (groups : List (Group A)) → All (λ (group : Group A). eqb (key x) (key group.first) ≡ false) groups → joined key x groups ≡ alone x ∷ groups
  joined-alone x [] apart = refl
  joined-alone x (group ∷ groups) apart = cond-false _ _ _ (All-head (λ (one : Group A). eqb (key x) (key one.first) ≡ false) group groups apart)

  -- where numbers rise, a list without two of one number is one of groups of one
  pub grouped-single : (xs : List A) → EachTwo (λ x y. key x < key y) xs → grouped key xs ≡ map alone xs
  grouped-single [] each = refl
  grouped-single (x ∷ xs) each =
      joined-alone x (grouped key xs)
      (grouped-firsts key (λ y. eqb (key x) (key y) ≡ false) xs
      (All-weaker (λ y. key x < key y) (λ y. eqb (key x) (key y) ≡ false) (λ y less. ne_eqb (key x) (key y) (λ same. absurd (omega (arith, less, same)))) xs each.0))
      ∙ ap (λ (some : List (Group A)). alone x ∷ some) (grouped-single xs each.1)

  -- a test that those of one number pass together picks groups as it picks elements, where the numbers never fall
  module _ (p : A → Bool) where
    abbrev of_first : Group A → Bool
    of_first group = p group.first

    -- an element in front, which passes or not
    joined-picked : (x : A) (groups : List (Group A)) → All (λ (group : Group A). key x ≤ key group.first) groups → Rise (FirstStamp key key) groups
        → All (λ (group : Group A). key x ≡ key group.first → p x ≡ p group.first) groups
        → filter of_first (joined key x groups) ≡ cond (p x) (joined key x (filter of_first groups)) (filter of_first groups)
    joined-picked x [] above rise same = refl
    joined-picked x (group ∷ groups) above rise same =
        let rest : List (Group A) = filter of_first (group ∷ groups) in
        let with_it : Group A = record { first = x; others = members group } in
        let Above : Group A → Type 0 = λ (one : Group A). key x ≤ key one.first in
        let head : key x ≤ key group.first = All-head Above group groups above in
        cond_both (eqb (key x) (key group.first)) (with_it ∷ groups) (alone x ∷ group ∷ groups)
        (λ (some : List (Group A)). filter of_first some ≡ cond (p x) (joined key x rest) rest)
        (λ one.
        together (p x) (p group.first) one
        (All-head (λ (other : Group A). key x ≡ key other.first → p x ≡ p other.first) group groups same (eqb-true (key x) (key group.first) one)) (filter of_first groups))
        (λ apart.
        ap (λ (some : List (Group A)). cond (p x) some rest)
        (sym (joined-alone x rest
        (All-filter of_first (λ (other : Group A). eqb (key x) (key other.first) ≡ false) (group ∷ groups)
        (All-cons (λ (other : Group A). eqb (key x) (key other.first) ≡ false) group groups apart
        (All-weaker (λ (other : Group A). key group.first < key other.first) (λ (other : Group A). eqb (key x) (key other.first) ≡ false)
        (λ other less. ne_eqb (key x) (key other.first) (λ is. absurd (omega (arith, head, less, is)))) groups rise.0))))))
      where
        together : (here there : Bool) → eqb (key x) (key group.first) ≡ true → here ≡ there → (kept : List (Group A))
            → cond here (record { first = x; others = members group } ∷ kept) kept
            ≡ cond here (joined key x (cond there (group ∷ kept) kept)) (cond there (group ∷ kept) kept)
        together true true is alike kept =
            sym (cond-true (eqb (key x) (key group.first)) (record { first = x; others = members group } ∷ kept) (alone x ∷ group ∷ kept) is)
        together false false is alike kept = refl
        together true false is alike kept = absurd (false≢true (sym alike))
        together false true is alike kept = absurd (false≢true alike)

    -- so it picks the groups of the elements that pass
    pub grouped-filter : (xs : List A) → EachTwo (λ x y. key x ≤ key y) xs → EachTwo (λ x y. key x ≡ key y → p x ≡ p y) xs
        → filter of_first (grouped key xs) ≡ grouped key (filter p xs)
    grouped-filter [] above same = refl
    grouped-filter (x ∷ xs) above same =
        joined-picked x (grouped key xs) (grouped-firsts key (λ y. key x ≤ key y) xs above.0)
        (grouped-rise key key xs (each-two-weaker (λ y z. key y ≤ key z) (Goes key key) goes xs above.1))
        (grouped-firsts key (λ y. key x ≡ key y → p x ≡ p y) xs same.0)
        ∙ ap (λ (some : List (Group A)). cond (p x) (joined key x some) some) (grouped-filter xs above.1 same.1)
        ∙ cond_both (p x) (x ∷ filter p xs) (filter p xs) (λ (some : List A). cond (p x) (joined key x (grouped key (filter p xs))) (grouped key (filter p xs)) ≡ grouped key some)
        (λ passes. cond-true _ _ _ passes) (λ fails. cond-false _ _ _ fails)
      where
        goes : (y z : A) → key y ≤ key z → Goes key key y z
        goes y z most = record {
          together = λ same. eqb-true (key y) (key z) same;
          later = λ apart. let not_same : key y ≡ key z → ⊥ = eqb-false (key y) (key z) apart in omega (arith, most, not_same);
        }
