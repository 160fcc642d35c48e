-- What joins leave of labels.
use Rattle.std.proofs.Common.{◌≡◌, ◌<◌, ◌≤◌, ◌+◌, ℕ, eqb, ltb, List, [], ◌∷◌, ◌++◌, get_or, length, map, refl, sym, ap, ◌∙◌, subst, arith, ⊎_elim, ◌⊎◌, inl, inr}
use Rattle.dex_parts.proofs.Common.{All, All-behind, All-front, le-ltb, ltb-true}
use Rattle.dex_world.proofs.Common.{All-cons, All-head, All-nil, All-tail, cond-false, cond-true, cond_both, eq-eqb, eqb-true, get_or-map, length-map, lt-ltb, ltb-false}
use Rattle.dex_parts.specs.Joins.{IsWithin, Link, all_joined, joined, place_links, relabelled}

-- ---- how many there are

joined-long : (labels : List ℕ) (link : Link) → length (joined labels link) ≡ length labels
joined-long labels link =
    let one : ℕ = get_or labels link.0 0 in
    let other : ℕ = get_or labels link.1 0 in
    cond_both (ltb one other) (map (relabelled other one) labels) (map (relabelled one other) labels) (λ (all : List ℕ). length all ≡ length labels)
    (λ lower. length-map labels (relabelled other one)) (λ higher. length-map labels (relabelled one other))

pub joined-all-long : (labels : List ℕ) (links : List Link) → length (all_joined labels links) ≡ length labels
joined-all-long labels [] = refl
joined-all-long labels (link ∷ links) = joined-all-long (joined labels link) links ∙ joined-long labels link

-- some links, and then others
pub joined-append : (labels : List ℕ) (links more : List Link) → all_joined labels (links ++ more) ≡ all_joined (all_joined labels links) more
joined-append labels [] more = refl
joined-append labels (link ∷ links) more = joined-append (joined labels link) links more

-- ---- labels that are one

relabelled-same : (label : ℕ) (labels : List ℕ) → map (relabelled label label) labels ≡ labels
relabelled-same label [] = refl
relabelled-same label (first ∷ others) =
    let here : relabelled label label first ≡ first =
    cond_both (eqb first label) label first (λ (n : ℕ). n ≡ first) (λ same. sym (eqb-true first label same)) (λ apart. refl) in
    λ i. here i ∷ relabelled-same label others i

-- of two with one label none changes
pub joined-same : (labels : List ℕ) (one other : ℕ) → get_or labels one 0 ≡ get_or labels other 0 → joined labels (one, other) ≡ labels
joined-same labels one other same =
    let first : ℕ = get_or labels one 0 in
    let second : ℕ = get_or labels other 0 in
    cond-false (ltb first second) (map (relabelled second first) labels) (map (relabelled first second) labels) (le-ltb first second (omega (arith, same)))
    ∙ ap (λ (n : ℕ). map (relabelled first n) labels) (sym same)
    ∙ relabelled-same first labels

-- ---- what a join does to the label of a place, by the lower and the higher of the two labels

-- the higher of the two labels of a link was taken for the lower one
record IsJoined (labels new : List ℕ) (link : Link) : Type 0 where
  from : ℕ
  to : ℕ
  lower : to ≤ from
  is : new ≡ map (relabelled from to) labels
  ends : ((get_or labels link.0 0 ≡ to) × (get_or labels link.1 0 ≡ from)) ⊎ ((get_or labels link.0 0 ≡ from) × (get_or labels link.1 0 ≡ to))

is-joined : (labels : List ℕ) (link : Link) → IsJoined labels (joined labels link) link
is-joined labels link =
    let one : ℕ = get_or labels link.0 0 in
    let other : ℕ = get_or labels link.1 0 in
    cond_both (ltb one other) (map (relabelled other one) labels) (map (relabelled one other) labels) (λ (new : List ℕ). IsJoined labels new link)
    (λ lower. record { from = other; to = one; lower = omega (arith, ltb-true one other lower); is = refl; ends = inl (refl, refl) })
    (λ higher. record { from = one; to = other; lower = ltb-false one other higher; is = refl; ends = inr (refl, refl) })

-- the label at a place
label-at : (labels new : List ℕ) (from to place : ℕ) → new ≡ map (relabelled from to) labels → place < length labels
    → get_or new place 0 ≡ relabelled from to (get_or labels place 0)
label-at labels new from to place is within =
    ap (λ (all : List ℕ). get_or all place 0) is ∙ get_or-map (relabelled from to) labels place 0 0 within

relabelled-from : (from to : ℕ) → relabelled from to from ≡ to
relabelled-from from to = cond-true (eqb from from) to from (eq-eqb from from refl)

relabelled-to : (from to : ℕ) → relabelled from to to ≡ to
relabelled-to from to = cond_both (eqb to from) to to (λ (n : ℕ). n ≡ to) (λ same. refl) (λ apart. refl)

-- what was one stays one
pub stays-one : (labels : List ℕ) (links : List Link) (one other : ℕ) → one < length labels → other < length labels → get_or labels one 0 ≡ get_or labels other 0
    → get_or (all_joined labels links) one 0 ≡ get_or (all_joined labels links) other 0
stays-one labels [] one other within within_other same = same
stays-one labels (link ∷ links) one other within within_other same =
    let join : IsJoined labels (joined labels link) link = is-joined labels link in
    let long = joined-long labels link in
    stays-one (joined labels link) links one other (omega (arith, within, long)) (omega (arith, within_other, long))
    (label-at labels (joined labels link) join.from join.to one join.is within
    ∙ ap (relabelled join.from join.to) same
    ∙ sym (label-at labels (joined labels link) join.from join.to other join.is within_other))

-- what is joined is one
joined-one : (labels : List ℕ) (link : Link) → IsWithin (length labels) link → get_or (joined labels link) link.0 0 ≡ get_or (joined labels link) link.1 0
joined-one labels link within =
    let join : IsJoined labels (joined labels link) link = is-joined labels link in
    let from : ℕ = join.from in
    let to : ℕ = join.to in
    let first = label-at labels (joined labels link) from to link.0 join.is within.0 in
    let second = label-at labels (joined labels link) from to link.1 join.is within.1 in
    ⊎_elim
    (λ (ends : (get_or labels link.0 0 ≡ to) × (get_or labels link.1 0 ≡ from)).
    first ∙ ap (relabelled from to) ends.0 ∙ relabelled-to from to ∙ sym (second ∙ ap (relabelled from to) ends.1 ∙ relabelled-from from to))
    (λ (ends : (get_or labels link.0 0 ≡ from) × (get_or labels link.1 0 ≡ to)).
    first ∙ ap (relabelled from to) ends.0 ∙ relabelled-from from to ∙ sym (second ∙ ap (relabelled from to) ends.1 ∙ relabelled-to from to))
    join.ends

-- the places of a link have one label
abbrev pub HasOne : List ℕ → Link → Type 0
HasOne labels link = get_or labels link.0 0 ≡ get_or labels link.1 0

pub all-one : (labels : List ℕ) (links : List Link) → All (IsWithin (length labels)) links → All (HasOne (all_joined labels links)) links
all-one labels [] within = All-nil (HasOne labels)
all-one labels (link ∷ links) within =
    let here : IsWithin (length labels) link = All-head (IsWithin (length labels)) link links within in
    let long = joined-long labels link in
    All-cons (HasOne (all_joined (joined labels link) links)) link links
    (stays-one (joined labels link) links link.0 link.1 (omega (arith, here.0, long)) (omega (arith, here.1, long)) (joined-one labels link here))
    (all-one (joined labels link) links
    (subst (λ (count : ℕ). All (IsWithin count) links) (sym long) (All-tail (IsWithin (length labels)) link links within)))

-- ---- while rows join

-- what is left of some links is within labels that others left
within-behind : (labels new : List ℕ) (done links : List Link) → new ≡ all_joined labels done → All (IsWithin (length labels)) links → All (IsWithin (length new)) links
within-behind labels new done links is within =
    subst (λ (count : ℕ). All (IsWithin count) links) (sym (ap (λ (all : List ℕ). length all) is ∙ joined-all-long labels done)) within

-- the link of a place at which a wallet stands
pub wallet-within : (count markets market place : ℕ) → All (IsWithin count) (place_links markets market place) → place < 65535
    → IsWithin count (market, markets + place)
wallet-within count markets market place within named =
    All-head (IsWithin count) (market, markets + place) []
    (subst (λ (links : List Link). All (IsWithin count) links) (cond-true (ltb place 65535) ((market, markets + place) ∷ []) [] (lt-ltb place 65535 named)) within)

-- the links that are left join what is still to be joined
pub record AreLeft (start labels : List ℕ) (all left : List Link) : Type 0 where
  pub joins : all_joined labels left ≡ all_joined start all
  pub within : All (IsWithin (length labels)) left

module _ (start labels : List ℕ) (all done others : List Link) (are : AreLeft start labels all (done ++ others)) where
  -- those in front are within
  pub first-within : All (IsWithin (length labels)) done
  first-within = All-front (IsWithin (length labels)) done others are.within

  -- and behind them the others are left
  pub left-less : (next : List ℕ) → next ≡ all_joined labels done → AreLeft start next all others
  left-less next is = record {
    joins = ap (λ (some : List ℕ). all_joined some others) is ∙ sym (joined-append labels done others) ∙ are.joins;
    within = within-behind labels next done others is (All-behind (IsWithin (length labels)) done others are.within);
  }

-- ---- numbers that agree with all links agree with the labels

module _ (tell : ℕ → ℕ) where
  -- both places of a link have one number
  abbrev pub Agrees : Link → Type 0
  Agrees link = tell link.0 ≡ tell link.1

  -- each place has the number of its label
  abbrev pub Keeps : List ℕ → Type 0
  Keeps labels = (place : ℕ) → place < length labels → tell (get_or labels place 0) ≡ tell place

  joined-keeps : (labels : List ℕ) (link : Link) → IsWithin (length labels) link → Agrees link → Keeps labels → Keeps (joined labels link)
  joined-keeps labels link within agrees keeps = λ place inside.
      let join : IsJoined labels (joined labels link) link = is-joined labels link in
      let own : place < length labels = omega (arith, inside, joined-long labels link) in
      let label : ℕ = get_or labels place 0 in
      let same : tell join.to ≡ tell join.from =
      ⊎_elim
      (λ (ends : (get_or labels link.0 0 ≡ join.to) × (get_or labels link.1 0 ≡ join.from)).
      ap tell (sym ends.0) ∙ keeps link.0 within.0 ∙ agrees ∙ sym (keeps link.1 within.1) ∙ ap tell ends.1)
      (λ (ends : (get_or labels link.0 0 ≡ join.from) × (get_or labels link.1 0 ≡ join.to)).
      ap tell (sym ends.1) ∙ keeps link.1 within.1 ∙ sym agrees ∙ sym (keeps link.0 within.0) ∙ ap tell ends.0)
      join.ends in
      ap tell (label-at labels (joined labels link) join.from join.to place join.is own)
      ∙ cond_both (eqb label join.from) join.to label (λ (n : ℕ). tell n ≡ tell place)
      (λ taken. same ∙ ap tell (sym (eqb-true label join.from taken)) ∙ keeps place own) (λ left. keeps place own)

  pub all-keep : (labels : List ℕ) (links : List Link) → All (IsWithin (length labels)) links → All Agrees links → Keeps labels → Keeps (all_joined labels links)
  all-keep labels [] within agree keeps = keeps
  all-keep labels (link ∷ links) within agree keeps =
      let here : IsWithin (length labels) link = All-head (IsWithin (length labels)) link links within in
      all-keep (joined labels link) links
      (subst (λ (count : ℕ). All (IsWithin count) links) (sym (joined-long labels link)) (All-tail (IsWithin (length labels)) link links within))
      (All-tail Agrees link links agree)
      (joined-keeps labels link here (All-head Agrees link links agree) keeps)

-- ---- labels never rise

abbrev pub AreLow : List ℕ → Type 0
AreLow labels = (place : ℕ) → place < length labels → get_or labels place 0 ≤ place

joined-low : (labels : List ℕ) (link : Link) → AreLow labels → AreLow (joined labels link)
joined-low labels link low = λ place inside.
    let join : IsJoined labels (joined labels link) link = is-joined labels link in
    let own : place < length labels = omega (arith, inside, joined-long labels link) in
    let label : ℕ = get_or labels place 0 in
    subst (λ (n : ℕ). n ≤ place) (sym (label-at labels (joined labels link) join.from join.to place join.is own))
    (cond_both (eqb label join.from) join.to label (λ (n : ℕ). n ≤ place)
    (λ taken. omega (arith, join.lower, eqb-true label join.from taken, low place own)) (λ left. low place own))

pub all-low : (labels : List ℕ) (links : List Link) → AreLow labels → AreLow (all_joined labels links)
all-low labels [] low = low
all-low labels (link ∷ links) low = all-low (joined labels link) links (joined-low labels link low)
