-- Orders of a script's items that keep each lane: whose rows they are, and that no market has two of one number.
use Rattle.std.proofs.Common.{◌≡◌, ℕ, ◌≤◌, true, false, eqb, List, [], ◌∷◌, ◌++◌, get_or, refl, sym, ap, ◌∙◌, subst}
use Rattle.dex_world.proofs.Common.{All-filter, All-head, All-tail, All-weaker, EachApart, EachTwo, PlainRow, ShareNothing, cond_both, eq-eqb, eqb-true, filter-append, filter_passes, flat_map, grouped-flat, is_same, items_of_lane, members, rows_of_lane}
use Rattle.dex_replay.proofs.Common.{All, AreLegs, AreRows, IsRowOf, Item, KeepsLanes, PlainScript, items_of}
use Rattle.dex_replay.proofs.Groups.{each-two, each-two-filter, each-two-weaker, each-with-each, filter-all, filter-none, grouped-each, grouped-filter, grouped-number, grouped-two, pairs-of-class, unfilter}

abbrev pub number_of : PlainRow → ℕ
number_of row = row.number

abbrev lane_of : PlainRow → ℕ
lane_of row = row.lane

-- ---- the rows of a script

-- rows of one number are legs
abbrev pub AreLegsIfOne : PlainRow → PlainRow → Type 0
AreLegsIfOne one other = one.number ≡ other.number → AreLegs one other

-- rows of one number are of one lane
abbrev HaveOneLane : PlainRow → PlainRow → Type 0
HaveOneLane one other = one.number ≡ other.number → one.lane ≡ other.lane

pub legs-of : (script : PlainScript) → AreRows script → EachTwo AreLegsIfOne script.rows
legs-of script rows = each-two AreLegsIfOne script.rows rows.legs

lanes-of-numbers : (script : PlainScript) → AreRows script → EachTwo HaveOneLane script.rows
lanes-of-numbers script rows = each-two-weaker AreLegsIfOne HaveOneLane (λ one other legs same. (legs same).lane) script.rows (legs-of script rows)

-- its own order keeps its lanes
pub own-order : (script : PlainScript) → AreRows script → KeepsLanes script (items_of script.rows)
own-order script rows lane =
    grouped-filter number_of (λ (row : PlainRow). eqb row.lane lane) script.rows
    (each-two (λ one other. one.number ≤ other.number) script.rows rows.rising)
    (each-two-weaker HaveOneLane (λ one other. one.number ≡ other.number → eqb one.lane lane ≡ eqb other.lane lane)
    (λ one other own same. ap (λ (n : ℕ). eqb n lane) (own same)) script.rows (lanes-of-numbers script rows))

-- ---- the items of a lane

-- the rows of an item: the script's, all of one lane, and each two are legs
pub record IsItemIn (script : PlainScript) (lane : ℕ) (item : Item) : Type 0 where
  pub fits : All (IsRowOf script.start) (members item)
  pub one_lane : All (λ (row : PlainRow). row.lane ≡ lane) (members item)
  pub legs : EachTwo AreLegs (members item)

each-legs : (number : ℕ) (rows : List PlainRow) → All (λ (row : PlainRow). row.number ≡ number) rows → EachTwo AreLegsIfOne rows → EachTwo AreLegs rows
each-legs number [] same each = tt
each-legs number (row ∷ rows) same each =
    let Same : PlainRow → Type 0 = λ (one : PlainRow). one.number ≡ number in
    let rest : All Same rows = All-tail Same row rows same in
    (λ k d within. each.0 k d within (All-head Same row rows same ∙ sym (rest k d within)), each-legs number rows rest each.1)

pub items-in : (script : PlainScript) → AreRows script → (lane : ℕ) → All (IsItemIn script lane) (items_of (rows_of_lane lane script.rows))
items-in script rows lane =
    let in_lane : PlainRow → _ = λ (row : PlainRow). eqb row.lane lane in
    let own : List PlainRow = rows_of_lane lane script.rows in
    let fits = grouped-each number_of (IsRowOf script.start) own (All-filter in_lane (IsRowOf script.start) script.rows rows.each) in
    let lanes = grouped-each number_of (λ (row : PlainRow). row.lane ≡ lane) own
    (All-weaker (λ (row : PlainRow). in_lane row ≡ true) (λ (row : PlainRow). row.lane ≡ lane) (λ row is. eqb-true row.lane lane is) own (filter_passes in_lane script.rows)) in
    let two = grouped-two number_of AreLegsIfOne own (each-two-filter AreLegsIfOne in_lane script.rows (legs-of script rows)) in
    λ k d within.
    let item : Item = get_or (items_of own) k d in
    record {
      fits = fits k d within;
      one_lane = lanes k d within;
      legs = each-legs item.first.number (members item) (grouped-number number_of own k d within) (two k d within);
    }

-- legs share nothing
pub legs-apart : (rows : List PlainRow) → EachTwo AreLegs rows → EachApart rows
legs-apart [] legs = tt
legs-apart (row ∷ rows) legs = (All-weaker (AreLegs row) (ShareNothing row) (λ other are. are.apart) rows legs.0, legs-apart rows legs.1)

-- so do the rows of each item
pub items-apart : (script : PlainScript) → AreRows script → (lane : ℕ) → All (λ (item : Item). EachApart (members item)) (items_of (rows_of_lane lane script.rows))
items-apart script rows lane =
    All-weaker (IsItemIn script lane) (λ (item : Item). EachApart (members item)) (λ item is. legs-apart (members item) is.legs) (items_of (rows_of_lane lane script.rows)) (items-in script rows lane)

-- ---- an order

-- each item of an order is one of its lane
pub each-item : (order : List Item) (Q : ℕ → Item → Type 0) → ((lane : ℕ) → All (Q lane) (items_of_lane lane order))
    → All (λ (item : Item). Q item.first.lane item) order
each-item order Q each k d within =
    let lane : ℕ = (get_or order k d).first.lane in
    unfilter (Q lane) (λ (item : Item). eqb item.first.lane lane) order (each lane) k d within (eq-eqb lane lane refl)

-- the rows of a lane are those of its items
pub lane-rows : (order : List Item) → All (λ (item : Item). All (λ (row : PlainRow). row.lane ≡ item.first.lane) (members item)) order → (lane : ℕ)
    → rows_of_lane lane (flat_map members order) ≡ flat_map members (items_of_lane lane order)
lane-rows [] own lane = refl
lane-rows (item ∷ order) own lane =
    let Own : Item → Type 0 = λ (one : Item). All (λ (row : PlainRow). row.lane ≡ one.first.lane) (members one) in
    let in_lane : PlainRow → _ = λ (row : PlainRow). eqb row.lane lane in
    let here : All (λ (row : PlainRow). row.lane ≡ item.first.lane) (members item) = All-head Own item order own in
    let rest : List PlainRow = flat_map members (items_of_lane lane order) in
    filter-append in_lane (members item) (flat_map members order)
    ∙ ap (λ (some : List PlainRow). rows_of_lane lane (members item) ++ some) (lane-rows order (All-tail Own item order own) lane)
    ∙ cond_both (eqb item.first.lane lane) (item ∷ items_of_lane lane order) (items_of_lane lane order)
    (λ (some : List Item). rows_of_lane lane (members item) ++ rest ≡ flat_map members some)
    (λ yes. ap (λ (some : List PlainRow). some ++ rest)
    (filter-all in_lane (members item) (All-weaker (λ (row : PlainRow). row.lane ≡ item.first.lane) (λ (row : PlainRow). in_lane row ≡ true)
    (λ row is. ap (λ (n : ℕ). eqb n lane) is ∙ yes) (members item) here)))
    (λ no. ap (λ (some : List PlainRow). some ++ rest)
    (filter-none in_lane (members item) (All-weaker (λ (row : PlainRow). row.lane ≡ item.first.lane) (λ (row : PlainRow). in_lane row ≡ false)
    (λ row is. ap (λ (n : ℕ). eqb n lane) is ∙ no) (members item) here)))

-- two rows of one number are not on one market
abbrev pub OnApart : PlainRow → PlainRow → Type 0
OnApart one other = one.number ≡ other.number → is_same one.market other.market ≡ false

module _ (script : PlainScript) (rows : AreRows script) (order : List Item) (lanes : KeepsLanes script order) where
  pub order-items : All (λ (item : Item). IsItemIn script item.first.lane item) order
  order-items = each-item order (IsItemIn script) (λ lane. subst (All (IsItemIn script lane)) (sym (lanes lane)) (items-in script rows lane))

  abbrev all_rows : List PlainRow
  all_rows = flat_map members order

  pub order-lanes : (lane : ℕ) → rows_of_lane lane all_rows ≡ rows_of_lane lane script.rows
  order-lanes lane =
      lane-rows order (All-weaker (λ (item : Item). IsItemIn script item.first.lane item) (λ (item : Item). All (λ (row : PlainRow). row.lane ≡ item.first.lane) (members item))
      (λ item is. is.one_lane) order order-items) lane
      ∙ ap (flat_map members) (lanes lane)
      ∙ grouped-flat number_of (rows_of_lane lane script.rows)

  -- what holds of the script's rows holds of the order's
  pub order-each : (P : PlainRow → Type 0) → All P script.rows → All P all_rows
  order-each P all k d within =
      let lane : ℕ = (get_or all_rows k d).lane in
      unfilter P (λ (row : PlainRow). eqb row.lane lane) all_rows
      (subst (All P) (sym (order-lanes lane)) (All-filter (λ (row : PlainRow). eqb row.lane lane) P script.rows all)) k d within (eq-eqb lane lane refl)

  order-numbers : All (λ (one : PlainRow). All (HaveOneLane one) all_rows) all_rows
  order-numbers =
      order-each (λ (one : PlainRow). All (HaveOneLane one) all_rows)
      (All-weaker (λ (one : PlainRow). All (HaveOneLane one) script.rows) (λ (one : PlainRow). All (HaveOneLane one) all_rows) (λ one each. order-each (HaveOneLane one) each) script.rows
      (each-with-each HaveOneLane (λ one same. refl) (λ one other own same. sym (own (sym same))) script.rows (lanes-of-numbers script rows)))

  pub order-apart : EachTwo OnApart all_rows
  order-apart =
      both all_rows order-numbers
      (pairs-of-class lane_of AreLegsIfOne all_rows
      (λ lane. subst (EachTwo AreLegsIfOne) (sym (order-lanes lane)) (each-two-filter AreLegsIfOne (λ (row : PlainRow). eqb row.lane lane) script.rows (legs-of script rows))))
    where
      both : (some : List PlainRow) → All (λ (one : PlainRow). All (HaveOneLane one) some) some
          → EachTwo (λ (one other : PlainRow). one.lane ≡ other.lane → AreLegsIfOne one other) some → EachTwo OnApart some
      both [] numbers legs = tt
      both (row ∷ some) numbers legs = (
        λ k d within same. (legs.0 k d within (All-tail (HaveOneLane row) row some (All-head (λ (one : PlainRow). All (HaveOneLane one) (row ∷ some)) row some numbers) k d within same) same).apart.markets,
        both some (λ k d within. All-tail (HaveOneLane (get_or some k d)) row some (All-tail (λ (one : PlainRow). All (HaveOneLane one) (row ∷ some)) row some numbers k d within)) legs.1,
      )
