-- The items of all lanes: calls of one number with their rows. Each has one stamp.
use Rattle.std.proofs.Common.{◌≡◌, ℕ, zero, suc, ◌+◌, ◌<◌, Bool, true, false, ◌||◌, cond, eqb, List, [], ◌∷◌, ◌++◌, map, refl, sym, ap, ◌∙◌, subst, arith, ⊎_elim, All, append-nil}
use Rattle.dex_world.proofs.Common.{All-cons, All-head, All-nil, All-tail, All-weaker, Asked, EachApart, EachTwo, Goes, Group, PlainRow, Rise, cases_Bool, eqb-false, eqb-true, filter, filter-append, filter_passes, flat_map, flat_map-append, grouped, grouped-firsts, grouped-flat, grouped-rise, list_any, members, ne_eqb, range_with_len, rows_of_lane}
use Rattle.dex_replay.proofs.Common.{AreRows, PlainScript}
use Rattle.dex_serializable.proofs.Common.{All-unmap, AreAllOrNone, IsAsOthers, IsBefore, IsLaneDone, Lane, each-two, each-two-weaker, filter-all, filter-none, head-same, number_in, tail-same}
use Rattle.dex_world.specs.Groups.{map_group}
use Rattle.dex_world.specs.Items as item
use Rattle.dex_world.specs.Items.{items_of}
use Rattle.dex_world.proofs.GroupLaws.{grouped-agree, grouped-map, grouped-stamps}
use Rattle.dex_replay.proofs.Orders.{items-apart}
use Rattle.dex_serializable.proofs.Items.{Item, all_items, call_in, lane-calls, lane-rows, lane_items, row_in, stamp_in}
use Rattle.dex_serializable.proofs.Sorted.{Rises}

-- ---- one of them

-- what holds of the calls of an item, with their rows
pub record IsTurn (script : PlainScript) (group : Group (Item script)) : Type 0 where
  pub stamps : All (λ (item : Item script). stamp_in item ≡ stamp_in group.first) (members group)
  pub choice : All (λ (item : Item script). IsAsOthers (map call_in (members group)) item.call) (members group)
  pub legs : EachApart (map row_in (members group))

pub record Turn (script : PlainScript) : Type 0 where
  pub group : Group (Item script)
  pub is : IsTurn script group

abbrev pub items_in : {script : PlainScript} → Turn script → List (Item script)
items_in turn = members turn.group

abbrev pub stamp_of : {script : PlainScript} → Turn script → ℕ
stamp_of turn = stamp_in turn.group.first

-- its rows, as an item of the script
abbrev pub item_in : {script : PlainScript} → Turn script → item.Item
item_in turn = map_group row_in turn.group

-- ---- groups that are such

module _ (script : PlainScript) where
  abbrev turned : (groups : List (Group (Item script))) → All (IsTurn script) groups → List (Turn script)
  turned [] all = []
  turned (group ∷ groups) all =
      record { group = group; is = All-head (IsTurn script) group groups all } ∷ turned groups (All-tail (IsTurn script) group groups all)

  turned-items : (groups : List (Group (Item script))) (all : All (IsTurn script) groups) → flat_map items_in (turned groups all) ≡ flat_map members groups
  turned-items [] all = refl
  turned-items (group ∷ groups) all =
      ap (λ (some : List (Item script)). members group ++ some) (turned-items groups (All-tail (IsTurn script) group groups all))

  turned-rows : (groups : List (Group (Item script))) (all : All (IsTurn script) groups) → map item_in (turned groups all) ≡ map (map_group row_in) groups
  turned-rows [] all = refl
  turned-rows (group ∷ groups) all =
      ap (λ (some : List item.Item). map_group row_in group ∷ some) (turned-rows groups (All-tail (IsTurn script) group groups all))

  turned-each : (P : Group (Item script) → Type 0) (groups : List (Group (Item script))) (all : All (IsTurn script) groups) → All P groups
      → All (λ (turn : Turn script). P turn.group) (turned groups all)
  turned-each P [] all each = All-nil (λ (turn : Turn script). P turn.group)
  turned-each P (group ∷ groups) all each =
      All-cons (λ (turn : Turn script). P turn.group) (record { group = group; is = All-head (IsTurn script) group groups all })
      (turned groups (All-tail (IsTurn script) group groups all)) (All-head P group groups each)
      (turned-each P groups (All-tail (IsTurn script) group groups all) (All-tail P group groups each))

  turned-rises : (groups : List (Group (Item script))) (all : All (IsTurn script) groups) → Rise (λ (group : Group (Item script)). stamp_in group.first) groups
      → Rises stamp_of (turned groups all)
  turned-rises [] all rise = tt
  turned-rises (group ∷ groups) all rise =
      let rest : All (IsTurn script) groups = All-tail (IsTurn script) group groups all in
      (turned-each (λ (one : Group (Item script)). stamp_in group.first < stamp_in one.first) groups rest rise.0, turned-rises groups rest rise.1)

two-unmap : {A B : Type 0} (R : B → B → Type 0) (f : A → B) (xs : List A) → EachTwo R (map f xs) → EachTwo (λ x y. R (f x) (f y)) xs
two-unmap R f [] each = tt
two-unmap R f (x ∷ xs) each = (All-unmap (R (f x)) f xs each.0, two-unmap R f xs each.1)

-- ---- the items of a lane

module _ (script : PlainScript) (facts : AreRows script) where
  abbrev number_of : Item script → ℕ
  number_of one = number_in one.call

  abbrev row_number : PlainRow → ℕ
  row_number row = row.number

  same-number : (one : Item script) → number_of one ≡ one.row.number
  same-number one = ap (λ (asked : Asked). asked.number) one.is.asks

  module _ (lane : Lane) (done : IsLaneDone script lane) where
    abbrev own : List (Item script)
    own = lane_items script facts.each lane done

    abbrev groups : List (Group (Item script))
    groups = grouped number_of own

    pub goes : EachTwo (Goes number_of stamp_in) own
    goes =
        each-two-weaker (λ (x y : Item script). IsBefore x.call y.call) (Goes number_of stamp_in) (λ x y is. record { together = is.together; later = is.later }) own
        (two-unmap IsBefore call_in own
        (subst (EachTwo IsBefore) (sym (lane-calls script facts.each lane done)) (each-two IsBefore lane.calls done.calls.rising)))

    pub choices : All (λ (group : Group (Item script)). All (λ (one : Item script). IsAsOthers (map call_in (members group)) one.call) (members group)) groups
    choices =
        All-weaker (λ (group : Group (Item script)). AreAllOrNone (map_group call_in group))
        (λ (group : Group (Item script)). All (λ (one : Item script). IsAsOthers (map call_in (members group)) one.call) (members group))
        (λ group all. All-unmap (IsAsOthers (map call_in (members group))) call_in (members group) all) groups
        (All-unmap AreAllOrNone (map_group call_in) groups
        (subst (All AreAllOrNone) (ap (grouped number_in) (sym (lane-calls script facts.each lane done)) ∙ grouped-map number_in call_in own) done.calls.items))

    -- their rows are the items of the lane's rows
    rows-grouped : map (map_group row_in) groups ≡ items_of (rows_of_lane lane.number script.rows)
    rows-grouped =
        ap (map (map_group row_in)) (grouped-agree number_of (λ (one : Item script). one.row.number) same-number own)
        ∙ sym (grouped-map row_number row_in own)
        ∙ ap (grouped row_number) (lane-rows script facts.each lane done)

    pub apart : All (λ (group : Group (Item script)). EachApart (map row_in (members group))) groups
    apart =
        All-unmap (λ (one : item.Item). EachApart (members one)) (map_group row_in) groups
        (subst (All (λ (one : item.Item). EachApart (members one))) (sym rows-grouped) (items-apart script facts lane.number))

    pub are-turns : All (IsTurn script) groups
    are-turns k d within = record { stamps = grouped-stamps number_of stamp_in own goes k d within; choice = choices k d within; legs = apart k d within }

    abbrev pub lane_turns : List (Turn script)
    lane_turns = turned script groups are-turns

    pub lane-flat : flat_map items_in lane_turns ≡ lane_items script facts.each lane done
    lane-flat = turned-items script groups are-turns ∙ grouped-flat number_of own

    pub lane-items : map item_in lane_turns ≡ items_of (rows_of_lane lane.number script.rows)
    lane-items = turned-rows script groups are-turns ∙ rows-grouped

    pub lane-rises : Rises stamp_of lane_turns
    lane-rises = turned-rises script groups are-turns (grouped-rise number_of stamp_in own goes)

    -- each is of the lane
    lane-numbers : All (λ (turn : Turn script). eqb turn.group.first.row.lane lane.number ≡ true) lane_turns
    lane-numbers =
        turned-each script (λ (group : Group (Item script)). eqb group.first.row.lane lane.number ≡ true) groups are-turns
        (grouped-firsts number_of (λ (one : Item script). eqb one.row.lane lane.number ≡ true) own
        (All-unmap (λ (row : PlainRow). eqb row.lane lane.number ≡ true) row_in own
        (subst (All (λ (row : PlainRow). eqb row.lane lane.number ≡ true)) (sym (lane-rows script facts.each lane done))
        (filter_passes (λ (row : PlainRow). eqb row.lane lane.number) script.rows))))

  -- ---- of all lanes

  abbrev pub all_turns : (lanes : List Lane) → All (IsLaneDone script) lanes → List (Turn script)
  all_turns [] done = []
  all_turns (lane ∷ lanes) done =
      lane_turns lane (All-head (IsLaneDone script) lane lanes done) ++ all_turns lanes (All-tail (IsLaneDone script) lane lanes done)

  pub all-flat : (lanes : List Lane) (done : All (IsLaneDone script) lanes) → flat_map items_in (all_turns lanes done) ≡ all_items script facts.each lanes done
  all-flat [] done = refl
  all-flat (lane ∷ lanes) done =
      let here : IsLaneDone script lane = All-head (IsLaneDone script) lane lanes done in
      let rest : All (IsLaneDone script) lanes = All-tail (IsLaneDone script) lane lanes done in
      flat_map-append items_in (lane_turns lane here) (all_turns lanes rest)
      ∙ (λ i. lane-flat lane here i ++ all-flat lanes rest i)

  abbrev pub IsOf : ℕ → Turn script → Bool
  IsOf number turn = eqb turn.group.first.row.lane number

  lane-other : (number : ℕ) (lane : Lane) (done : IsLaneDone script lane) → (lane.number ≡ number → ⊥) → filter (IsOf number) (lane_turns lane done) ≡ []
  lane-other number lane done other =
      filter-none (IsOf number) (lane_turns lane done)
      (All-weaker (λ (turn : Turn script). IsOf lane.number turn ≡ true) (λ (turn : Turn script). IsOf number turn ≡ false)
      (λ turn is. ne_eqb turn.group.first.row.lane number (λ same. other (sym (eqb-true turn.group.first.row.lane lane.number is) ∙ same)))
      (lane_turns lane done) (lane-numbers lane done))

  lane-whole : (number : ℕ) (lane : Lane) (done : IsLaneDone script lane) → lane.number ≡ number → filter (IsOf number) (lane_turns lane done) ≡ lane_turns lane done
  lane-whole number lane done same =
      filter-all (IsOf number) (lane_turns lane done)
      (subst (λ (n : ℕ). All (λ (turn : Turn script). IsOf n turn ≡ true) (lane_turns lane done)) same (lane-numbers lane done))

  none-below : (number first count : ℕ) (lanes : List Lane) (done : All (IsLaneDone script) lanes) → number < first
      → map (λ (lane : Lane). lane.number) lanes ≡ range_with_len first count → filter (IsOf number) (all_turns lanes done) ≡ []
  none-below number first count [] done below numbers = refl
  none-below number first zero (lane ∷ lanes) done below numbers = absurd (cc)
  none-below number first (suc count) (lane ∷ lanes) done below numbers =
      let here : IsLaneDone script lane = All-head (IsLaneDone script) lane lanes done in
      let rest : All (IsLaneDone script) lanes = All-tail (IsLaneDone script) lane lanes done in
      let mine : lane.number ≡ first = head-same numbers in
      filter-append (IsOf number) (lane_turns lane here) (all_turns lanes rest)
      ∙ ap (λ (some : List (Turn script)). some ++ filter (IsOf number) (all_turns lanes rest))
      (lane-other number lane here (λ same. absurd (omega (arith, same, mine, below))))
      ∙ none-below number (first + 1) count lanes rest (omega (arith, below))
      (tail-same numbers)

  -- those of one lane rise, and are the items of its rows
  pub record IsPart (number : ℕ) (some : List (Turn script)) (there : Bool) : Type 0 where
    pub rises : Rises stamp_of some
    pub items : map item_in some ≡ cond there (items_of (rows_of_lane number script.rows)) []

  pub part : (number first count : ℕ) (lanes : List Lane) (done : All (IsLaneDone script) lanes)
      → map (λ (lane : Lane). lane.number) lanes ≡ range_with_len first count
      → IsPart number (filter (IsOf number) (all_turns lanes done)) (list_any (eqb number) (range_with_len first count))
  part number first zero [] done numbers = record { rises = tt; items = refl }
  part number first (suc count) (lane ∷ lanes) done numbers =
      let here : IsLaneDone script lane = All-head (IsLaneDone script) lane lanes done in
      let rest : All (IsLaneDone script) lanes = All-tail (IsLaneDone script) lane lanes done in
      let mine : lane.number ≡ first = head-same numbers in
      let later : map (λ (one : Lane). one.number) lanes ≡ range_with_len (first + 1) count = tail-same numbers in
      let split = filter-append (IsOf number) (lane_turns lane here) (all_turns lanes rest) in
      let there : Bool = list_any (eqb number) (range_with_len (first + 1) count) in
      ⊎_elim
      (λ (yes : eqb number first ≡ true).
      let same : number ≡ first = eqb-true number first yes in
      let none : filter (IsOf number) (all_turns lanes rest) ≡ [] = none-below number (first + 1) count lanes rest (omega (arith, same)) later in
      let is : filter (IsOf number) (lane_turns lane here ++ all_turns lanes rest) ≡ lane_turns lane here =
      split ∙ (λ i. lane-whole number lane here (mine ∙ sym same) i ++ none i) ∙ append-nil (lane_turns lane here) in
      record {
        rises = subst (Rises stamp_of) (sym is) (lane-rises lane here);
        items = ap (map item_in) is ∙ lane-items lane here ∙ ap (λ (n : ℕ). items_of (rows_of_lane n script.rows)) (mine ∙ sym same)
            ∙ sym (ap (λ (b : Bool). cond (b || there) (items_of (rows_of_lane number script.rows)) []) yes);
      })
      (λ (no : eqb number first ≡ false).
      let is : filter (IsOf number) (lane_turns lane here ++ all_turns lanes rest) ≡ filter (IsOf number) (all_turns lanes rest) =
      split ∙ ap (λ (some : List (Turn script)). some ++ filter (IsOf number) (all_turns lanes rest))
      (lane-other number lane here (λ same. eqb-false number first no (sym same ∙ mine))) in
      let one : IsPart number (filter (IsOf number) (all_turns lanes rest)) there = part number (first + 1) count lanes rest later in
      record {
        rises = subst (Rises stamp_of) (sym is) one.rises;
        items = ap (map item_in) is ∙ one.items ∙ sym (ap (λ (b : Bool). cond (b || there) (items_of (rows_of_lane number script.rows)) []) no);
      })
      (cases_Bool (eqb number first))
  part number first _ _ done numbers = absurd (cc)
