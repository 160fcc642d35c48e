-- A lane, and an item more of it.
use Rattle.std.proofs.Common.{◌≡◌, ℕ, suc, ◌<◌, ◌+◌, false, eqb, List, [], ◌∷◌, ◌++◌, length, map, take, get_or, refl, sym, ap, ◌∙◌, subst, arith, All}
use Rattle.dex_world.proofs.Common.{All-append, All-cons, All-head, All-nil, All-tail, All-weaker, AllPairs, Asked, Call, Group, PlainRow, asked_of, eq-eqb, false≢true, grouped, length-map, rows_of_lane}
use Rattle.dex_script_types.specs.PlainScript.{PlainScript}
use Rattle.dex_script_types.specs.Sight.{IsSight}
use Rattle.dex_stamps.specs.Stamped.{Stamped}
use Rattle.dex_journals.specs.Lanes.{AreAllOrNone, IsBefore, IsLane, MovesEach, number_in}
use Rattle.std.proofs.lemmas.List.{length-append, map-append, append_assoc, append-nil, take_at}
use Rattle.std.proofs.Math.Seq.{take-append-add}
use Rattle.std.proofs.lemmas.List.Quantifiers.{all_pairs_push}
use Rattle.dex_world.proofs.GroupLaws.{grouped-behind, grouped-one}

-- what holds of each two in two lists, and of each in the one and each in the other
pairs-behind : {X : Type 0} (R : X → X → Type 0) (xs ys : List X) → AllPairs R xs → AllPairs R ys → All (λ (x : X). All (R x) ys) xs → AllPairs R (xs ++ ys)
pairs-behind R xs [] own others cross = subst (AllPairs R) (sym (append-nil xs)) own
pairs-behind {X} R xs (y ∷ ys) own others cross =
    let Cross : X → Type 0 = λ (x : X). All (R x) (y ∷ ys) in
    let here : All (λ (x : X). R x y) xs = All-weaker Cross (λ (x : X). R x y) (λ x all. All-head (R x) y ys all) xs cross in
    let rest : All (λ (x : X). All (R x) ys) xs = All-weaker Cross (λ (x : X). All (R x) ys) (λ x all. All-tail (R x) y ys all) xs cross in
    let first : All (R y) ys = λ k d within. others 0 (suc k) d (omega arith) (omega (arith, within)) in
    subst (AllPairs R) (append_assoc xs (y ∷ []) ys)
    (pairs-behind R (xs ++ y ∷ []) ys (all_pairs_push R xs y own (λ k d within. here k d within))
    (λ i j d below within. others (suc i) (suc j) d (omega (arith, below)) (omega (arith, within)))
    (All-append (λ (x : X). All (R x) ys) xs (y ∷ []) rest (All-cons (λ (x : X). All (R x) ys) y [] first (All-nil (λ (x : X). All (R x) ys)))))

-- the calls of an item after those of a lane
pub record IsItemMore (script : PlainScript) (lane : ℕ) (calls : List (Stamped Call)) (rows : List PlainRow) (first : Stamped Call) (others : List (Stamped Call)) : Type 0 where
  pub later : List PlainRow
  pub next : rows_of_lane lane script.rows ≡ take (length calls) (rows_of_lane lane script.rows) ++ (rows ++ later)
  pub asked : map (λ (call : Stamped Call). call.item.asked) (first ∷ others) ≡ map asked_of rows
  pub sees : All (λ (call : Stamped Call). IsSight script call.item.seen) (first ∷ others)
  pub moves : All (λ (call : Stamped Call). MovesEach call.item) (first ∷ others)
  pub one_number : All (λ (call : Stamped Call). number_in call ≡ number_in first) others
  pub one_stamp : All (λ (call : Stamped Call). call.stamp ≡ first.stamp) others
  pub fresh : All (λ (call : Stamped Call). All (λ (made : Stamped Call). eqb (number_in call) (number_in made) ≡ false) (first ∷ others)) calls
  pub below : All (λ (call : Stamped Call). call.stamp < first.stamp) calls
  pub all_or_none : AreAllOrNone (record { first = first; others = others })

module _ (script : PlainScript) (lane : ℕ) (calls : List (Stamped Call)) (rows : List PlainRow) (first : Stamped Call) (others : List (Stamped Call))
    (is : IsLane script lane calls) (more : IsItemMore script lane calls rows first others) where
  abbrev made : List (Stamped Call)
  made = first ∷ others

  abbrev all : List PlainRow
  all = rows_of_lane lane script.rows

  abbrev done : List PlainRow
  done = take (length calls) all

  many : length made ≡ length rows
  many = sym (length-map made (λ (call : Stamped Call). call.item.asked)) ∙ ap length more.asked ∙ length-map rows asked_of

  long : length done ≡ length calls
  long = sym (length-map done asked_of) ∙ sym (ap length is.asks) ∙ length-map calls (λ (call : Stamped Call). call.item.asked)

  more-done : take (length (calls ++ made)) all ≡ done ++ rows
  more-done =
      ap (λ (n : ℕ). take n all) (length-append calls made ∙ ap (λ (n : ℕ). n + length made) (sym long) ∙ ap (λ (n : ℕ). length done + n) many)
      ∙ ap (take (length done + length rows)) more.next
      ∙ take-append-add done (rows ++ more.later) (length rows)
      ∙ ap (λ (some : List PlainRow). done ++ some) (take_at rows more.later (length rows) refl)

  stamp-of : (k : ℕ) (d : Stamped Call) → k < length made → (get_or made k d).stamp ≡ first.stamp
  stamp-of k d within =
      All-cons (λ (call : Stamped Call). call.stamp ≡ first.stamp) first others refl more.one_stamp k d within

  number-of : (k : ℕ) (d : Stamped Call) → k < length made → number_in (get_or made k d) ≡ number_in first
  number-of k d within =
      All-cons (λ (call : Stamped Call). number_in call ≡ number_in first) first others refl more.one_number k d within

  own-before : AllPairs IsBefore made
  own-before i j d below within =
      let here : i < length made = omega (arith, below, within) in
      record {
        together = λ same. stamp-of i d here ∙ sym (stamp-of j d within);
        later = λ apart.
            absurd (false≢true (sym apart ∙ eq-eqb (number_in (get_or made i d)) (number_in (get_or made j d)) (number-of i d here ∙ sym (number-of j d within))));
      }

  cross-before : All (λ (call : Stamped Call). All (IsBefore call) made) calls
  cross-before k d within i e inside =
      let apart : eqb (number_in (get_or calls k d)) (number_in (get_or made i e)) ≡ false = more.fresh k d within i e inside in
      record {
        together = λ same. absurd (false≢true (sym apart ∙ same));
        later = λ _. omega (arith, more.below k d within, stamp-of i e inside);
      }

  pub lane-more : IsLane script lane (calls ++ made)
  lane-more = record {
    asks =
        map-append (λ (call : Stamped Call). call.item.asked) calls made
        ∙ ap (λ (some : List Asked). some ++ map (λ (call : Stamped Call). call.item.asked) made) is.asks
        ∙ ap (λ (some : List Asked). map asked_of done ++ some) more.asked
        ∙ sym (map-append asked_of done rows)
        ∙ ap (map asked_of) (sym more-done);
    sees = All-append (λ (call : Stamped Call). IsSight script call.item.seen) calls made is.sees more.sees;
    moves = All-append (λ (call : Stamped Call). MovesEach call.item) calls made is.moves more.moves;
    rising = pairs-behind IsBefore calls made is.rising own-before cross-before;
    items =
        subst (All AreAllOrNone)
        (sym (grouped-behind number_in calls made more.fresh
        ∙ ap (λ (groups : List (Group (Stamped Call))). grouped number_in calls ++ groups) (grouped-one number_in first others more.one_number)))
        (All-append AreAllOrNone (grouped number_in calls) (record { first = first; others = others } ∷ []) is.items
        (All-cons AreAllOrNone (record { first = first; others = others }) [] more.all_or_none (All-nil AreAllOrNone)));
  }
