-- The order of the items' stamps keeps the order of each lane.
use Rattle.std.proofs.Common.{◌≡◌, ℕ, ◌<◌, Bool, true, false, eqb, List, [], ◌∷◌, map, sym, ap, ◌∙◌, subst, arith, ⊎_elim, All}
use Rattle.dex_world.proofs.Common.{All-cons, All-nil, All-weaker, PlainRow, cases_Bool, cond-false, cond-true, eqb-true, false_from_ne_true, filter, flat_map, items_of_lane, list_any, range_with_len, rows_of_lane}
use Rattle.dex_replay.proofs.Common.{PlainScript, lanes_of}
use Rattle.dex_serializable.proofs.Common.{AreMerged, Histories, filter-none, filter-of}
use Rattle.dex_world.specs.Items as item
use Rattle.dex_world.specs.Items.{items_of}
use Rattle.dex_serializable.proofs.Gathered.{one-within}
use Rattle.dex_serializable.proofs.Items.{stamp_in}
use Rattle.dex_serializable.proofs.Journals.{filter-sorted, ordered}
use Rattle.dex_serializable.proofs.Sorted.{picked-sorted, sorted, sorted-rising}
use Rattle.dex_serializable.proofs.Turns.{IsPart, Turn, all-flat, all_turns, item_in, items_in, part, stamp_of}

-- each row's lane is below the number of lanes
pub lanes-below : (rows : List PlainRow) → All (λ (row : PlainRow). row.lane < lanes_of rows) rows
lanes-below [] = All-nil (λ (row : PlainRow). row.lane < 1)
lanes-below (row ∷ rows) =
    All-cons (λ (one : PlainRow). one.lane < lanes_of (row ∷ rows)) row rows (omega arith)
    (All-weaker (λ (one : PlainRow). one.lane < lanes_of rows) (λ (one : PlainRow). one.lane < lanes_of (row ∷ rows)) (λ one below. omega (arith, below)) rows (lanes-below rows))

module _ (script : PlainScript) (all : Histories) (merged : AreMerged script all) where
  abbrev turns : List (Turn script)
  turns = all_turns script merged.facts.rows all.lanes merged.lanes

  -- by the stamps of their calls
  abbrev pub ordered_turns : List (Turn script)
  ordered_turns = sorted stamp_of turns

  abbrev pub order_of : List item.Item
  order_of = map item_in ordered_turns

  -- they are the same calls in the same order
  pub turns-flat : flat_map items_in ordered_turns ≡ ordered script all merged
  turns-flat =
      picked-sorted stamp_of stamp_in items_in (λ turn. turn.is.stamps) turns
      ∙ ap (sorted stamp_in) (all-flat script merged.facts.rows all.lanes merged.lanes)

  abbrev is_of : ℕ → Turn script → Bool
  is_of number turn = eqb turn.group.first.row.lane number

  pub lanes-kept : (number : ℕ) → items_of_lane number order_of ≡ items_of (rows_of_lane number script.rows)
  lanes-kept number =
      let there : Bool = list_any (eqb number) (range_with_len 0 script.lanes) in
      let own : IsPart script merged.facts.rows number (filter (is_of number) turns) there =
      part script merged.facts.rows number 0 script.lanes all.lanes merged.lanes merged.numbers in
      let below : All (λ (row : PlainRow). row.lane < script.lanes) script.rows =
      subst (λ (count : ℕ). All (λ (row : PlainRow). row.lane < count) script.rows) (sym merged.facts.rows.lanes) (lanes-below script.rows) in
      sym (filter-of item_in (λ (one : item.Item). eqb one.first.lane number) ordered_turns)
      ∙ ap (map item_in) (filter-sorted stamp_of (is_of number) turns ∙ sorted-rising stamp_of (filter (is_of number) turns) own.rises)
      ∙ own.items
      ∙ ⊎_elim
      (λ (within : there ≡ true). cond-true there (items_of (rows_of_lane number script.rows)) [] within)
      (λ (past : there ≡ false).
      cond-false there (items_of (rows_of_lane number script.rows)) [] past
      ∙ sym (ap items_of (filter-none (λ (row : PlainRow). eqb row.lane number) script.rows
      (All-weaker (λ (row : PlainRow). row.lane < script.lanes) (λ (row : PlainRow). eqb row.lane number ≡ false)
      (λ row low. false_from_ne_true (eqb row.lane number) (λ is.
      let same : row.lane ≡ number = eqb-true row.lane number is in
      let no : there ≡ true = one-within number script.lanes (omega (arith, low, same)) in
      absurd (cc)))
      script.rows below))))
      (cases_Bool there)
