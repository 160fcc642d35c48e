-- The calls of an item that is submitted are an item more of its lane.
use Rattle.std.proofs.Common.{sym, ◌≡◌, ℕ, ◌<◌, ◌≤◌, false, eqb, List, [], ◌∷◌, ◌++◌, length, map, take, ◌∙◌, arith}
use Rattle.dex_world.proofs.Common.{All-cons, All-head, All-nil, All-tail, All-weaker, Asked, PlainRow, asked_of, is_held, ne_eqb, rows_of_lane}
use Rattle.dex_turns.proofs.Common.{AreAllOrNone, IsAsOthers, IsLane, IsSight, MovesEach, PlainScript, Stamped, number_in}
use Rattle.std.specs.List.{All}
use Rattle.dex_history.specs.Journal.{Call}
use Rattle.dex_world.proofs.MappedLists.{All-across}
use Rattle.dex_journals.proofs.LaneGrowth.{IsItemMore}
use Rattle.dex_turns.specs.Turns.{IsTold}

-- one call that was not held back
pub alone-acts : (call : Stamped Call) → is_held call.item ≡ false → AreAllOrNone (record { first = call; others = [] })
alone-acts call own = All-cons (IsAsOthers (call ∷ [])) call [] (grind arith) (All-nil (IsAsOthers (call ∷ [])))

-- the rows before these have lower numbers, and so have their calls
pub item-more : (script : PlainScript) (lane last number : ℕ) (calls : List (Stamped Call)) → IsLane script lane calls → All (λ (c : Stamped Call). c.stamp ≤ last) calls
    → All (λ (one : PlainRow). one.number < number) (take (length calls) (rows_of_lane lane script.rows)) → (rows later : List PlainRow) (first : Stamped Call) (others : List (Stamped Call))
    → rows_of_lane lane script.rows ≡ take (length calls) (rows_of_lane lane script.rows) ++ (rows ++ later)
    → map (λ (c : Stamped Call). c.item.asked) (first ∷ others) ≡ map asked_of rows → All (λ (c : Stamped Call). number_in c ≡ number) (first ∷ others)
    → All (λ (c : Stamped Call). c.stamp ≡ first.stamp) others → All (IsTold script) (first ∷ others) → last < first.stamp → AreAllOrNone (record { first = first; others = others })
    → IsItemMore script lane calls rows first others
item-more script lane last number calls is below lower_rows rows later first others next asked numbers stamps told above all_or_none =
    let Numbered : Stamped Call → Type 0 = λ c. number_in c ≡ number in
    let Other : Stamped Call → Stamped Call → Type 0 = λ c made. eqb (number_in c) (number_in made) ≡ false in
    record {
      later = later;
      next = next;
      asked = asked;
      sees = All-weaker (IsTold script) (λ (c : Stamped Call). IsSight script c.item.seen) (λ c is. is.sees) (first ∷ others) told;
      moves = All-weaker (IsTold script) (λ (c : Stamped Call). MovesEach c.item) (λ c is. is.moves) (first ∷ others) told;
      one_number = All-weaker Numbered (λ (c : Stamped Call). number_in c ≡ number_in first) (λ c same. same ∙ sym (All-head Numbered first others numbers)) others
          (All-tail Numbered first others numbers);
      one_stamp = stamps;
      fresh = All-weaker (λ (c : Stamped Call). number_in c < number) (λ (c : Stamped Call). All (Other c) (first ∷ others))
          (λ c less. All-weaker Numbered (Other c) (λ made is. ne_eqb (number_in c) (number_in made) (λ same. omega (arith, less, same, is))) (first ∷ others) numbers) calls
          (All-across (λ (a : Asked). a.number < number) (λ (c : Stamped Call). c.item.asked) asked_of calls (take (length calls) (rows_of_lane lane script.rows)) is.asks lower_rows);
      below = All-weaker (λ (c : Stamped Call). c.stamp ≤ last) (λ (c : Stamped Call). c.stamp < first.stamp) (λ c less. omega (arith, less, above)) calls below;
      all_or_none = all_or_none;
    }
