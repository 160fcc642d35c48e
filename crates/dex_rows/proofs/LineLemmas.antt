-- A row that stands in a text without quotes, cut at its commas byte by byte.
use Rattle.std.proofs.Common.{◌≡◌, ◌∙◌, ◌+◌, ◌-◌, ◌<◌, ◌≤◌, ◌++◌, ◌==◌, ◌||◌, ◌∷◌, [], ℕ, zero, suc, List, All, Bor, Bool, true, false, length, length-append, take, drop, get_or, arith, refl, sym, ap, inl, inr}
use Rattle.std.proofs.lemmas.List.{at_drop_more, drop_more, get_or-drop, get_or-map, get_or-take, length-map, length-take, take-append-le, take_all, take_more}
use Rattle.std.proofs.lemmas.List.Elements.{All-append, All-cons, All-nil}
use Rattle.std.proofs.lemmas.Bool.{cases_lt}
use Rattle.dex_rows.specs.Lines.{AreCut, IsCut, IsPassed, KeepsField, behind_ends, cells_of, ends_row, texts}
use Rattle.dex_rows.specs.declared.lines.Line.{Line}
use Rattle.dex_rows.proofs.SplitLemmas.{InPart, part_at, part_cut, part_end, part_more, part_start}

-- a line end at the front is passed over
pub ends_skip : (text : List ℕ) (at : ℕ) → at < length text → ends_row (get_or text at 0) ≡ true → behind_ends (drop at text) ≡ behind_ends (drop (at + 1) text)
unfolding behind_ends
ends_skip text at below is = at_drop_more behind_ends text at 0 below ∙ rw is refl

-- what begins with another byte stays
pub ends_stop : (text : List ℕ) (at : ℕ) → at < length text → ends_row (get_or text at 0) ≡ false → drop at text ≡ behind_ends (drop at text)
unfolding behind_ends
ends_stop text at below not = drop_more text at 0 below ∙ sym (at_drop_more behind_ends text at 0 below ∙ rw not refl)

abbrev pub is_comma : ℕ → Bool
is_comma byte = byte == 44

-- a text is read up to a place: no line end so far, and these are the fields up to a start
pub record InLine (text : List ℕ) (start at count : ℕ) (fields : List (Bor (List ℕ))) : Type 0 where
  pub done : List (List ℕ)
  pub part : InPart is_comma text start at done
  pub whole : All (λ byte. ends_row byte ≡ false) (take at text)
  pub counted : count ≡ length done
  pub few : count ≤ start
  pub kept : texts (take count fields) ≡ take 12 done

-- at the front
pub in_line : (text : List ℕ) (fields : List (Bor (List ℕ))) → InLine text 0 0 0 fields
in_line text fields = record { done = []; part = part_start is_comma text; whole = All-nil (λ byte. ends_row byte ≡ false); counted = refl; few = omega arith; kept = refl }

-- one more byte that is no line end
whole_more : (text : List ℕ) (at : ℕ) → at < length text → ends_row (get_or text at 0) ≡ false → All (λ byte. ends_row byte ≡ false) (take at text)
    → All (λ byte. ends_row byte ≡ false) (take (at + 1) text)
whole_more text at below not h =
    rw (take_more text at 0 below)
    (All-append (λ byte. ends_row byte ≡ false) (take at text) (get_or text at 0 ∷ []) h (All-cons (λ byte. ends_row byte ≡ false) (get_or text at 0) [] not (All-nil (λ byte. ends_row byte ≡ false))))

-- one more byte of a field
pub line_more : (text : List ℕ) (start at count : ℕ) (fields : List (Bor (List ℕ))) → at < length text → ends_row (get_or text at 0) ≡ false → is_comma (get_or text at 0) ≡ false
    → InLine text start at count fields → InLine text start (at + 1) count fields
line_more text start at count fields below not other h = record {
  done = h.done;
  part = part_more is_comma text start at h.done below other h.part;
  whole = whole_more text at below not h.whole;
  counted = h.counted;
  few = h.few;
  kept = h.kept;
}

-- some more bytes of a field
line_passed : (text : List ℕ) (start at more count : ℕ) (fields : List (Bor (List ℕ))) → IsPassed text at (at + more) → InLine text start at count fields
    → InLine text start (at + more) count fields
line_passed text start at zero count fields passed h = let e : at + 0 ≡ at = omega arith in rw e h
line_passed text start at (suc more) count fields passed h =
    let before : IsPassed text at (at + more) = record {
      order = omega arith;
      within = omega (arith, passed.within);
      comma = λ place low high. passed.comma place low (omega arith);
      ends = λ place low high. passed.ends place low (omega arith);
    } in
    let next = line_more text start (at + more) count fields (omega (arith, passed.within)) (passed.ends (at + more) (omega arith) (omega arith))
    (passed.comma (at + more) (omega arith) (omega arith)) (line_passed text start at more count fields before h) in
    let e : at + more + 1 ≡ at + suc more = omega arith in
    rw (sym e) next

-- bytes that are passed
pub line_far : (text : List ℕ) (start at to count : ℕ) (fields : List (Bor (List ℕ))) → IsPassed text at to → InLine text start at count fields → InLine text start to count fields
line_far text start at to count fields passed h =
    let e : at + (to - at) ≡ to = omega (arith, passed.order) in
    let far = line_passed text start at (to - at) count fields (rw e passed) h in
    rw e at far

neither : (comma return feed : Bool) → ¬ ((comma || return || feed) ≡ true) → (comma ≡ false) × ((return || feed) ≡ false)
neither false false false h = (refl, refl)
neither false false true h = absurd (h refl)
neither false true feed h = absurd (h refl)
neither true return feed h = absurd (h refl)

-- bytes none of which is a comma, a carriage return or a line feed
pub passed_none : (text rest : List ℕ) (start more : ℕ) → rest ≡ drop start text → start + more ≤ length text
    → ((k : ℕ) → 0 ≤ k → k < more → ¬ (((get_or rest k 0 == 44) || (get_or rest k 0 == 13) || (get_or rest k 0 == 10)) ≡ true)) → IsPassed text start (start + more)
passed_none text rest start more behind within none =
    let at : (place : ℕ) → start ≤ place → place < start + more → get_or rest (place - start) 0 ≡ get_or text place 0 =
    λ place low high. ap (λ (r : List ℕ). get_or r (place - start) 0) behind ∙ get_or-drop start text (place - start) 0 ∙ ap (λ n. get_or text n 0) (omega arith) in
    let none_at : (place : ℕ) → start ≤ place → place < start + more → (is_comma (get_or text place 0) ≡ false) × (ends_row (get_or text place 0) ≡ false) =
    λ place low high. rw (sym (at place low high)) (neither (get_or rest (place - start) 0 == 44) (get_or rest (place - start) 0 == 13) (get_or rest (place - start) 0 == 10)
    (none (place - start) (omega arith) (omega arith))) in
    record {
      order = omega arith;
      within = within;
      comma = λ place low high. (none_at place low high).0;
      ends = λ place low high. (none_at place low high).1;
    }

-- one more field is kept, or is after those that are
kept_more : (fields after : List (Bor (List ℕ))) (count : ℕ) (field : List ℕ) (done : List (List ℕ)) → length fields ≡ 12 → count ≡ length done
    → texts (take count fields) ≡ take 12 done → KeepsField fields count field after → texts (take (count + 1) after) ≡ take 12 (done ++ field ∷ [])
kept_more fields after count field done size counted before kept =
    elim (cases_lt count 12) [
      | inl low ↦
          kept.first low ∙ ap (λ front. front ++ field ∷ []) (before ∙ take_all 12 done (omega arith)) ∙ sym (take_all 12 (done ++ field ∷ []) (omega (arith, length-append done (field ∷ []))))
      | inr high ↦
          rw (kept.behind high) (ap texts (take_all (count + 1) fields (omega arith) ∙ sym (take_all count fields (omega arith))) ∙ before ∙ sym (take-append-le 12 done (field ∷ []) (omega arith)))
    ]

-- a comma
pub line_comma : (text : List ℕ) (start at count : ℕ) (fields after : List (Bor (List ℕ))) → length fields ≡ 12 → at < length text → ends_row (get_or text at 0) ≡ false
    → is_comma (get_or text at 0) ≡ true → KeepsField fields count (part_at text start at) after → InLine text start at count fields → InLine text (at + 1) (at + 1) (count + 1) after
line_comma text start at count fields after size below not comma kept h = record {
  done = h.done ++ part_at text start at ∷ [];
  part = part_cut is_comma text start at h.done below comma h.part;
  whole = whole_more text at below not h.whole;
  counted = omega (arith, h.counted, length-append h.done (part_at text start at ∷ []));
  few = omega (arith, h.few, h.part.order);
  kept = kept_more fields after count (part_at text start at) h.done size h.counted h.kept kept;
}

-- the end
pub line_end : (text : List ℕ) (start at count : ℕ) (fields after : List (Bor (List ℕ))) → length fields ≡ 12 → KeepsField fields count (part_at text start at) after
    → InLine text start at count fields → AreCut (take at text) (count + 1) after
line_end text start at count fields after size kept h =
    let cells : cells_of (take at text) ≡ h.done ++ part_at text start at ∷ [] = part_end is_comma text start at h.done h.part in
    record {
      count = omega (arith, h.counted, length-append h.done (part_at text start at ∷ []), ap length cells);
      kept = kept_more fields after count (part_at text start at) h.done size h.counted h.kept kept ∙ sym (ap (take 12) cells);
    }

-- a field that is kept
pub field_kept : (line : Line) (place : ℕ) (d : Bor (List ℕ)) → IsCut line → place < length (cells_of line.bytes.now) → place < 12
    → (get_or line.fields place d).now ≡ get_or (cells_of line.bytes.now) place []
field_kept line place d cut below few =
    let text : Bor (List ℕ) → List ℕ = λ field. field.now in
    let kept = take line.count line.fields in
    let size : length kept ≡ length (take 12 (cells_of line.bytes.now)) = sym (length-map kept text) ∙ ap length cut.kept in
    let there : place < length kept = omega (arith, size, length-take 12 (cells_of line.bytes.now)) in
    let counted : place < line.count = omega (arith, cut.count) in
    ap text (sym (get_or-take line.count line.fields place d counted)) ∙ sym (get_or-map text kept place d [] there)
    ∙ ap (λ fields. get_or fields place []) cut.kept ∙ get_or-take 12 (cells_of line.bytes.now) place [] few
