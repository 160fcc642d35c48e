-- The places at which the items of lanes begin, found row by row; and the items of a lane, one after the other.
use Rattle.std.proofs.Common.{◌≡◌, ℕ, ◌+◌, ◌<◌, ◌≤◌, ⊎_elim, Bool, cond, List, [], ◌∷◌, ◌++◌, Vec, Global, length, get_or, set, map, take, drop, refl, sym, ap, ◌∙◌, subst, arith, append_assoc, append-nil, All}
use Rattle.dex_world.proofs.Common.{PlainRow, Row, eq-eqb, ne_eqb, row_of, rows_of_lane, take_all}
use Rattle.dex_replay.proofs.Common.{AreRows, PlainScript}
use Rattle.dex_world.proofs.MappedLists.{same-get}
use Rattle.dex_run.proofs.Common.{Begins, IsAlone, IsDone, IsIndex, IsItemOf, IsRest, IsRestAt, IsSwapAt, SeatState, rows_before}
use Rattle.dex_run.proofs.LaneRows.{are-legs, rows_of_lane-append}
use Rattle.std.proofs.Math.ListN.{drop_of_length-le}
use Rattle.std.proofs.lemmas.Bool.{cases_eq}
use Rattle.std.proofs.lemmas.List.{map_more, drop_more, get_or-set_other, get_or-set_same, length-append, length-set}

-- ---- how many rows of a lane stand before a place

module _ (lane : ℕ) (rows : List Row) where
  before-more : (i : ℕ) (row : Row) → i < length rows → row ≡ get_or rows i row → rows_before lane rows (i + 1) ≡ rows_before lane rows i + length (rows_of_lane lane (row_of row ∷ []))
  before-more i row within at =
      let before : List PlainRow = map row_of (take i rows) in
      let one : map row_of (take (i + 1) rows) ≡ before ++ row_of row ∷ [] =
      map_more row_of rows i row within ∙ ap (λ (r : Row). before ++ row_of r ∷ []) (sym at) in
      ap (λ (l : List PlainRow). length (rows_of_lane lane l)) one
      ∙ ap length (rows_of_lane-append lane before (row_of row ∷ []))
      ∙ length-append (rows_of_lane lane before) (rows_of_lane lane (row_of row ∷ []))

  -- one more after a row of the lane
  before-own : (i : ℕ) (row : Row) → i < length rows → row ≡ get_or rows i row → row.lane ≡ lane → rows_before lane rows (i + 1) ≡ rows_before lane rows i + 1
  before-own i row within at own =
      before-more i row within at ∙ ap (λ (b : Bool). rows_before lane rows i + length (cond b (row_of row ∷ []) [])) (eq-eqb row.lane lane own)

  -- as many after a row of another
  before-other : (i : ℕ) (row : Row) → i < length rows → row ≡ get_or rows i row → (row.lane ≡ lane → ⊥) → rows_before lane rows (i + 1) ≡ rows_before lane rows i
  before-other i row within at other =
      before-more i row within at
      ∙ ap (λ (b : Bool). rows_before lane rows i + length (cond b (row_of row ∷ []) [])) (ne_eqb row.lane lane other)
      ∙ omega arith

-- ---- what was found so far

-- what was found of a lane's items in the rows before a place makes, with what is still to come there, all of them
abbrev pub IsFound : ℕ → List Row → ℕ → List ℕ → Type 0
IsFound lane rows place own = (later : List ℕ) → IsRest lane rows (rows_before lane rows place) later → IsRest lane rows 0 (own ++ later)

abbrev pub AreFound : List Row → ℕ → List (Vec ℕ Global) → Type 0
AreFound rows place by_lane = (lane : ℕ) (own : Vec ℕ Global) → lane < length by_lane → IsFound lane rows place (get_or by_lane lane own).items

pub found-none : (rows : List Row) (by_lane : List (Vec ℕ Global)) → All (λ (own : Vec ℕ Global). own.items ≡ []) by_lane → AreFound rows 0 by_lane
found-none rows by_lane empty = λ lane own within later rest.
    subst (λ (l : List ℕ). IsRest lane rows 0 (l ++ later)) (sym (empty lane own within)) rest

-- after the last row all are found
pub found-all : (rows : List Row) (place : ℕ) (by_lane : List (Vec ℕ Global)) → length rows ≤ place → AreFound rows place by_lane → IsIndex rows by_lane
found-all rows place by_lane over found = λ lane own within.
    subst (IsRest lane rows 0) (append-nil (get_or by_lane lane own).items)
    (found lane own within [] (ap (λ (l : List Row). length (rows_of_lane lane (map row_of l))) (take_all place rows over)))

module _ (rows : List Row) (place : ℕ) (row : Row) (within : place < length rows) (at : row ≡ get_or rows place row) (begins : Begins rows place)
    (by_lane : List (Vec ℕ Global)) (old new : Vec ℕ Global) (inside : row.lane < length by_lane) (old_at : old ≡ get_or by_lane row.lane old)
    (more : new.items ≡ old.items ++ place ∷ []) (found : AreFound rows place by_lane) where
  -- of the lane of an item one place more is found, of the others nothing
  found-more : (next : ℕ)
      → ((later : List ℕ) → IsRest row.lane rows (rows_before row.lane rows next) later
      → (IsAlone rows place → IsRest row.lane rows (rows_before row.lane rows place + 1) later) × (IsSwapAt rows place → IsRest row.lane rows (rows_before row.lane rows place + 2) later))
      → ((lane : ℕ) → (row.lane ≡ lane → ⊥) → rows_before lane rows next ≡ rows_before lane rows place)
      → AreFound rows next (set by_lane row.lane new)
  found-more next behind others = λ lane own within_set.
      let here : IsItemOf row.lane rows (rows_before row.lane rows place) place =
      record { within = within; own = λ d. ap (λ (r : Row). r.lane) (same-get rows place d row within ∙ sym at); so_far = refl; begins = begins } in
      let of_lane : IsFound row.lane rows place old.items = subst (λ (v : Vec ℕ Global). IsFound row.lane rows place v.items) (sym old_at) (found row.lane old inside) in
      let of_next : IsFound row.lane rows next (old.items ++ place ∷ []) = λ later rest.
      subst (IsRest row.lane rows 0) (sym (append_assoc old.items (place ∷ []) later)) (of_lane (place ∷ later) (here, behind later rest)) in
      ⊎_elim
      (λ (same : row.lane ≡ lane).
      subst (λ (n : ℕ). IsFound n rows next (get_or (set by_lane row.lane new) n own).items) same
      (subst (IsFound row.lane rows next) (sym (ap (λ (v : Vec ℕ Global). v.items) (get_or-set_same by_lane row.lane new own inside) ∙ more)) of_next))
      (λ (other : row.lane ≡ lane → ⊥).
      subst (λ (v : Vec ℕ Global). IsFound lane rows next v.items) (sym (get_or-set_other by_lane row.lane lane new own (λ same. other (sym same))))
      (λ later rest. found lane own (omega (arith, within_set, length-set by_lane row.lane new)) later (subst (λ (n : ℕ). IsRest lane rows n later) (others lane other) rest)))
      (cases_eq row.lane lane)

  -- a row alone
  pub found-alone : IsAlone rows place → AreFound rows (place + 1) (set by_lane row.lane new)
  found-alone alone =
      found-more (place + 1)
      (λ later rest. (
        (λ one. subst (λ (n : ℕ). IsRest row.lane rows n later) (before-own row.lane rows place row within at refl) rest),
        (λ swap. absurd (alone row (swap row).0 (swap row).1)),
      ))
      (λ lane other. before-other lane rows place row within at other)

  -- two legs, which are of one lane
  pub found-two : (script : PlainScript) → map row_of rows ≡ script.rows → AreRows script → IsSwapAt rows place → AreFound rows (place + 2) (set by_lane row.lane new)
  found-two script are is swap =
      let second : Row = get_or rows (place + 1) row in
      let inside_two : place + 1 < length rows = (swap row).0 in
      let next : second ≡ get_or rows (place + 1) second = same-get rows (place + 1) row second inside_two in
      let lanes : row.lane ≡ second.lane = (are-legs script rows are is place row second at next swap).lane in
      let two : place + 2 ≡ place + 1 + 1 = omega arith in
      found-more (place + 2)
      (λ later rest. (
        (λ alone. absurd (alone row (swap row).0 (swap row).1)),
        (λ both. subst (λ (n : ℕ). IsRest row.lane rows n later)
            (ap (rows_before row.lane rows) two
            ∙ before-own row.lane rows (place + 1) second inside_two next (sym lanes)
            ∙ ap (λ (n : ℕ). n + 1) (before-own row.lane rows place row within at refl)
            ∙ omega arith) rest),
      ))
      (λ lane other.
      ap (rows_before lane rows) two
      ∙ before-other lane rows (place + 1) second inside_two next (λ same. other (lanes ∙ same))
      ∙ before-other lane rows place row within at other)

-- ---- a lane's items, one after the other

-- all are still to come where no row has acted
pub rest-first : (rows : List Row) (by_lane : List (Vec ℕ Global)) (seat : SeatState) (lane : ℕ) (own : Vec ℕ Global) → IsIndex rows by_lane → seat.lane < length by_lane
    → seat.calls ≡ [] → lane ≡ seat.lane → own ≡ get_or by_lane lane own → IsRestAt rows seat own.items
rest-first rows by_lane seat lane own index within fresh same at =
    subst (IsRestAt rows seat) (sym (ap (λ (v : Vec ℕ Global). v.items) (at ∙ ap (λ (n : ℕ). get_or by_lane n own) same)))
    (subst (λ (n : ℕ). IsRest seat.lane rows n (get_or by_lane seat.lane own).items) (sym (ap length fresh)) (index seat.lane own within))

-- the next one
pub rest-next : (rows : List Row) (seat : SeatState) (own : List ℕ) (item place : ℕ) → item < length own → place ≡ get_or own item place → IsRestAt rows seat (drop item own)
    → IsRestAt rows seat (place ∷ drop (item + 1) own)
rest-next rows seat own item place within at rest =
    subst (IsRestAt rows seat) (drop_more own item place within ∙ ap (λ (p : ℕ). p ∷ drop (item + 1) own) (sym at)) rest

-- what is to come after it
pub rest-behind : (rows : List Row) (before after : SeatState) (later : List ℕ) (done : ℕ) → after.lane ≡ before.lane → length after.calls ≡ done → IsRest before.lane rows done later
    → IsRestAt rows after later
rest-behind rows before after later done lane calls rest =
    subst (λ (l : ℕ). IsRest l rows (length after.calls) later) (sym lane) (subst (λ (n : ℕ). IsRest before.lane rows n later) (sym calls) rest)

-- when none is to come all are done
pub rest-none : (rows : List Row) (seat : SeatState) (own : List ℕ) (item : ℕ) → length own ≤ item → map row_of rows ≡ seat.script.rows → IsRestAt rows seat (drop item own) → IsDone seat
rest-none rows seat own item over are rest =
    subst (IsRestAt rows seat) (drop_of_length-le own over) rest ∙ ap (λ (l : List PlainRow). length (rows_of_lane seat.lane l)) are
