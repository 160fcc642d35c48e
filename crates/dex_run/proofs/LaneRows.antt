-- The items of a lane, one after the other.
use Rattle.std.proofs.Common.{◌≡◌, ℕ, ◌+◌, ◌<◌, ◌≤◌, ⊎_elim, nat_eq, drop, length-drop, Bool, cond, List, [], ◌∷◌, ◌++◌, length, get_or, map, take, sym, ap, ◌∙◌, subst, arith, All}
use Rattle.dex_world.proofs.Common.{All-filter, All-map, get_or-map, length-map, PlainRow, Row, eq-eqb, filter-append, row_of, rows_of_lane, take_at, AllZip-long}
use Rattle.dex_replay.proofs.Common.{AreLegs, AreRows, PlainScript}
use Rattle.dex_world.proofs.MappedLists.{item-at, item_at, same-get}
use Rattle.dex_run.proofs.Common.{AreNext, AreRowsOf, BankState, Begins, IsNext, SeatState}
use Rattle.dex_world.specs.declared.places.RowPlaces.{RowPlaces}
use Rattle.dex_script_types.specs.Places.{AreBeside, IsBeside, IsPlaced}
use Rattle.dex_script_types.proofs.PlacedLaws.{placed-long, row-at}
use Rattle.dex_serializable.proofs.Orders.{lanes-below}
use Rattle.std.proofs.lemmas.Bool.{cases_lt}
use Rattle.std.proofs.lemmas.List.{drop_more, get_or-drop, take-append-drop, get_or-take, length-take-le, map-append}

pub rows_of_lane-append : (lane : ℕ) (xs ys : List PlainRow) → rows_of_lane lane (xs ++ ys) ≡ rows_of_lane lane xs ++ rows_of_lane lane ys
rows_of_lane-append lane xs ys = filter-append (λ (row : PlainRow). nat_eq row.lane lane) xs ys

-- ---- where items begin

module _ (script : PlainScript) (rows : List Row) (are : map row_of rows ≡ script.rows) (is : AreRows script) where
  long : length script.rows ≡ length rows
  long = ap (λ (l : List PlainRow). length l) (sym are) ∙ length-map rows row_of

  number-at : (i : ℕ) (d : Row) → i < length rows → (get_or script.rows i (row_of d)).number ≡ (get_or rows i d).number
  number-at i d within =
      ap (λ (l : List PlainRow). (get_or l i (row_of d)).number) (sym are) ∙ ap (λ (r : PlainRow). r.number) (get_or-map row_of rows i d (row_of d) within)

  never-falls : (i j : ℕ) (d : Row) → i < j → j < length rows → (get_or rows i d).number ≤ (get_or rows j d).number
  never-falls i j d less within =
      omega (arith, is.rising i j (row_of d) less (omega (arith, within, long)), number-at i d (omega (arith, less, within)), number-at j d within)

  -- a row's lane is one of the script's
  pub lane-within : (i : ℕ) (row : Row) → i < length rows → row ≡ get_or rows i row → row.lane < script.lanes
  lane-within i row within at =
      let here : (get_or script.rows i (row_of row)).lane ≡ row.lane =
      ap (λ (l : List PlainRow). (get_or l i (row_of row)).lane) (sym are)
      ∙ ap (λ (r : PlainRow). r.lane) (get_or-map row_of rows i row (row_of row) within) ∙ ap (λ (r : Row). r.lane) (sym at) in
      omega (arith, here, lanes-below script.rows i (row_of row) (omega (arith, within, long)), is.lanes)

  pub begins-first : Begins rows 0
  begins-first = λ k d less within. absurd (omega (arith, less))

  -- after a row alone
  pub begins-alone : (place : ℕ) → Begins rows place → ((d : Row) → place + 1 < length rows → (get_or rows place d).number ≡ (get_or rows (place + 1) d).number → ⊥)
      → Begins rows (place + 1)
  begins-alone place begins other = λ k d less within.
      let le : (get_or rows place d).number ≤ (get_or rows (place + 1) d).number = never-falls place (place + 1) d (omega arith) within in
      let not : (get_or rows place d).number ≡ (get_or rows (place + 1) d).number → ⊥ = other d within in
      ⊎_elim
      (λ (before : k < place). let lower = begins k d before (omega (arith, within)) in omega (arith, lower, le))
      (λ (here : place ≤ k).
      let at : (get_or rows k d).number ≡ (get_or rows place d).number = ap (λ (n : ℕ). (get_or rows n d).number) (omega (arith, less, here)) in
      omega (arith, at, le, not))
      (cases_lt k place)

  -- after two legs
  pub begins-two : (place : ℕ) → Begins rows place → ((d : Row) → (place + 1 < length rows) × ((get_or rows place d).number ≡ (get_or rows (place + 1) d).number))
      → Begins rows (place + 2)
  begins-two place begins swap = λ k d less within.
      let above : (get_or script.rows place (row_of d)).number < (get_or script.rows (place + 2) (row_of d)).number = is.two place (row_of d) (omega (arith, within, long)) in
      let higher : (get_or rows place d).number < (get_or rows (place + 2) d).number =
      omega (arith, above, number-at place d (omega (arith, within)), number-at (place + 2) d within) in
      let same : (get_or rows place d).number ≡ (get_or rows (place + 1) d).number = (swap d).1 in
      ⊎_elim
      (λ (before : k < place). let lower = begins k d before (omega (arith, within)) in omega (arith, lower, higher))
      (λ (here : place ≤ k).
      ⊎_elim
      (λ (first : k < place + 1).
      let at : (get_or rows k d).number ≡ (get_or rows place d).number = ap (λ (n : ℕ). (get_or rows n d).number) (omega (arith, first, here)) in
      omega (arith, at, higher))
      (λ (second : place + 1 ≤ k).
      let at : (get_or rows k d).number ≡ (get_or rows (place + 1) d).number = ap (λ (n : ℕ). (get_or rows n d).number) (omega (arith, less, second)) in
      omega (arith, at, same, higher))
      (cases_lt k (place + 1)))
      (cases_lt k place)

  -- after a row alone all numbers are higher
  pub higher-behind : (i : ℕ) (row : Row) → i < length rows → row ≡ get_or rows i row → Begins rows (i + 1)
      → All (λ (other : PlainRow). row.number < other.number) (map row_of (drop (i + 1) rows))
  higher-behind i row within at begins =
      All-map (λ (other : PlainRow). row.number < other.number) row_of (drop (i + 1) rows)
      (λ k d inside.
      let more : i + 1 + k < length rows = omega (arith, inside, length-drop (i + 1) rows) in
      let higher : (get_or rows i d).number < (get_or rows (i + 1) d).number = begins i d (omega arith) (omega (arith, more)) in
      let never : (get_or rows (i + 1) d).number ≤ (get_or rows (i + 1 + k) d).number =
      ⊎_elim (λ (some : 0 < k). never-falls (i + 1) (i + 1 + k) d (omega (arith, some)) more)
      (λ (none : k ≤ 0).
      let same : (get_or rows (i + 1 + k) d).number ≡ (get_or rows (i + 1) d).number = ap (λ (n : ℕ). (get_or rows n d).number) (omega (arith, none)) in
      omega (arith, same)) (cases_lt 0 k) in
      let here : (get_or (drop (i + 1) rows) k d).number ≡ (get_or rows (i + 1 + k) d).number = ap (λ (r : Row). r.number) (get_or-drop (i + 1) rows k d) in
      omega (arith, higher, never, here, ap (λ (r : Row). r.number) (at ∙ same-get rows i row d within)))

  -- the two are legs of one swap
  pub are-legs : (place : ℕ) (first second : Row) → first ≡ get_or rows place first → second ≡ get_or rows (place + 1) second
      → ((d : Row) → (place + 1 < length rows) × ((get_or rows place d).number ≡ (get_or rows (place + 1) d).number)) → AreLegs (row_of first) (row_of second)
  are-legs place first second at next swap =
      let more : place + 1 < length rows = (swap first).0 in
      let inside : place + 1 < length script.rows = omega (arith, more, long) in
      let row-at : (i : ℕ) (d : Row) → i < length rows → get_or script.rows i (row_of d) ≡ row_of (get_or rows i d) = λ i d within.
      ap (λ (l : List PlainRow). get_or l i (row_of d)) (sym are) ∙ get_or-map row_of rows i d (row_of d) within in
      let one : get_or script.rows place (row_of first) ≡ row_of first = row-at place first (omega (arith, more)) ∙ ap row_of (sym at) in
      let two : get_or script.rows (place + 1) (row_of first) ≡ row_of second =
      row-at (place + 1) first more ∙ ap row_of (same-get rows (place + 1) first second more ∙ sym next) in
      subst (λ (r : PlainRow). AreLegs r (row_of second)) one
      (subst (AreLegs (get_or script.rows place (row_of first))) two
      (is.legs place (place + 1) (row_of first) (omega arith) inside
      (number-at place first (omega (arith, more)) ∙ (swap first).1 ∙ sym (number-at (place + 1) first more))))

-- two legs have one number
pub one-number : (rows : List Row) (place : ℕ) (first second : Row) → first ≡ get_or rows place first → second ≡ get_or rows (place + 1) second
    → ((d : Row) → (place + 1 < length rows) × ((get_or rows place d).number ≡ (get_or rows (place + 1) d).number)) → second.number ≡ first.number
one-number rows place first second at next swap =
    let more : place + 1 < length rows = (swap first).0 in
    ap (λ (r : Row). r.number) (next ∙ same-get rows (place + 1) second first more) ∙ sym (swap first).1 ∙ ap (λ (r : Row). r.number) (sym at)

-- the rows before it have lower numbers
pub lower-before : (rows : List Row) (i : ℕ) (row : Row) → i < length rows → row ≡ get_or rows i row → Begins rows i
    → All (λ (one : PlainRow). one.number < row.number) (map row_of (take i rows))
lower-before rows i row within at begins =
    All-map (λ (one : PlainRow). one.number < row.number) row_of (take i rows)
    (λ k d inside.
    let early : k < i = omega (arith, inside, length-take-le i rows (omega (arith, within))) in
    let lower : (get_or rows k row).number < (get_or rows i row).number = begins k row early within in
    let here : (get_or (take i rows) k d).number ≡ (get_or rows k row).number =
    ap (λ (r : Row). r.number) (get_or-take i rows k d early ∙ same-get rows k d row (omega (arith, early, within))) in
    omega (arith, here, lower, ap (λ (r : Row). r.number) at))

-- a row of the lane is the next one, where all before it are done
pub next-own : (rows : List Row) (i : ℕ) (row : Row) (seat : SeatState) → i < length rows → row ≡ get_or rows i row → map row_of rows ≡ seat.script.rows
    → length seat.calls ≡ length (rows_of_lane seat.lane (map row_of (take i rows)))
    → All (λ (one : PlainRow). one.number < row.number) (map row_of (take i rows))
    → All (λ (other : PlainRow). row.number < other.number) (map row_of (drop (i + 1) rows)) → row.lane ≡ seat.lane → IsNext (row_of row) seat
next-own rows i row seat within at are so_far lower higher own =
    let split : rows ≡ take i rows ++ row ∷ drop (i + 1) rows =
    sym (take-append-drop i rows)
    ∙ ap (λ (l : List Row). take i rows ++ l) (drop_more rows i row within ∙ ap (λ (r : Row). r ∷ drop (i + 1) rows) (sym at)) in
    let rest : List PlainRow = map row_of (drop (i + 1) rows) in
    let before : List PlainRow = rows_of_lane seat.lane (map row_of (take i rows)) in
    let later : List PlainRow = rows_of_lane seat.lane rest in
    let whole : rows_of_lane seat.lane seat.script.rows ≡ before ++ row_of row ∷ later =
    ap (rows_of_lane seat.lane) (sym are ∙ ap (map row_of) split ∙ map-append row_of (take i rows) (row ∷ drop (i + 1) rows))
    ∙ rows_of_lane-append seat.lane (map row_of (take i rows)) (row_of row ∷ rest)
    ∙ ap (λ (b : Bool). before ++ cond b (row_of row ∷ later) later) (eq-eqb row.lane seat.lane own) in
    let taken : take (length seat.calls) (rows_of_lane seat.lane seat.script.rows) ≡ before =
    ap (take (length seat.calls)) whole ∙ take_at before (row_of row ∷ later) (length seat.calls) (sym so_far) in
    record {
      later = later;
      is = whole ∙ ap (λ (l : List PlainRow). l ++ row_of row ∷ later) (sym taken);
      lower = subst (All (λ (one : PlainRow). one.number < row.number)) (sym taken)
          (All-filter (λ (one : PlainRow). nat_eq one.lane seat.lane) (λ (one : PlainRow). one.number < row.number) (map row_of (take i rows)) lower);
      alone = All-filter (λ (one : PlainRow). nat_eq one.lane seat.lane) (λ (other : PlainRow). row.number < other.number) rest higher;
    }

-- and two legs are the next ones
pub next-both : (rows : List Row) (i : ℕ) (first second : Row) (seat : SeatState) → i + 1 < length rows → first ≡ get_or rows i first → second ≡ get_or rows (i + 1) second
    → map row_of rows ≡ seat.script.rows → length seat.calls ≡ length (rows_of_lane seat.lane (map row_of (take i rows)))
    → All (λ (one : PlainRow). one.number < first.number) (map row_of (take i rows)) → second.number ≡ first.number → AreLegs (row_of first) (row_of second)
    → first.lane ≡ seat.lane → AreNext (row_of first) (row_of second) seat
next-both rows i first second seat within at at_second are so_far lower together legs own =
    let behind : List Row = drop (i + 1 + 1) rows in
    let next : drop (i + 1) rows ≡ second ∷ behind = drop_more rows (i + 1) second within ∙ ap (λ (r : Row). r ∷ behind) (sym at_second) in
    let split : rows ≡ take i rows ++ first ∷ second ∷ behind =
    sym (take-append-drop i rows) ∙ ap (λ (l : List Row). take i rows ++ l) (drop_more rows i first (omega (arith, within)) ∙ (λ k. sym at k ∷ next k)) in
    let rest : List PlainRow = map row_of behind in
    let before : List PlainRow = rows_of_lane seat.lane (map row_of (take i rows)) in
    let later : List PlainRow = rows_of_lane seat.lane rest in
    let whole : rows_of_lane seat.lane seat.script.rows ≡ before ++ row_of first ∷ row_of second ∷ later =
    ap (rows_of_lane seat.lane) (sym are ∙ ap (map row_of) split ∙ map-append row_of (take i rows) (first ∷ second ∷ behind))
    ∙ rows_of_lane-append seat.lane (map row_of (take i rows)) (row_of first ∷ row_of second ∷ rest)
    ∙ ap (λ (b : Bool). before ++ cond b (row_of first ∷ cond (nat_eq second.lane seat.lane) (row_of second ∷ later) later) (cond (nat_eq second.lane seat.lane) (row_of second ∷ later) later))
    (eq-eqb first.lane seat.lane own)
    ∙ ap (λ (b : Bool). before ++ row_of first ∷ cond b (row_of second ∷ later) later) (eq-eqb second.lane seat.lane (sym legs.lane ∙ own)) in
    let taken : take (length seat.calls) (rows_of_lane seat.lane seat.script.rows) ≡ before =
    ap (take (length seat.calls)) whole ∙ take_at before (row_of first ∷ row_of second ∷ later) (length seat.calls) (sym so_far) in
    record {
      later = later;
      are = whole ∙ ap (λ (l : List PlainRow). l ++ row_of first ∷ row_of second ∷ later) (sym taken);
      lower = subst (All (λ (one : PlainRow). one.number < first.number)) (sym taken)
          (All-filter (λ (one : PlainRow). nat_eq one.lane seat.lane) (λ (one : PlainRow). one.number < first.number) (map row_of (take i rows)) lower);
      together = together;
      legs = legs;
    }

-- ---- places

-- beside each row something stands
pub beside-long : (rows : List Row) (places : List RowPlaces) → AreBeside (map row_of rows) places → length places ≡ length rows
beside-long rows places are = AllZip-long IsBeside (map row_of rows) places are ∙ length-map rows row_of

-- the number beside a row is the row's
pub number-beside : (rows : List Row) (places : List RowPlaces) → AreBeside (map row_of rows) places → (i : ℕ) (row : Row) (at : RowPlaces) → i < length rows
    → (get_or places i at).number ≡ (get_or rows i row).number
number-beside rows places are i row at within = (row-at IsBeside rows places are i row at within).number

-- what is read where nothing stands
abbrev pub nothing : RowPlaces
nothing = record { number = 0; lane = 0; market = 0; wallets = record { places = []; coin = 0; pc = 0; discount = 0; referrer = 0 } }

-- the lane beside a row is the row's
pub lane-beside : (rows : List Row) (places : List RowPlaces) (place : ℕ) (within : place < length rows) → AreBeside (map row_of rows) places
    → (get_or places place nothing).lane ≡ (item_at rows place within).lane
lane-beside rows places place within are =
    (row-at IsBeside rows places are place (item_at rows place within) nothing within).lane ∙ ap (λ (row : Row). row.lane) (sym (item-at rows place within))

module _ (bank : BankState) (rows : List Row) (places : List RowPlaces) (are : AreRowsOf bank rows places) where
  pub places-long : length places ≡ length rows
  places-long = placed-long bank.script.start (map row_of rows) places are.placed ∙ length-map rows row_of

  -- a row has its places beside it
  pub row-placed : (i : ℕ) (row : Row) (default : RowPlaces) → i < length rows → row ≡ get_or rows i row → IsPlaced bank.script.start (row_of row) (get_or places i default)
  row-placed i row default within at =
      subst (λ (one : Row). IsPlaced bank.script.start (row_of one) (get_or places i default)) (sym at)
      (row-at (IsPlaced bank.script.start) rows places are.placed i row default within)
