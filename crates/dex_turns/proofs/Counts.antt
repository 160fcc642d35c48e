-- How many calls a lane has made on a market and on a wallet, before one of its rows.
use Rattle.std.proofs.Common.{◌≡◌, ℕ, ◌+◌, ◌<◌, ◌==◌, Bool, true, false, cond, List, [], ◌∷◌, ◌++◌, length, map, take, refl, sym, ap, ◌∙◌, arith, ⊎_elim}
use Rattle.dex_world.proofs.Common.{Address, All-head, All-tail, Asked, Call, Movement, PlainRow, asked-once, asked_of, asked_wallets, cases_Bool, cond-false, cond-true, filter, filter-append, is_same, is_same-sym, length-map, list_any, names, rows_of_lane}
use Rattle.dex_turns.proofs.Common.{IsLane, MovesEach, PlainScript, Stamped, calls_on, entries_in, entries_on, entry_made, filter-swap, items_of-stamped, rows_of_market, rows_of_wallet, stamped}
use Rattle.std.specs.List.{All}
use Rattle.std.proofs.lemmas.List.{length-append, nil_from_length}
use Rattle.dex_history.specs.Journal.{front}
use Rattle.dex_history.proofs.AddressOrder.{times}
use Rattle.dex_world.proofs.MappedLists.{length-filter_map}
use Rattle.dex_world.proofs.OnceLaws.{times-any}

-- ---- filters

-- an element that passes, in the midst
some-left : {A : Type 0} (q : A → Bool) (front : List A) (x : A) (later : List A) → q x ≡ true → 0 < length (filter q (front ++ x ∷ later))
some-left q front x later passes =
    let here : filter q (x ∷ later) ≡ x ∷ filter q later = cond-true _ _ _ passes in
    omega (arith, ap length (filter-append q front (x ∷ later)), length-append (filter q front) (filter q (x ∷ later)), ap length here)

-- as many items with stamps pass as without
pub length-stamped : {A : Type 0} (p : A → Bool) (items : List A) (stamps : List ℕ) → length stamps ≡ length items
    → length (filter (λ (made : Stamped A). p made.item) (stamped items stamps)) ≡ length (filter p items)
length-stamped {A} p items stamps long =
    sym (length-filter_map p (λ (made : Stamped A). made.item) (stamped items stamps)) ∙ ap (λ (l : List A). length (filter p l)) (items_of-stamped items stamps long)

-- ---- the entries of one call

moved-times : (address : Address) (moves : List Movement)
    → length (filter (λ (move : Movement). is_same move.wallet address) moves) ≡ times address (map (λ (move : Movement). move.wallet) moves)
moved-times address [] = refl
moved-times address (move ∷ moves) =
    ⊎_elim
    (λ (same : is_same address move.wallet ≡ true).
    rw (is_same-sym move.wallet address ∙ same, same) (omega (arith, moved-times address moves)))
    (λ (apart : is_same address move.wallet ≡ false).
    rw (is_same-sym move.wallet address ∙ apart, apart) (omega (arith, moved-times address moves)))
    (cases_Bool (is_same address move.wallet))

entries-times : (address : Address) (call : Stamped Call) → MovesEach call.item → length (entries_in address call) ≡ times address (asked_wallets call.item.asked)
entries-times address call moves =
    length-map (filter (λ (move : Movement). is_same move.wallet address) (front call.item.entry.moves)) (entry_made call)
    ∙ moved-times address (front call.item.entry.moves)
    ∙ ap (times address) moves

abbrev asks : Address → Asked → Bool
asks address asked = list_any (is_same address) (asked_wallets asked)

pub entries-one : (address : Address) (call : Stamped Call) → MovesEach call.item
    → length (entries_in address call) ≡ cond (asks address call.item.asked) 1 0
entries-one address call moves = entries-times address call moves ∙ times-any address (asked_wallets call.item.asked) (asked-once call.item.asked)

-- none of a wallet that its row does not name
pub none-in : (row : PlainRow) (call : Stamped Call) → call.item.asked ≡ asked_of row → MovesEach call.item → (address : Address) → names row address ≡ false
    → entries_in address call ≡ []
none-in row call asked moves address not =
    nil_from_length (entries_in address call) (entries-one address call moves ∙ ap (λ (b : Bool). cond b 1 0) (ap (asks address) asked ∙ not))

-- and of several
length-entries : (address : Address) (calls : List (Stamped Call)) → All (λ (call : Stamped Call). MovesEach call.item) calls
    → length (entries_on address calls) ≡ length (filter (λ (call : Stamped Call). asks address call.item.asked) calls)
length-entries address [] moves = refl
length-entries address (call ∷ calls) moves =
    let Each : Stamped Call → Type 0 = λ c. MovesEach c.item in
    let rest : length (entries_on address calls) ≡ length (filter (λ (c : Stamped Call). asks address c.item.asked) calls) =
    length-entries address calls (All-tail Each call calls moves) in
    let one : length (entries_in address call) ≡ cond (asks address call.item.asked) 1 0 = entries-one address call (All-head Each call calls moves) in
    let both : length (entries_on address (call ∷ calls)) ≡ length (entries_in address call) + length (entries_on address calls) =
    length-append (entries_in address call) (entries_on address calls) in
    ⊎_elim
    (λ (some : asks address call.item.asked ≡ true).
    rw some (omega (arith, both, rest, one ∙ cond-true _ 1 0 some)))
    (λ (none : asks address call.item.asked ≡ false).
    rw none (omega (arith, both, rest, one ∙ cond-false _ 1 0 none)))
    (cases_Bool (asks address call.item.asked))

-- ---- before a row of the lane

-- as many calls pass a test of what they ask as the rows before it
calls-pass : (q : Asked → Bool) (calls : List (Stamped Call)) (rows : List PlainRow) → map (λ (call : Stamped Call). call.item.asked) calls ≡ map asked_of rows
    → length (filter (λ (call : Stamped Call). q call.item.asked) calls) ≡ length (filter (λ (row : PlainRow). q (asked_of row)) rows)
calls-pass q calls rows are =
    sym (length-filter_map q (λ (call : Stamped Call). call.item.asked) calls)
    ∙ ap (λ (asked : List Asked). length (filter q asked)) are
    ∙ length-filter_map q asked_of rows

-- a row that is still to come, after so many rows and some between
pub record IsAhead (rows : List PlainRow) (done : ℕ) (row : PlainRow) : Type 0 where
  pub between : List PlainRow
  pub later : List PlainRow
  pub is : rows ≡ take done rows ++ (between ++ row ∷ later)

module _ (script : PlainScript) (lane : ℕ) (row : PlainRow) (calls : List (Stamped Call)) (is : IsLane script lane calls)
    (ahead : IsAhead (rows_of_lane lane script.rows) (length calls) row) (address : Address) where
  abbrev done : List PlainRow
  done = take (length calls) (rows_of_lane lane script.rows)

  abbrev rest : List PlainRow
  rest = ahead.between ++ row ∷ ahead.later

  -- where it passes a test, the lane's rows that pass it are more than those of them that are done
  more : (q : PlainRow → Bool) (made : ℕ) → made ≡ length (filter q done) → q row ≡ true → made < length (filter (λ (r : PlainRow). r.lane == lane) (filter q script.rows))
  more q made count passes =
      let parts : length (filter (λ (r : PlainRow). r.lane == lane) (filter q script.rows)) ≡ length (filter q done) + length (filter q rest) =
      ap length (filter-swap (λ (r : PlainRow). r.lane == lane) q script.rows)
      ∙ ap (λ (l : List PlainRow). length (filter q l)) ahead.is
      ∙ ap length (filter-append q done rest)
      ∙ length-append (filter q done) (filter q rest) in
      omega (arith, count, parts, some-left q ahead.between row ahead.later passes)

  pub calls-left : is_same row.market address ≡ true → length (calls_on address calls) < length (rows_of_market lane address script.rows)
  calls-left = more (λ (r : PlainRow). is_same r.market address) _ (calls-pass (λ (asked : Asked). is_same asked.market address) calls done is.asks)

  pub entries-left : names row address ≡ true → length (entries_on address calls) < length (rows_of_wallet lane address script.rows)
  entries-left = more (λ (r : PlainRow). names r address) _ (length-entries address calls is.moves ∙ calls-pass (asks address) calls done is.asks)
