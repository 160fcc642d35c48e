-- The calls of all lanes, each with its row.
use Rattle.std.proofs.Common.{◌≡◌, ℕ, ◌≤◌, eqb, List, [], ◌∷◌, ◌++◌, length, map, refl, ap, ◌∙◌, arith, All}
use Rattle.dex_world.proofs.Common.{All-filter, All-head, All-tail, AllZip, Asked, Call, PlainRow, asked_of, flat_map, rows_of_lane, take_all}
use Rattle.dex_replay.proofs.Common.{IsRowOf, IsSight, PlainScript}
use Rattle.dex_serializable.proofs.Common.{IsLaneDone, Lane, Stamped, head-same, tail-same}
use Rattle.std.proofs.lemmas.List.{map-append}

-- a row of the script asked for a call, which saw what a row of it may see
pub record IsAsked (script : PlainScript) (call : Stamped Call) (row : PlainRow) : Type 0 where
  pub asks : call.item.asked ≡ asked_of row
  pub sight : IsSight script call.item.seen
  pub fits : IsRowOf script.start row

-- a call, and the row that asked for it
pub record Item (script : PlainScript) : Type 0 where
  pub row : PlainRow
  pub call : Stamped Call
  pub is : IsAsked script call row

abbrev pub row_in : {script : PlainScript} → Item script → PlainRow
row_in item = item.row

abbrev pub call_in : {script : PlainScript} → Item script → Stamped Call
call_in item = item.call

abbrev pub stamp_in : {script : PlainScript} → Item script → ℕ
stamp_in item = item.call.stamp

abbrev pub asked_in : Stamped Call → Asked
asked_in call = call.item.asked

-- ---- calls beside rows

module _ (script : PlainScript) where
  abbrev Sees : Stamped Call → Type 0
  Sees call = IsSight script call.item.seen

  each-asked : (calls : List (Stamped Call)) (rows : List PlainRow) → map asked_in calls ≡ map asked_of rows → All Sees calls → All (IsRowOf script.start) rows
      → AllZip (IsAsked script) calls rows
  each-asked [] [] same sees fit = tt
  each-asked (call ∷ calls) (row ∷ rows) same sees fit = (
    record {
      asks = head-same same;
      sight = All-head Sees call calls sees;
      fits = All-head (IsRowOf script.start) row rows fit;
    },
    each-asked calls rows (tail-same same) (All-tail Sees call calls sees)
        (All-tail (IsRowOf script.start) row rows fit),
  )
  each-asked _ _ same sees fit = absurd (cc)

  abbrev zipped : (calls : List (Stamped Call)) (rows : List PlainRow) → AllZip (IsAsked script) calls rows → List (Item script)
  zipped [] rows each = []
  zipped (call ∷ calls) [] each = []
  zipped (call ∷ calls) (row ∷ rows) each = record { row = row; call = call; is = each.0 } ∷ zipped calls rows each.1

  zipped-calls : (calls : List (Stamped Call)) (rows : List PlainRow) (each : AllZip (IsAsked script) calls rows) → map call_in (zipped calls rows each) ≡ calls
  zipped-calls [] rows each = refl
  zipped-calls (call ∷ calls) [] each = absurd each
  zipped-calls (call ∷ calls) (row ∷ rows) each = ap (λ (some : List (Stamped Call)). call ∷ some) (zipped-calls calls rows each.1)

  zipped-rows : (calls : List (Stamped Call)) (rows : List PlainRow) (each : AllZip (IsAsked script) calls rows) → map row_in (zipped calls rows each) ≡ rows
  zipped-rows [] [] each = refl
  zipped-rows (call ∷ calls) (row ∷ rows) each = ap (λ (some : List PlainRow). row ∷ some) (zipped-rows calls rows each.1)
  zipped-rows _ _ each = absurd each

-- ---- the lanes of a script

module _ (script : PlainScript) (fit : All (IsRowOf script.start) script.rows) where
  abbrev rows_in : Lane → List PlainRow
  rows_in lane = rows_of_lane lane.number script.rows

  pub lane-asked : (lane : Lane) → IsLaneDone script lane → AllZip (IsAsked script) lane.calls (rows_in lane)
  lane-asked lane done =
      let few : length (rows_in lane) ≤ length lane.calls = omega (arith, done.done) in
      each-asked script lane.calls (rows_in lane) (done.calls.asks ∙ ap (map asked_of) (take_all (length lane.calls) (rows_in lane) few)) done.calls.sees
      (All-filter (λ (row : PlainRow). eqb row.lane lane.number) (IsRowOf script.start) script.rows fit)

  abbrev pub lane_items : (lane : Lane) → IsLaneDone script lane → List (Item script)
  lane_items lane done = zipped script lane.calls (rows_in lane) (lane-asked lane done)

  abbrev pub all_items : (lanes : List Lane) → All (IsLaneDone script) lanes → List (Item script)
  all_items [] done = []
  all_items (lane ∷ lanes) done =
      lane_items lane (All-head (IsLaneDone script) lane lanes done) ++ all_items lanes (All-tail (IsLaneDone script) lane lanes done)

  pub lane-rows : (lane : Lane) (done : IsLaneDone script lane) → map row_in (lane_items lane done) ≡ rows_in lane
  lane-rows lane done = zipped-rows script lane.calls (rows_in lane) (lane-asked lane done)

  pub lane-calls : (lane : Lane) (done : IsLaneDone script lane) → map call_in (lane_items lane done) ≡ lane.calls
  lane-calls lane done = zipped-calls script lane.calls (rows_in lane) (lane-asked lane done)

  pub calls-all : (lanes : List Lane) (done : All (IsLaneDone script) lanes)
      → map call_in (all_items lanes done) ≡ flat_map (λ (lane : Lane). lane.calls) lanes
  calls-all [] done = refl
  calls-all (lane ∷ lanes) done =
      let here : IsLaneDone script lane = All-head (IsLaneDone script) lane lanes done in
      let rest : All (IsLaneDone script) lanes = All-tail (IsLaneDone script) lane lanes done in
      map-append call_in (lane_items lane here) (all_items lanes rest)
      ∙ (λ i. lane-calls lane here i ++ calls-all lanes rest i)
