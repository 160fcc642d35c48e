-- Scripts without swaps: each item is a row, so items act as rows one by one.
use Rattle.std.proofs.Common.{◌≡◌, ℕ, false, eqb, get_or, List, [], ◌∷◌, ◌++◌, map, refl, sym, ap, ◌∙◌, subst, arith}
use Rattle.dex_world.proofs.Common.{All-cons, All-head, All-map, All-nil, All-tail, All-weaker, PlainRow, World, act, alone, eq-eqb, flat_map, fold, fold_items, grouped-flat, members, rows_of_lane}
use Rattle.dex_replay.proofs.Common.{All, HasNoSwap, IsAllOrNone, IsLawful, IsOneOrder, IsReplayOf, Item, KeepsLanes, PlainOutcome, PlainScript, items_of, start_world, was_held, world_after}
use Rattle.dex_world.proofs.ItemLaws.{alone-acts}
use Rattle.dex_replay.specs.Replays.{IsLeftByRows, IsLeftIn}
use Rattle.dex_replay.specs.Runs.{IsOneOrderOfRows}
use Rattle.dex_replay.proofs.Groups.{each-two, each-two-filter, grouped-single, unfilter}
use Rattle.dex_replay.proofs.MappedLists.{All-unmap}
use Rattle.dex_replay.proofs.Numbers.{Rises}
use Rattle.dex_replay.proofs.Orders.{each-item, lane-rows}

pub rows-single : (rows : List PlainRow) → HasNoSwap rows → items_of rows ≡ map alone rows
rows-single rows single = grouped-single (λ (row : PlainRow). row.number) rows (each-two Rises rows single)

pub singles-act : (rows : List PlainRow) (world : World) → fold_items (map alone rows) world ≡ fold rows world
singles-act [] world = refl
singles-act (row ∷ rows) world = ap (fold_items (map alone rows)) (alone-acts row world) ∙ singles-act rows (act row world)

-- the items of a script without swaps act as its rows
pub script-acts : (script : PlainScript) → HasNoSwap script.rows → world_after script (items_of script.rows) ≡ fold script.rows (start_world script)
script-acts script single =
    ap (λ (items : List Item). world_after script items) (rows-single script.rows single) ∙ singles-act script.rows (start_world script)

lane-single : (script : PlainScript) → HasNoSwap script.rows → (lane : ℕ) → items_of (rows_of_lane lane script.rows) ≡ map alone (rows_of_lane lane script.rows)
lane-single script single lane =
    grouped-single (λ (row : PlainRow). row.number) (rows_of_lane lane script.rows)
    (each-two-filter Rises (λ (row : PlainRow). eqb row.lane lane) script.rows (each-two Rises script.rows single))

-- an item that is a row
abbrev IsSingle : Item → Type 0
IsSingle item = item ≡ alone item.first

order-singles : (script : PlainScript) → HasNoSwap script.rows → (order : List Item) → KeepsLanes script order → All IsSingle order
order-singles script single order lanes =
    each-item order (λ lane. IsSingle)
    (λ lane.
    subst (All IsSingle) (sym (lanes lane ∙ lane-single script single lane)) (All-map IsSingle alone (rows_of_lane lane script.rows) (λ k d within. refl)))

-- items that are rows are the rows of them
flat-singles : (order : List Item) → All IsSingle order → map alone (flat_map members order) ≡ order
flat-singles [] are = refl
flat-singles (item ∷ order) are =
    let own : item ≡ alone item.first = All-head IsSingle item order are in
    ap (λ (one : Item). map alone (members one ++ flat_map members order)) own
    ∙ ap (λ (rest : List Item). alone item.first ∷ rest) (flat-singles order (All-tail IsSingle item order are))
    ∙ ap (λ (one : Item). one ∷ order) (sym own)

-- ---- the outcomes

pub replay-by-rows : (script : PlainScript) (outcome : PlainOutcome) → HasNoSwap script.rows → IsReplayOf script outcome → IsLeftByRows script script.rows outcome
replay-by-rows script outcome single replay = subst (λ (world : World). IsLeftIn script world outcome) (script-acts script single) replay

pub order-by-rows : (script : PlainScript) (outcome : PlainOutcome) → HasNoSwap script.rows → IsOneOrder script outcome → IsOneOrderOfRows script outcome
order-by-rows script outcome single one =
    let are = order-singles script single one.order one.lanes in
    let rows : List PlainRow = flat_map members one.order in
    record {
      order = rows;
      lanes = λ lane.
          lane-rows one.order (All-weaker IsSingle (λ (item : Item). All (λ (row : PlainRow). row.lane ≡ item.first.lane) (members item))
          (λ item is. subst (λ (it : Item). All (λ (row : PlainRow). row.lane ≡ it.first.lane) (members it)) (sym is)
          (All-cons (λ (row : PlainRow). row.lane ≡ item.first.lane) item.first [] refl (All-nil _))) one.order are) lane
          ∙ ap (flat_map members) (one.lanes lane)
          ∙ grouped-flat (λ (row : PlainRow). row.number) (rows_of_lane lane script.rows);
      replay = subst (λ (world : World). IsLeftIn script world outcome)
          (ap (λ (items : List Item). world_after script items) (sym (flat-singles one.order are)) ∙ singles-act rows (start_world script)) one.replay;
    }

-- no row was held back
pub never-held : (script : PlainScript) (outcome : PlainOutcome) → HasNoSwap script.rows → IsLawful script outcome
    → All (λ (row : PlainRow). was_held outcome.markets row ≡ false) script.rows
never-held script outcome single lawful k d within =
    let Own : PlainRow → Type 0 = λ (row : PlainRow). was_held outcome.markets row ≡ false in
    let lane : ℕ = (get_or script.rows k d).lane in
    let rows : List PlainRow = rows_of_lane lane script.rows in
    let alone_so : All (λ (row : PlainRow). IsAllOrNone outcome.markets (alone row)) rows =
    All-unmap (IsAllOrNone outcome.markets) alone rows (subst (All (IsAllOrNone outcome.markets)) (lane-single script single lane) (lawful.items lane)) in
    unfilter Own (λ (row : PlainRow). eqb row.lane lane) script.rows
    (All-weaker (λ (row : PlainRow). IsAllOrNone outcome.markets (alone row)) Own
    (λ row is. is 0 row (omega arith) ∙ grind arith) rows alone_so) k d within (eq-eqb lane lane refl)
