use Rattle.std.proofs.Common.{false, List, get_or, set, sym, subst, arith}
use Rattle.dex_world.proofs.Common.{row_of, with_items_is}
use Rattle.dex_bank.proofs.Common.{AreCells, CellState, CellsState, MarketCellState, StandsAt, cells_inside}
use Rattle.std.specs.Vec.{with_items}
use Rattle.dex_act.specs.Steps.{CanStep, IsStepOn}
use Rattle.dex_bank.specs.Stepped.{HasStepped}
use Rattle.dex_bank.proofs.StepCells.{can-step, stepped}
use Rattle.dex_bank.proofs.stepping.stepped.Goals as goal
use Rattle.dex_bank.proofs.stepping.stepped.Goals.{After-step-done}

pub step-done-requires : goal.step-done-requires
step-done-requires c =
    let row = row_of c.args.row.now in
    let place = c.args.standing.now.market in
    let places = c.args.standing.now.wallets in
    let market : MarketCellState = c.index_mut.result.now in
    subst (λ (cell : MarketCellState). CanStep row places cell c.deref_mut.result.now) (sym c.index_mut.ensures.value)
    (subst (CanStep row places (get_or c.cells.inside.markets.items place market)) (sym c.deref_mut.ensures.value)
    (subst (λ (cs : CellsState). CanStep row places (get_or cs.markets place market) cs.wallets) (sym c.cells.view_is)
    (can-step row place places c.args.cells.now c.requires.places (subst AreCells c.cells.view_is c.cells.invariant) c.requires.row market)))

-- ---- the cells before and after it

abbrev before : After-step-done → CellsState
before c = cells_inside c.cells.inside

abbrev after : After-step-done → List CellState → CellsState
after c wallets = record (before c) { markets = set (before c).markets c.args.standing.now.market c.step-done.new.market; wallets = wallets }

-- the buffer of wallets holds them
abbrev left : After-step-done → CellsState
left c = after c (with_items c.cells.inside.wallets c.step-done.new.wallets).items

has-stepped : (c : After-step-done) → HasStepped (row_of c.args.row.now) c.step-done.result.reply (before c) (left c)
has-stepped c =
    let row = row_of c.args.row.now in
    let place = c.args.standing.now.market in
    let market : MarketCellState = c.index_mut.result.now in
    let terms = c.cells.inside.terms in
    let done : MarketCellState → List CellState → Type 0 = λ cell ws.
    IsStepOn terms row false c.step-done.result cell c.step-done.new.market ws c.step-done.new.wallets in
    let is : done (get_or (before c).markets place market) (before c).wallets =
    subst (λ (cell : MarketCellState). done cell (before c).wallets) c.index_mut.ensures.value (subst (done market) c.deref_mut.ensures.value c.step-done.ensures) in
    subst (λ (ws : List CellState). HasStepped row c.step-done.result.reply (before c) (after c ws))
    (sym (with_items_is c.cells.inside.wallets c.step-done.new.wallets (omega (arith, c.step-done.auto.wallets, c.deref_mut.ensures.len))))
    (stepped row false c.step-done.result.seen.value place (before c) is.seen
    (subst (λ (cs : CellsState). StandsAt cs row place c.args.standing.now.wallets) (sym c.cells.view_is) c.requires.places).market
    c.cells.invariant c.step-done.result.reply market c.step-done.new.market c.step-done.new.wallets is.did)

pub invariant_of-cells : goal.invariant_of-cells
invariant_of-cells c = (has-stepped (goal.at.invariant_of-cells c).After-step-done).cells

pub returns : goal.returns
returns c =
    let here = (goal.at.returns c).After-step-done in
    subst (λ (cs : CellsState). HasStepped (row_of c.args.row.now) c.step-done.result.reply cs (left here)) c.cells.view_is (has-stepped here)
