use Rattle.std.proofs.Common.{List, get_or, sym, subst, arith}
use Rattle.dex_world.proofs.Common.{row_of, with_items_is}
use Rattle.dex_bank.proofs.Common.{CellState, CellsState, MarketCellState, cells_inside}
use Rattle.std.specs.Vec.{with_items}
use Rattle.dex_act.specs.Steps.{CanStepBoth}
use Rattle.dex_bank.specs.Stepped.{HaveBothStepped}
use Rattle.dex_bank.specs.Stepping.{AreStepsAt}
use Rattle.dex_bank.proofs.StepBoth.{apart, are-ready, both-acted, can-both, legs_of}
use Rattle.dex_bank.proofs.stepping.stepped_both.Goals as goal
use Rattle.dex_bank.proofs.stepping.stepped_both.Goals.{After-steps_at-one}

pub steps_at-one-requires-clause-apart : goal.steps_at-one-requires-clause-apart
steps_at-one-requires-clause-apart c =
    apart c.cells.inside
    (are-ready c.args.first c.args.second c.args.first_standing.now c.args.second_standing.now c.cells.view_is c.cells.invariant c.requires.rows c.requires.first c.requires.second)

pub steps_at-one-requires-clause-can : goal.steps_at-one-requires-clause-can
steps_at-one-requires-clause-can c = λ default.
    let inside = c.cells.inside in
    let one = c.args.first_standing.now in
    let two = c.args.second_standing.now in
    let can = λ (ms : List MarketCellState). CanStepBoth inside.terms (legs_of c.args.first one c.args.second two) (get_or ms one.market default) (get_or ms two.market default) in
    let ready = are-ready c.args.first c.args.second one two c.cells.view_is c.cells.invariant c.requires.rows c.requires.first c.requires.second in
    subst (λ (ms : List MarketCellState). can ms c.deref_mut-2.result.now) (sym c.deref_mut.ensures.value)
    (subst (can inside.markets.items) (sym c.deref_mut-2.ensures.value) (can-both inside ready default))

-- what is left of all cells, in the buffers that hold them
abbrev left : After-steps_at-one → CellsState
left c = record (cells_inside c.cells.inside) {
  markets = (with_items c.cells.inside.markets c.steps_at-one.new.markets).items;
  wallets = (with_items c.cells.inside.wallets c.steps_at-one.new.wallets).items;
}

acted : (c : After-steps_at-one) → HaveBothStepped (row_of c.args.first.now) (row_of c.args.second.now) (c.steps_at-one.result.0.reply, c.steps_at-one.result.1.reply)
    (cells_inside c.cells.inside) (left c)
acted c =
    let inside = c.cells.inside in
    let one = c.args.first_standing.now in
    let two = c.args.second_standing.now in
    let ready = are-ready c.args.first c.args.second one two c.cells.view_is c.cells.invariant c.requires.rows c.requires.first c.requires.second in
    let before : CellsState = cells_inside inside in
    let both = λ (ms : List MarketCellState) (ws : List CellState).
    HaveBothStepped (row_of c.args.first.now) (row_of c.args.second.now) (c.steps_at-one.result.0.reply, c.steps_at-one.result.1.reply) before
    (record before { markets = ms; wallets = ws }) in
    let steps = λ (ms : List MarketCellState) (ws : List CellState).
    AreStepsAt inside.terms (legs_of c.args.first one c.args.second two) c.steps_at-one.result one.market two.market ms c.steps_at-one.new.markets ws c.steps_at-one.new.wallets in
    subst (λ (ms : List MarketCellState). both ms (left c).wallets)
    (sym (with_items_is inside.markets c.steps_at-one.new.markets (omega (arith, c.steps_at-one.auto.markets, c.deref_mut.ensures.len))))
    (subst (both c.steps_at-one.new.markets)
    (sym (with_items_is inside.wallets c.steps_at-one.new.wallets (omega (arith, c.steps_at-one.auto.wallets, c.deref_mut-2.ensures.len))))
    (both-acted inside ready
    (subst (λ (ms : List MarketCellState). steps ms inside.wallets.items) c.deref_mut.ensures.value
    (subst (steps c.deref_mut.result.now) c.deref_mut-2.ensures.value c.steps_at-one.ensures))))

pub invariant_of-cells : goal.invariant_of-cells
invariant_of-cells c = (acted (goal.at.invariant_of-cells c).After-steps_at-one).cells

pub returns : goal.returns
returns c =
    let here = (goal.at.returns c).After-steps_at-one in
    subst
    (λ (cs : CellsState). HaveBothStepped (row_of c.args.first.now) (row_of c.args.second.now) (c.steps_at-one.result.0.reply, c.steps_at-one.result.1.reply) cs (left here))
    c.cells.view_is (acted here)
