use Rattle.std.proofs.Common.{false, sym, subst, arith}
use Rattle.dex_types.specs.Rows.{row_of}
use Rattle.dex_cell.specs.CellState.{MarketCellState}
use Rattle.dex_act.specs.Steps.{CanStep, IsStepOn}
use Rattle.dex_journals.specs.Inside.{market_inside, numbers_in}
use Rattle.dex_journals.specs.Journals.{BankMarketState, MayStep}
use Rattle.dex_journals.proofs.MarketLaws.{can-step, has-more}
use Rattle.dex_journals.proofs.StampedLists.{numbers-more}
use Rattle.dex_journals.proofs.market.BankMarket.step.Goals as goal

pub step-done-requires : goal.step-done-requires
step-done-requires c =
    let row = row_of c.args.asking.now.row.now in
    let places = c.args.asking.now.places in
    let market = market_inside c.self.inside in
    let may = subst (λ (market : BankMarketState). MayStep row places c.args.stamp.now.number market c.args.wallets.now) (sym c.self.view_is) c.requires in
    subst (λ (cell : MarketCellState). CanStep row places cell c.args.wallets.now) (sym c.as_mut.ensures.value)
    (can-step row places c.args.stamp.now.number market c.args.wallets.now c.self.invariant may)

pub invariant_of-self : goal.invariant_of-self
invariant_of-self c =
    let row = row_of c.args.asking.now.row.now in
    let market = market_inside c.self.inside in
    let may = subst (λ (market : BankMarketState). MayStep row c.args.asking.now.places c.args.stamp.now.number market c.args.wallets.now) (sym c.self.view_is) c.requires in
    let step = subst (λ (cell : MarketCellState). IsStepOn c.args.terms.now row false c.step-done.result cell c.step-done.new.market c.args.wallets.now c.step-done.new.wallets)
    c.as_mut.ensures.value c.step-done.ensures in
    has-more market row false c.step-done.result.seen.value c.step-done.result.reply c.step-done.new.market c.args.wallets.now c.step-done.new.wallets c.args.stamp.now.number
    c.later-self-inside.result.number (numbers_in c.and-self-inside.result.items) c.self.invariant may.lane may.above step.did
    (numbers-more c.self.inside.stamps.items c.and-self-inside.result.items c.args.stamp.now c.and-self-inside.ensures)
    (omega (arith, c.later-self-inside.ensures))

pub returns-clause-kept : goal.returns-clause-kept
returns-clause-kept c = invariant_of-self c
