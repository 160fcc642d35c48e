use Rattle.std.proofs.Common.{◌&&◌, not, sym, subst, arith}
use Rattle.dex_types.specs.Rows.{row_of}
use Rattle.dex_cell.specs.CellState.{MarketCellState}
use Rattle.dex_act.specs.Steps.{AreStepsOn, CanStepBoth}
use Rattle.dex_journals.specs.Inside.{market_inside, numbers_in}
use Rattle.dex_journals.specs.Journals.{BankMarketState, MayStepBoth}
use Rattle.dex_journals.proofs.MarketLaws.{can-step, has-more}
use Rattle.dex_journals.proofs.StampedLists.{numbers-more}
use Rattle.dex_journals.proofs.market.BankMarket.step_two.Goals as goal
use Rattle.dex_journals.proofs.market.BankMarket.step_two.Goals.{After-as_mut-2, After-step_two-dones}

-- the legs may act on the markets that the fields are
may : (c : After-as_mut-2) → MayStepBoth c.args.terms.now c.args.legs.now c.args.stamp.now.number (market_inside c.first.inside) (market_inside c.second.inside) c.args.wallets.now
may c =
    let both = λ (one two : BankMarketState). MayStepBoth c.args.terms.now c.args.legs.now c.args.stamp.now.number one two c.args.wallets.now in
    subst (λ (market : BankMarketState). both market (market_inside c.second.inside)) (sym c.first.view_is) (subst (both c.args.first.now) (sym c.second.view_is) c.requires)

pub step_two-dones-requires : goal.step_two-dones-requires
step_two-dones-requires c =
    let own = may (goal.at.step_two-dones-requires c).After-as_mut-2 in
    let legs = c.args.legs.now in
    let stamp = c.args.stamp.now.number in
    let cells = c.args.wallets.now in
    let both = λ (one two : MarketCellState). CanStepBoth c.args.terms.now legs one two cells in
    subst (λ (cell : MarketCellState). both cell c.as_mut-2.result.now) (sym c.as_mut.ensures.value)
    (subst (both (market_inside c.first.inside).cell) (sym c.as_mut-2.ensures.value)
    (record {
      first_can = can-step (row_of legs.first.row.now) legs.first.places stamp (market_inside c.first.inside) cells c.first.invariant own.first_may;
      second_can = can-step (row_of legs.second.row.now) legs.second.places stamp (market_inside c.second.inside) cells c.second.invariant own.second_may;
      share = own.share;
      first_take = own.first_take;
      second_take = own.second_take;
    }))

steps : (c : After-step_two-dones)
    → AreStepsOn c.args.terms.now c.args.legs.now c.step_two-dones.result (market_inside c.first.inside).cell c.step_two-dones.new.first (market_inside c.second.inside).cell
    c.step_two-dones.new.second c.args.wallets.now c.step_two-dones.new.wallets
steps c =
    let both = λ (one two : MarketCellState).
    AreStepsOn c.args.terms.now c.args.legs.now c.step_two-dones.result one c.step_two-dones.new.first two c.step_two-dones.new.second c.args.wallets.now c.step_two-dones.new.wallets in
    subst (λ (cell : MarketCellState). both cell (market_inside c.second.inside).cell) c.as_mut.ensures.value (subst (both c.as_mut.result.now) c.as_mut-2.ensures.value c.step_two-dones.ensures)

pub invariant_of-first : goal.invariant_of-first
invariant_of-first c =
    let both = steps (goal.at.invariant_of-first c).After-step_two-dones in
    let own = may (goal.at.invariant_of-first c).After-as_mut-2 in
    has-more (market_inside c.first.inside) (row_of c.args.legs.now.first.row.now) (both.two_refused && not both.one_refused) c.step_two-dones.result.0.seen.value
    c.step_two-dones.result.0.reply c.step_two-dones.new.first c.args.wallets.now both.between c.args.stamp.now.number c.later-first-inside.result.number
    (numbers_in c.and-first-inside.result.items) c.first.invariant own.first_may.lane own.first_may.above both.one.did
    (numbers-more c.first.inside.stamps.items c.and-first-inside.result.items c.args.stamp.now c.and-first-inside.ensures)
    (omega (arith, c.later-first-inside.ensures))

pub invariant_of-second : goal.invariant_of-second
invariant_of-second c =
    let both = steps (goal.at.invariant_of-second c).After-step_two-dones in
    let own = may (goal.at.invariant_of-second c).After-as_mut-2 in
    has-more (market_inside c.second.inside) (row_of c.args.legs.now.second.row.now) (both.one_refused && not both.two_refused) c.step_two-dones.result.1.seen.value
    c.step_two-dones.result.1.reply c.step_two-dones.new.second both.between c.step_two-dones.new.wallets c.args.stamp.now.number c.later-second-inside.result.number
    (numbers_in c.and-second-inside.result.items) c.second.invariant own.second_may.lane own.second_may.above both.two.did
    (numbers-more c.second.inside.stamps.items c.and-second-inside.result.items c.args.stamp.now c.and-second-inside.ensures)
    (omega (arith, c.later-second-inside.ensures))

pub returns-clause-kept : goal.returns-clause-kept
returns-clause-kept c = (invariant_of-first c, invariant_of-second c)
