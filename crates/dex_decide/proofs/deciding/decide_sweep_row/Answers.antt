use Rattle.std.proofs.Common.{ap, sym, ◌∙◌}
use Rattle.dex_types.specs.Why.{why_sweep}
use Rattle.dex_plan.specs.declared.plan.Plan.TheVariants as plans
use Rattle.dex_plan.specs.Given.{asked_by}
use Rattle.dex_accounts.specs.Decoded.{market_in}
use Rattle.dex_types.specs.declared.addresses.Address.{Address}
use Rattle.dex_types.specs.Reasons.{answered}
use Rattle.dex_market.specs.MarketAccount.{market_words}
use Rattle.dex_settle.specs.Refusing.{sweep_reason}
use Rattle.dex_decide.proofs.PartLaws.{sweep-told}
use Rattle.dex_decide.proofs.Planning.{err-planned, ok-planned}
use Rattle.dex_decide.proofs.deciding.decide_sweep_row.Goals as goal

pub returns-in-Ok : goal.returns-in-Ok
returns-in-Ok g c =
    let m = market_in (g.M.ReadMarket.held c.args.accounts.now) in
    let request = asked_by c.args.ask.now in
    ok-planned plans.Sweep (why_sweep request c.args.seen.now m) m.pc_fees c.in-Ok.fees
    (sym c.in-Ok.is ∙ c.decide_sweep.ensures
    ∙ ap (λ (a : Address). answered (sweep_reason (market_words c.market.result.now) a request.signer c.args.seen.now) (market_words c.market.result.now).pc_fees_accrued) c.authority.ensures
    ∙ sweep-told (g.M.ReadMarket.held c.args.accounts.now) c.requires request c.market.result.now c.market.ensures c.args.seen.now)

pub returns-in-Err : goal.returns-in-Err
returns-in-Err g c =
    let m = market_in (g.M.ReadMarket.held c.args.accounts.now) in
    let request = asked_by c.args.ask.now in
    err-planned (why_sweep request c.args.seen.now m) m.pc_fees (plans.Sweep m.pc_fees) c.in-Err.why
    (sym c.in-Err.is ∙ c.decide_sweep.ensures
    ∙ ap (λ (a : Address). answered (sweep_reason (market_words c.market.result.now) a request.signer c.args.seen.now) (market_words c.market.result.now).pc_fees_accrued) c.authority.ensures
    ∙ sweep-told (g.M.ReadMarket.held c.args.accounts.now) c.requires request c.market.result.now c.market.ensures c.args.seen.now)
