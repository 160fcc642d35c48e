use Rattle.std.proofs.Common.{sym, ap, ◌∙◌, Option}
use Rattle.dex_types.specs.declared.refusals.Refusal.{Refusal}
use Rattle.dex_types.specs.Reasons.{answered}
use Rattle.dex_types.specs.Why.{why_disable}
use Rattle.dex_plan.specs.declared.plan.Plan.TheVariants as plans
use Rattle.dex_plan.specs.Given.{asked_by}
use Rattle.dex_accounts.specs.Decoded.{market_in}
use Rattle.dex_types.specs.declared.addresses.Address.{Address}
use Rattle.dex_market.specs.MarketAccount.{market_words}
use Rattle.dex_settle.specs.Refusing.{disable_reason}
use Rattle.dex_decide.proofs.PartLaws.{disable-told}
use Rattle.dex_decide.proofs.Planning.{err-planned, ok-planned}
use Rattle.dex_decide.proofs.deciding.decide_disable_row.Goals as goal

pub returns-in-Ok : goal.returns-in-Ok
returns-in-Ok g c =
    let request = asked_by c.args.ask.now in
    ok-planned (λ (u : Unit). plans.Disable) (why_disable request (market_in (g.M.ReadMarket.held c.args.accounts.now))) tt tt
    (sym c.in-Ok.is ∙ c.decide_disable.ensures
    ∙ ap (λ (a : Address). answered (disable_reason (market_words c.market.result.now).account_flags a request.signer) tt) c.authority.ensures
    ∙ ap (λ (r : Option Refusal). answered r tt) (disable-told (g.M.ReadMarket.held c.args.accounts.now) c.requires request c.market.result.now c.market.ensures))

pub returns-in-Err : goal.returns-in-Err
returns-in-Err g c =
    let request = asked_by c.args.ask.now in
    err-planned (why_disable request (market_in (g.M.ReadMarket.held c.args.accounts.now))) tt plans.Disable c.in-Err.why
    (sym c.in-Err.is ∙ c.decide_disable.ensures
    ∙ ap (λ (a : Address). answered (disable_reason (market_words c.market.result.now).account_flags a request.signer) tt) c.authority.ensures
    ∙ ap (λ (r : Option Refusal). answered r tt) (disable-told (g.M.ReadMarket.held c.args.accounts.now) c.requires request c.market.result.now c.market.ensures))
