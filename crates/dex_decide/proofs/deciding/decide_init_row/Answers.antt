use Rattle.std.proofs.Common.{rules, Option, sym, ap, ◌∙◌}
use Rattle.dex_types.specs.declared.refusals.Refusal.{Refusal}
use Rattle.dex_types.specs.Reasons.{answered}
use Rattle.dex_types.specs.Why.{why_init}
use Rattle.dex_plan.specs.declared.plan.Plan.TheVariants as plans
use Rattle.dex_plan.specs.Given.{asked_by}
use Rattle.dex_accounts.specs.Decoded.{market_in}
use Rattle.dex_decide.specs.Named.{account_by}
use Rattle.dex_decide.proofs.NamedLaws.{accepted-named}
use Rattle.dex_decide.proofs.PartLaws.{all-accepted, init-told, none-told}
use Rattle.dex_decide.proofs.Planning.{err-planned, given-planned, ok-planned}
use Rattle.dex_decide.proofs.deciding.decide_init_row.Goals as goal

pub decide_init-requires-clause-account : goal.decide_init-requires-clause-account
decide_init-requires-clause-account g c =
    let accounts = g.M.ReadMarket.held c.args.accounts.now in
    accepted-named (asked_by c.args.ask.now).named accounts.orders (account_by c.in-Some.acting.address c.in-Some.acting.bytes.now)
    (all-accepted accounts c.requires) (search rules)

pub returns-in-None : goal.returns-in-None
returns-in-None g c =
    let request = asked_by c.args.ask.now in
    given-planned (why_init request (market_in (g.M.ReadMarket.held c.args.accounts.now))) plans.Init c.disabled_or_none.result
    (c.disabled_or_none.ensures ∙ none-told (g.M.ReadMarket.held c.args.accounts.now) c.requires request c.market.result.now c.market.ensures (search rules))

pub returns-in-Ok : goal.returns-in-Ok
returns-in-Ok g c =
    let request = asked_by c.args.ask.now in
    let account = account_by c.in-Some.acting.address c.in-Some.acting.bytes.now in
    ok-planned (λ (u : Unit). plans.Init) (why_init request (market_in (g.M.ReadMarket.held c.args.accounts.now))) tt tt
    (sym c.in-Ok.is ∙ c.decide_init.ensures.answer
    ∙ ap (λ (r : Option Refusal). answered r tt)
    (init-told (g.M.ReadMarket.held c.args.accounts.now) c.requires request c.market.result.now c.market.ensures account (search rules)))

pub returns-in-Err : goal.returns-in-Err
returns-in-Err g c =
    let request = asked_by c.args.ask.now in
    let account = account_by c.in-Some.acting.address c.in-Some.acting.bytes.now in
    err-planned (why_init request (market_in (g.M.ReadMarket.held c.args.accounts.now))) tt plans.Init c.in-Err.why
    (sym c.in-Err.is ∙ c.decide_init.ensures.answer
    ∙ ap (λ (r : Option Refusal). answered r tt)
    (init-told (g.M.ReadMarket.held c.args.accounts.now) c.requires request c.market.result.now c.market.ensures account (search rules)))
