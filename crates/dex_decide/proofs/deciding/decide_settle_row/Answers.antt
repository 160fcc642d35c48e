use Rattle.std.proofs.Common.{rules, is_some, sym, ap, ◌∙◌, Option}
use Rattle.dex_types.specs.declared.refusals.Refusal.{Refusal}
use Rattle.dex_types.specs.Reasons.{answered}
use Rattle.dex_types.specs.Settle.{settlement}
use Rattle.dex_types.specs.Why.{why_settle}
use Rattle.dex_settle.specs.declared.plan.SettlePlan.{SettlePlan}
use Rattle.dex_settle.specs.PayingOut.{plan_of}
use Rattle.dex_plan.specs.declared.plan.Plan.TheVariants as plans
use Rattle.dex_plan.specs.Given.{asked_by}
use Rattle.dex_plan.specs.Plans.{by_party, settle_plan}
use Rattle.dex_accounts.specs.Decoded.{market_in}
use Rattle.dex_decide.specs.Named.{party_by}
use Rattle.dex_decide.proofs.PartLaws.{by-acting, one-coin-mint, settle-given, settle-told}
use Rattle.dex_decide.proofs.Planning.{err-planned, ok-planned}
use Rattle.dex_decide.proofs.deciding.decide_settle_row.Goals as goal

pub decide_settle-requires-clause-parts : goal.decide_settle-requires-clause-parts
decide_settle-requires-clause-parts g c =
    settle-given (g.M.ReadMarket.held c.args.accounts.now) c.requires.sound (asked_by c.args.ask.now).named c.in-Some.acting.address c.in-Some.acting.bytes.now
    (search rules) c.market.result.now c.market.ensures

pub decide_settle-requires-clause-wallets : goal.decide_settle-requires-clause-wallets
decide_settle-requires-clause-wallets g c = one-coin-mint c.args.seen.now c.requires.sees

pub returns-in-Ok : goal.returns-in-Ok
returns-in-Ok g c =
    let request = asked_by c.args.ask.now in
    let party = party_by c.in-Some.acting.address c.in-Some.acting.bytes.now in
    let plan : SettlePlan = plan_of (settlement (is_some c.args.seen.now.referrer) party.account) in
    by-acting (g.M.ReadMarket.held c.args.accounts.now) c.requires.sound request c.in-Some.acting.address c.in-Some.acting.bytes.now (search rules) (why_settle request c.args.seen.now (market_in (g.M.ReadMarket.held c.args.accounts.now))) (by_party (settle_plan c.args.seen.now)) _
    (ok-planned plans.Settle (why_settle request c.args.seen.now (market_in (g.M.ReadMarket.held c.args.accounts.now)) party) plan c.in-Ok.plan
    (sym c.in-Ok.is ∙ c.decide_settle.ensures
    ∙ ap (λ (r : Option Refusal). answered r plan)
    (settle-told (g.M.ReadMarket.held c.args.accounts.now) c.requires.sound request c.market.result.now c.market.ensures c.args.seen.now party)))

pub returns-in-Err : goal.returns-in-Err
returns-in-Err g c =
    let request = asked_by c.args.ask.now in
    let party = party_by c.in-Some.acting.address c.in-Some.acting.bytes.now in
    let plan : SettlePlan = plan_of (settlement (is_some c.args.seen.now.referrer) party.account) in
    by-acting (g.M.ReadMarket.held c.args.accounts.now) c.requires.sound request c.in-Some.acting.address c.in-Some.acting.bytes.now (search rules) (why_settle request c.args.seen.now (market_in (g.M.ReadMarket.held c.args.accounts.now))) (by_party (settle_plan c.args.seen.now)) _
    (err-planned (why_settle request c.args.seen.now (market_in (g.M.ReadMarket.held c.args.accounts.now)) party) plan (plans.Settle plan) c.in-Err.why
    (sym c.in-Err.is ∙ c.decide_settle.ensures
    ∙ ap (λ (r : Option Refusal). answered r plan)
    (settle-told (g.M.ReadMarket.held c.args.accounts.now) c.requires.sound request c.market.result.now c.market.ensures c.args.seen.now party)))
