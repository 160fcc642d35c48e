use Rattle.std.proofs.Common.{rules, sym, ap, ◌∙◌, Option}
use Rattle.dex_types.specs.declared.refusals.Refusal.{Refusal}
use Rattle.dex_types.specs.Reasons.{answered}
use Rattle.dex_types.specs.Why.{of_party, why_close}
use Rattle.dex_plan.specs.declared.plan.Plan.TheVariants as plans
use Rattle.dex_plan.specs.Given.{asked_by, party_on}
use Rattle.dex_accounts.specs.Decoded.{market_in}
use Rattle.dex_decide.specs.Named.{account_by}
use Rattle.dex_decide.proofs.NamedLaws.{accepted-named, no-account}
use Rattle.dex_decide.proofs.PartLaws.{all-accepted, close-told, party-told}
use Rattle.dex_decide.proofs.Planning.{err-planned, no-party, ok-planned}
use Rattle.dex_decide.proofs.deciding.decide_close_row.Goals as goal

pub decide_close-requires : goal.decide_close-requires
decide_close-requires g c =
    let accounts = g.M.ReadMarket.held c.args.accounts.now in
    accepted-named (asked_by c.args.ask.now).named accounts.orders (account_by c.in-Some.acting.address c.in-Some.acting.bytes.now)
    (all-accepted accounts c.requires) (search rules)

pub returns-in-None : goal.returns-in-None
returns-in-None g c =
    let accounts = g.M.ReadMarket.held c.args.accounts.now in
    let request = asked_by c.args.ask.now in
    no-party (why_close request) plans.Close (party_on request (market_in (g.M.ReadMarket.held c.args.accounts.now)))
    (party-told accounts c.requires request.named ∙ no-account request.named accounts.orders (search rules))

pub returns-in-Ok : goal.returns-in-Ok
returns-in-Ok g c =
    let accounts = g.M.ReadMarket.held c.args.accounts.now in
    let request = asked_by c.args.ask.now in
    let account = account_by c.in-Some.acting.address c.in-Some.acting.bytes.now in
    ok-planned (λ (u : Unit). plans.Close) (of_party (why_close request) (party_on request (market_in (g.M.ReadMarket.held c.args.accounts.now)))) tt tt
    (sym c.in-Ok.is ∙ c.decide_close.ensures.answer ∙ ap (λ (r : Option Refusal). answered r tt) (close-told accounts c.requires request account (search rules)))

pub returns-in-Err : goal.returns-in-Err
returns-in-Err g c =
    let accounts = g.M.ReadMarket.held c.args.accounts.now in
    let request = asked_by c.args.ask.now in
    let account = account_by c.in-Some.acting.address c.in-Some.acting.bytes.now in
    err-planned (of_party (why_close request) (party_on request (market_in (g.M.ReadMarket.held c.args.accounts.now)))) tt plans.Close c.in-Err.why
    (sym c.in-Err.is ∙ c.decide_close.ensures.answer ∙ ap (λ (r : Option Refusal). answered r tt) (close-told accounts c.requires request account (search rules)))
