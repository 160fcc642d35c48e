use Rattle.std.proofs.Common.{◌≡◌, None, rules}
use Rattle.dex_types.specs.Reasons.{not_owner}
use Rattle.dex_types.specs.Why.{why_cancel, why_cancelled}
use Rattle.dex_cancel.specs.Cancelling.{named_by}
use Rattle.dex_orders.specs.OrdersAccount.{account_of}
use Rattle.dex_plan.specs.declared.plan.Plan.TheVariants as plans
use Rattle.dex_plan.specs.Given.{asked_by}
use Rattle.dex_accounts.specs.Decoded.{market_in}
use Rattle.dex_decide.proofs.PartLaws.{by-acting, has-open}
use Rattle.dex_decide.proofs.Planning.{passed-first}
use Rattle.dex_decide.proofs.deciding.decide_cancel_row.Goals as goal

pub decide_cancel_of-requires-clause-acting : goal.decide_cancel_of-requires-clause-acting
decide_cancel_of-requires-clause-acting g c =
    has-open (g.M.ReadMarket.held c.args.accounts.now) c.requires c.args.ask.now.named.now c.in-Some.acting.address c.in-Some.acting.bytes.now (search rules)

pub returns-in-None : goal.returns-in-None
returns-in-None g c =
    let none : not_owner (asked_by c.args.ask.now) (account_of c.in-Some.acting.bytes.now) ≡ None = search rules in
    by-acting (g.M.ReadMarket.held c.args.accounts.now) c.requires (asked_by c.args.ask.now) c.in-Some.acting.address c.in-Some.acting.bytes.now (search rules) (why_cancel (named_by c.args.what) (asked_by c.args.ask.now) (market_in (g.M.ReadMarket.held c.args.accounts.now))) (λ p. plans.Cancel c.args.what) _
    (passed-first (not_owner (asked_by c.args.ask.now) (account_of c.in-Some.acting.bytes.now))
    (why_cancelled (named_by c.args.what) c.in-Some.acting.address (market_in (g.M.ReadMarket.held c.args.accounts.now))) (plans.Cancel c.args.what) c.decide_cancel_of.result none c.decide_cancel_of.ensures)
