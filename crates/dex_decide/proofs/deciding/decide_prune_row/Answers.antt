use Rattle.std.proofs.Common.{rules, ◌≡◌, None, Some, sym, ap, ◌∙◌}
use Rattle.dex_types.specs.declared.addresses.Address.{Address}
use Rattle.dex_types.specs.Cancel.{First}
use Rattle.dex_types.specs.Reasons.{not_authority, not_this_authority}
use Rattle.dex_types.specs.Why.{why_cancelled, why_prune}
use Rattle.dex_cancel.specs.declared.what.CancelWhat.TheVariants as cancels
use Rattle.dex_plan.specs.declared.plan.Plan.TheVariants as plans
use Rattle.dex_plan.specs.Given.{asked_by}
use Rattle.dex_accounts.specs.Decoded.{market_in}
use Rattle.dex_decide.proofs.PartLaws.{by-acting, has-open}
use Rattle.dex_decide.proofs.Planning.{passed-first, refused-first}
use Rattle.dex_decide.proofs.deciding.decide_prune_row.Goals as goal

pub decide_cancel_of-requires-clause-acting : goal.decide_cancel_of-requires-clause-acting
decide_cancel_of-requires-clause-acting g c =
    has-open (g.M.ReadMarket.held c.args.accounts.now) c.requires c.args.ask.now.named.now c.in-Some.acting.address c.in-Some.acting.bytes.now (search rules)

pub returns-in-Some-not_authority : goal.returns-in-Some-not_authority
returns-in-Some-not_authority g c =
    let request = asked_by c.args.ask.now in
    let m = market_in (g.M.ReadMarket.held c.args.accounts.now) in
    let stranger : not_authority request m ≡ Some c.in-Some-not_authority.why =
    ap (λ (a : Address). not_this_authority a request.signer) (sym c.requires.stands.authority ∙ sym c.authority.ensures) ∙ sym c.not_authority.ensures ∙ c.in-Some-not_authority.is in
    by-acting (g.M.ReadMarket.held c.args.accounts.now) c.requires request c.in-Some.acting.address c.in-Some.acting.bytes.now (search rules) (why_prune (First c.args.limit) request m) (λ p. plans.Cancel (cancels.Prune c.args.limit)) _
    (refused-first (not_authority request m) (why_cancelled (First c.args.limit) c.in-Some.acting.address m) c.in-Some-not_authority.why (plans.Cancel (cancels.Prune c.args.limit)) stranger)

pub returns-in-None : goal.returns-in-None
returns-in-None g c =
    let request = asked_by c.args.ask.now in
    let m = market_in (g.M.ReadMarket.held c.args.accounts.now) in
    let none : not_authority request m ≡ None =
    ap (λ (a : Address). not_this_authority a request.signer) (sym c.requires.stands.authority ∙ sym c.authority.ensures) ∙ sym c.not_authority.ensures ∙ c.in-None.is in
    by-acting (g.M.ReadMarket.held c.args.accounts.now) c.requires request c.in-Some.acting.address c.in-Some.acting.bytes.now (search rules) (why_prune (First c.args.limit) request m) (λ p. plans.Cancel (cancels.Prune c.args.limit)) _
    (passed-first (not_authority request m) (why_cancelled (First c.args.limit) c.in-Some.acting.address m) (plans.Cancel (cancels.Prune c.args.limit))
    c.decide_cancel_of.result none c.decide_cancel_of.ensures)
