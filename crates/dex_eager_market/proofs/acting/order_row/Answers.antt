use Rattle.std.proofs.Common.{◌∙◌, ◌+◌, ◌^◌, ap, sym, arith}
use Rattle.dex_types.specs.declared.addresses.Address.{Address}
use Rattle.dex_types.specs.declared.terms.Side.{Side}
use Rattle.dex_types.specs.NewOrder.{NewOrder}
use Rattle.dex_match.specs.OrderTerms.{order_of}
use Rattle.dex_eager.specs.Eager.{Eager, EagerStep, by_account, eager_order, order_by, order_meeting}
use Rattle.dex_eager_market.specs.Acting.{acted}
use Rattle.dex_eager_market.specs.States.{eager_of}
use Rattle.dex_eager_market.proofs.Trades.{kept-more}
use Rattle.dex_eager_market.proofs.acting.order_row.Goals as goal

pub returns-in-Some-clause-does : goal.returns-in-Some-clause-does
returns-in-Some-clause-does c = λ order same.
    let e : Eager = eager_of c.args.state.now in
    let side = c.args.taker.id_side in
    let act : Address → EagerStep = eager_order side order e in
    let n = order_of c.for_account.result in
    c.order.ensures.does
    ∙ ap (λ (s : Side). (order_by s n (order_meeting s n e) e).market) c.for_account.ensures.side
    ∙ ap (λ (n : NewOrder). (order_by side n (order_meeting side n e) e).market) (c.for_account.ensures.order ∙ same c.in-Some.owner)
    ∙ sym (ap (λ (s : EagerStep). s.market) (ap (by_account act e) (sym c.deref.ensures.value) ∙ c.acting.ensures act ∙ ap (acted act e) c.in-Some.is))

pub returns-in-None-clause-does : goal.returns-in-None-clause-does
returns-in-None-clause-does c = λ order same.
    let e : Eager = eager_of c.args.state.now in
    let act : Address → EagerStep = eager_order c.args.taker.id_side order e in
    sym (ap (λ (s : EagerStep). s.market) (ap (by_account act e) (sym c.deref.ensures.value) ∙ c.acting.ensures act ∙ ap (acted act e) c.in-None.is))

pub returns-in-None-clause-kept : goal.returns-in-None-clause-kept
returns-in-None-clause-kept c = λ bound kept. kept-more bound (bound + 2 ^ 82) c.args.state.now (omega arith) kept
