use Rattle.std.proofs.Common.{◌≡◌, Some, sym, ap, ◌∙◌}
use Rattle.dex_types.specs.declared.instructions.Ix.{Ix}
use Rattle.dex_types.specs.Reasons.{answered}
use Rattle.dex_types.specs.Why.{why_instruction}
use Rattle.dex_match.specs.declared.order_terms.Taker.{Taker}
use Rattle.dex_take.specs.TakeTerms.{take_of}
use Rattle.dex_plan.specs.Given.{asked_by}
use Rattle.dex_plan.specs.Plans.{order_answer, order_by, plan_on, take_answer}
use Rattle.dex_accounts.specs.Decoded.{market_in}
use Rattle.dex_decide.specs.Takers.{taker_in}
use Rattle.dex_decide.proofs.rows.decide_instruction.Goals as goal

under-some : {A : Type 0} (x y : A) → Some x ≡ Some y → y ≡ x
under-some x y same = cc

pub returns-in-NewOrderV3 : goal.returns-in-NewOrderV3
returns-in-NewOrderV3 g c =
    let m = market_in (g.M.ReadMarket.held c.args.accounts.now) in
    let request = asked_by c.args.ask.now in
    let seen = c.args.seen.now in
    c.decide_order_row.ensures
    ∙ ap (λ (t : Taker). order_answer t.id_side (order_by t) request seen m) (under-some _ _ (sym (ap (λ (i : Ix). taker_in i request seen) c.in-NewOrderV3.is) ∙ c.taker_by-taker.ensures))
    ∙ sym (ap (λ (i : Ix). answered (why_instruction i request seen m) (plan_on i request seen m)) c.in-NewOrderV3.is)

pub returns-in-SendTake : goal.returns-in-SendTake
returns-in-SendTake g c =
    let m = market_in (g.M.ReadMarket.held c.args.accounts.now) in
    let request = asked_by c.args.ask.now in
    let seen = c.args.seen.now in
    c.decide_take_row.ensures
    ∙ ap (λ (t : Taker). take_answer t (take_of t c.in-SendTake.lots c.in-SendTake.pc) request seen m)
    (under-some _ _ c.taker_by-taker-in-SendTake.ensures)
    ∙ sym (ap (λ (i : Ix). answered (why_instruction i request seen m) (plan_on i request seen m)) c.in-SendTake.is)
