use Rattle.std.proofs.Common.{◌∙◌, ap, sym}
use Rattle.std.proofs.lemmas.Option.{same_Some}
use Rattle.dex_types.specs.declared.addresses.Address.{Address}
use Rattle.dex_types.specs.declared.instructions.Ix.{Ix}
use Rattle.dex_types.specs.NewOrder.{NewOrder}
use Rattle.dex_types.specs.Rows.{row_of}
use Rattle.dex_types.specs.Terms.{terms_order}
use Rattle.dex_history.specs.Journal.{request_of}
use Rattle.dex_match.specs.declared.order_terms.Taker.{Taker}
use Rattle.dex_take.specs.TakeTerms.{take_of}
use Rattle.dex_decide.specs.Takers.{taker_in}
use Rattle.dex_eager.specs.Eager.{Eager, by_account, eager_act, eager_order, eager_take}
use Rattle.dex_eager_market.specs.Acting.{order_for}
use Rattle.dex_eager_market.specs.States.{eager_of}
use Rattle.dex_eager_market.proofs.acting.act.Goals as goal

pub returns-in-NewOrderV3-clause-does : goal.returns-in-NewOrderV3-clause-does
returns-in-NewOrderV3-clause-does c =
    let e : Eager = eager_of c.args.state.now in
    let n = c.in-NewOrderV3 in
    let request = request_of (row_of c.args.row.now) in
    let seen = c.args.seen.now in
    let order : Address → NewOrder = terms_order request seen n.limit_price n.max_coin_qty n.max_native_pc_qty_including_fees n.self_trade_behavior n.order_type n.client_order_id n.limit n.max_ts in
    let stated = sym (same_Some _ _ (sym (ap (λ (i : Ix). taker_in i request seen) n.is) ∙ c.taker_of.ensures)) in
    c.order_row.ensures.does order (λ owner. ap (order_for owner) stated)
    ∙ ap (λ (t : Taker). (by_account (eager_order t.id_side order e) e request.named).market) stated
    ∙ sym (ap (λ (i : Ix). (eager_act i request seen e).market) n.is)

pub returns-in-SendTake-clause-does : goal.returns-in-SendTake-clause-does
returns-in-SendTake-clause-does c =
    let e : Eager = eager_of c.args.state.now in
    let least = c.in-SendTake.min_coin_qty in
    let least_pc = c.in-SendTake.min_native_pc_qty in
    let request = request_of (row_of c.args.row.now) in
    c.take.ensures.does least least_pc
    ∙ ap (λ (t : Taker). (eager_take t.id_side (take_of t least least_pc) e).market) (sym (same_Some _ _ (sym (ap (λ (i : Ix). taker_in i request c.args.seen.now) c.in-SendTake.is) ∙ c.taker_of-in-SendTake.ensures)))
    ∙ sym (ap (λ (i : Ix). (eager_act i request c.args.seen.now e).market) c.in-SendTake.is)
