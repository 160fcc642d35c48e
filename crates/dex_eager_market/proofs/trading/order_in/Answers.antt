use Rattle.std.proofs.Common.{◌∙◌, ◌+◌, ◌^◌, Some, subst, sym, arith}
use Rattle.dex_match.specs.OrderTerms.{meeting_with, order_of}
use Rattle.dex_eager_market.specs.States.{market_by}
use Rattle.dex_eager_market.specs.Trading.{IsOrderForeseen}
use Rattle.dex_eager_market.proofs.Trades.{order-moves, till-more}
use Rattle.dex_eager_market.proofs.trading.order_in.Goals as goal
use Rattle.dex_eager_market.proofs.trading.order_in.Goals.{In-Some}

-- what was foreseen, where something was
known : (c : In-Some) → IsOrderForeseen c.args.sizes c.args.taker c.args.till.now.next_sequence c.args.opposing.now.orders.items (Some c.in-Some.foreseen)
known c = subst (IsOrderForeseen c.args.sizes c.args.taker c.args.till.now.next_sequence c.args.opposing.now.orders.items) c.in-Some.is c.foresee_order.ensures

pub settle_order-requires-clause-trade : goal.settle_order-requires-clause-trade
settle_order-requires-clause-trade c = (known (goal.at.settle_order-requires-clause-trade c).In-Some).2

pub settle_order-requires-clause-next : goal.settle_order-requires-clause-next
settle_order-requires-clause-next c = (known (goal.at.settle_order-requires-clause-next c).In-Some).1

pub returns-in-Some-clause-market : goal.returns-in-Some-clause-market
returns-in-Some-clause-market c =
    c.settle_order.ensures.market
    ∙ sym (order-moves c.args.taker.id_side (order_of c.args.taker) (meeting_with c.args.sizes c.args.taker c.args.opposing.now.orders.items)
    (market_by c.args.taker.id_side c.args.sizes c.args.own.now c.args.opposing.now c.args.till.now)
    (known (goal.at.returns-in-Some-clause-market c).In-Some).0)

pub returns-in_default-clause-till : goal.returns-in_default-clause-till
returns-in_default-clause-till c = λ bound is. till-more bound (bound + 2 ^ 82) c.args.till.now (omega arith) is
