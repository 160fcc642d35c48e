use Rattle.std.proofs.Common.{◌∙◌, ◌+◌, ◌^◌, Some, subst, ap, sym, arith}
use Rattle.dex_types.specs.Meeting.{Meeting}
use Rattle.dex_eager.specs.Eager.{Eager, take_by}
use Rattle.dex_take.specs.TakeTerms.{meeting_with, take_of}
use Rattle.dex_eager_market.specs.States.{market_by}
use Rattle.dex_eager_market.specs.Trading.{IsTakeForeseen}
use Rattle.dex_eager_market.proofs.Trades.{take-bare, take-moves, till-more}
use Rattle.dex_eager_market.proofs.trading.take_in.Goals as goal
use Rattle.dex_eager_market.proofs.trading.take_in.Goals.{In-Some}

-- what was foreseen, where something was
known : (c : In-Some) → IsTakeForeseen c.args.sizes c.args.taker c.args.opposing.now.orders.items (Some c.in-Some.foreseen)
known c = subst (IsTakeForeseen c.args.sizes c.args.taker c.args.opposing.now.orders.items) c.in-Some.is c.foresee_take.ensures

pub settle_take-requires-clause-trade : goal.settle_take-requires-clause-trade
settle_take-requires-clause-trade c = (known (goal.at.settle_take-requires-clause-trade c).In-Some).1

pub returns-in-Some-clause-market : goal.returns-in-Some-clause-market
returns-in-Some-clause-market c = λ own min_lots min_pc.
    let side = c.args.taker.id_side in
    let t = take_of c.args.taker min_lots min_pc in
    let items = c.args.opposing.now.orders.items in
    let e : Eager = market_by side c.args.sizes own c.args.opposing.now c.args.till.now in
    c.settle_take.ensures.market own
    ∙ sym (take-moves side t (meeting_with c.args.sizes c.args.taker items) e
    (known (goal.at.returns-in-Some-clause-market c).In-Some).0)
    ∙ ap (λ (m : Meeting). (take_by side t m e).market) (take-bare c.args.sizes c.args.taker min_lots min_pc items)

pub returns-in_default-clause-till : goal.returns-in_default-clause-till
returns-in_default-clause-till c = λ bound is. till-more bound (bound + 2 ^ 82) c.args.till.now (omega arith) is
