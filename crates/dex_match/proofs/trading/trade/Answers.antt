use Rattle.dex_match.specs.OrderTerms.{meeting_with, order_of}
use Rattle.dex_match.proofs.TradeLaws.{traded}
use Rattle.dex_match.proofs.trading.trade.Goals as goal

pub returns-clause-bytes : goal.returns-clause-bytes
returns-clause-bytes g c =
    traded c.args.taker.id_side c.args.sizes (order_of c.args.taker) c.args.plan.now (meeting_with c.args.sizes c.args.taker (g.A.SideRead.orders c.args.opposite.now))
    (g.B.SideRead.room c.args.own.now) (g.B.SideRead.orders c.args.own.now) c.order_by-order.result c.fill_amounts-amounts.result _ _ _ _
    c.order_by-order.ensures c.fill_amounts-amounts.ensures c.meet_opposite-rebates.ensures.bytes c.push_fills.ensures.bytes c.rest_or_end.ensures.bytes
