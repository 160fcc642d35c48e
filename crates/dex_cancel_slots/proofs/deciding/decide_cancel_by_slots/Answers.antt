use Rattle.dex_cancel_slots.proofs.PremiseLaws.{sides-name}
use Rattle.dex_cancel_slots.proofs.deciding.decide_cancel_by_slots.Goals as goal

pub gathered-requires-clause-names : goal.gathered-requires-clause-names
gathered-requires-clause-names g c =
    sides-name c.args.owner.account c.args.owner.orders.bytes.now (g.B.SideRead.orders c.args.bids.now) (g.B.SideRead.orders c.args.asks.now) c.requires.market
