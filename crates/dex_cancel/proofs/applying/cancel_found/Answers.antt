use Rattle.std.proofs.Common.{◌<◌, ◌^◌}
use Rattle.dex_types.specs.declared.orders.Order.{Order}
use Rattle.dex_types.specs.declared.terms.Side.TheVariants.{Bid, Ask}
use Rattle.dex_types.specs.Owed.{order_lock}
use Rattle.dex_sound.proofs.WithoutLaws.{found-All}
use Rattle.dex_cancel.specs.Finding.{resting}
use Rattle.dex_cancel.proofs.TakenOffLaws.{rests-there}
use Rattle.dex_cancel.proofs.applying.cancel_found.Goals as goal

pub take_off-requires-clause-rests : goal.take_off-requires-clause-rests
take_off-requires-clause-rests g c = rests-there (resting c.args.found) Bid _ (g.A.SideRead.orders c.args.asks.now) c.requires.rests c.in-Bid.is

pub take_off-requires-clause-fits : goal.take_off-requires-clause-fits
take_off-requires-clause-fits g c =
    found-All (λ (o : Order). order_lock Bid c.args.sizes o < 2 ^ 64) c.args.found.order.id c.args.found.order (g.B.SideRead.orders c.args.bids.now)
    (rests-there (resting c.args.found) Bid _ (g.A.SideRead.orders c.args.asks.now) c.requires.rests c.in-Bid.is) c.requires.can.locks.0

pub take_off-requires-in-Ask-clause-rests : goal.take_off-requires-in-Ask-clause-rests
take_off-requires-in-Ask-clause-rests g c = rests-there (resting c.args.found) Ask (g.B.SideRead.orders c.args.bids.now) _ c.requires.rests c.in-Ask.is

pub take_off-requires-in-Ask-clause-fits : goal.take_off-requires-in-Ask-clause-fits
take_off-requires-in-Ask-clause-fits g c =
    found-All (λ (o : Order). order_lock Ask c.args.sizes o < 2 ^ 64) c.args.found.order.id c.args.found.order (g.A.SideRead.orders c.args.asks.now)
    (rests-there (resting c.args.found) Ask (g.B.SideRead.orders c.args.bids.now) _ c.requires.rests c.in-Ask.is) c.requires.can.locks.1
