use Rattle.std.proofs.Common.{refl, ap}
use Rattle.dex_cancel.specs.Cancelling.{named_by}
use Rattle.dex_cancel.specs.TakenOff.{Queue, handed}
use Rattle.dex_cancel.proofs.MarketLaws.{can-leave, left-exactly}
use Rattle.dex_cancel.proofs.applying.apply_cancel.Goals as goal

pub cancel_all-requires-clause-can : goal.cancel_all-requires-clause-can
cancel_all-requires-clause-can g c =
    let bids = g.B.SideRead.orders c.args.bids.now in
    let asks = g.A.SideRead.orders c.args.asks.now in
    let given = handed c.args.sizes g.B.SideRead.orders g.A.SideRead.orders c.args.bids.now c.args.asks.now c.args.ring.now in
    can-leave (named_by c.args.what.now) c.args.account given c.requires.market c.requires.decided

pub returns-clause-does : goal.returns-clause-does
returns-clause-does g c =
    let left = c.cancel_all.ensures.left in
    left-exactly _ _ _ refl left

pub returns-clause-events : goal.returns-clause-events
returns-clause-events g c = ap (λ (q : Queue). q.list) c.cancel_all.ensures.left.queue

pub returns-clause-ring : goal.returns-clause-ring
returns-clause-ring g c = record { place = c.cancel_all.ensures.place; accepted = c.cancel_all.ensures.left.accepted }
