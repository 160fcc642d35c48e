use Rattle.std.proofs.Common.{refl, ap}
use Rattle.dex_cancel.specs.Cancelling.{named_by}
use Rattle.dex_cancel.specs.TakenOff.{Queue, handed}
use Rattle.dex_cancel.proofs.MarketLaws.{can-leave, left-exactly}
use Rattle.dex_cancel_slots.proofs.PremiseLaws.{given-names, given-sound}
use Rattle.dex_cancel_slots.proofs.applying.apply_cancel_by_slots.Goals as goal

pub cancel_all-requires-clause-open : goal.cancel_all-requires-clause-open
cancel_all-requires-clause-open g c = c.requires.market.has.accepted

pub cancel_all-requires-clause-names : goal.cancel_all-requires-clause-names
cancel_all-requires-clause-names g c =
    let given = handed c.args.sizes g.B.SideRead.orders g.A.SideRead.orders c.args.bids.now c.args.asks.now c.args.ring.now in
    given-names c.args.owner.account c.args.owner.orders.bytes.now given c.requires.market

pub cancel_all-requires-clause-can : goal.cancel_all-requires-clause-can
cancel_all-requires-clause-can g c =
    let given = handed c.args.sizes g.B.SideRead.orders g.A.SideRead.orders c.args.bids.now c.args.asks.now c.args.ring.now in
    can-leave (named_by c.args.what.now) c.args.owner.account given (given-sound c.args.owner.account c.args.owner.orders.bytes.now given c.requires.market) c.requires.decided

pub returns-clause-does : goal.returns-clause-does
returns-clause-does g c =
    let left = c.cancel_all.ensures.does.left in
    left-exactly _ _ _ refl left

pub returns-clause-events : goal.returns-clause-events
returns-clause-events g c = ap (λ (q : Queue). q.list) c.cancel_all.ensures.does.left.queue

pub returns-clause-ring : goal.returns-clause-ring
returns-clause-ring g c = record { place = c.cancel_all.ensures.place; accepted = c.cancel_all.ensures.does.left.accepted }
