use Rattle.std.proofs.Common.{sym, ap, subst}
use Rattle.dex_types.specs.Cancel.{at_most_one}
use Rattle.dex_cancel.specs.TakenOff.{DoRest}
use Rattle.dex_cancel.proofs.OwnLaws.{all-mine, oldest-rests}
use Rattle.dex_cancel.proofs.applying.cancel_oldest.Goals as goal

pub cancel_maybe-requires-clause-rests : goal.cancel_maybe-requires-clause-rests
cancel_maybe-requires-clause-rests g c =
    let bids = g.B.SideRead.orders c.args.bids.now in
    let asks = g.A.SideRead.orders c.args.asks.now in
    let bids_held = g.met.B.SideRead.is_book_side c.args.bids.now c.requires.bids in
    let asks_held = g.met.A.SideRead.is_book_side c.args.asks.now c.requires.asks in
    subst (λ gone. DoRest gone bids asks) (sym (ap at_most_one c.find_oldest-found.ensures))
    (oldest-rests c.args.account c.args.client bids asks (all-mine c.args.account _ _ bids asks bids_held.in_order asks_held.in_order))
