use Rattle.std.proofs.Common.{sym, ap, ◌∙◌, subst}
use Rattle.dex_types.specs.Cancel.{on_side}
use Rattle.dex_cancel.specs.TakenOff.{DoRest}
use Rattle.dex_cancel.proofs.OwnLaws.{on_side-rests}
use Rattle.dex_cancel.proofs.applying.cancel_by_id.Goals as goal

pub cancel_maybe-requires-clause-rests : goal.cancel_maybe-requires-clause-rests
cancel_maybe-requires-clause-rests g c =
    let bids = g.B.SideRead.orders c.args.bids.now in
    let asks = g.A.SideRead.orders c.args.asks.now in
    subst (λ gone. DoRest gone bids asks) (sym (c.found_on-found.ensures ∙ ap (on_side c.args.side) c.find_on.ensures)) (on_side-rests c.args.side c.args.id bids asks)
