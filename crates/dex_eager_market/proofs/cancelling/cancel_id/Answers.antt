use Rattle.std.proofs.Common.{Option, ◌∙◌, ap, sym}
use Rattle.dex_types.specs.Cancel.{RestingOrder, at_most_one}
use Rattle.dex_eager.specs.Eager.{Eager, without_all}
use Rattle.dex_eager_market.specs.Listing.{own_resting}
use Rattle.dex_eager_market.specs.States.{eager_of}
use Rattle.dex_eager_market.proofs.Cancels.{id-taken}
use Rattle.dex_eager_market.proofs.cancelling.cancel_id.Goals as goal

pub returns-clause-does : goal.returns-clause-does
returns-clause-does c =
    let e : Eager = eager_of c.args.state.now in
    c.take_found.ensures.off
    ∙ ap (λ (g : Option RestingOrder). without_all (at_most_one g) e) (c.own_of-found.ensures ∙ ap (own_resting c.args.owner c.args.side) c.order_on.ensures)
    ∙ sym (id-taken c.args.owner c.args.side c.args.id e)
