use Rattle.std.proofs.Common.{List, Option, ◌≡◌, ◌∙◌, map, ap, sym}
use Rattle.dex_types.specs.Cancel.{RestingOrder, all_orders_of, at_most_one, taken_by}
use Rattle.dex_eager.specs.Eager.{Eager, without_all}
use Rattle.dex_eager_market.specs.declared.listing.Resting.{Resting}
use Rattle.dex_eager_market.specs.Listing.{resting_of, resting_there}
use Rattle.dex_eager_market.specs.States.{eager_of}
use Rattle.dex_eager_market.proofs.Cancels.{client-taken}
use Rattle.dex_eager_market.proofs.cancelling.cancel_client.Goals as goal

pub returns-clause-does : goal.returns-clause-does
returns-clause-does c =
    let e : Eager = eager_of c.args.state.now in
    let found = c.taken_by-found.result in
    let found_is : resting_there found ≡ taken_by c.args.client (all_orders_of c.args.owner e.bids e.asks) =
    c.taken_by-found.ensures ∙ ap (λ (l : List Resting). taken_by c.args.client (map resting_of l)) c.deref.ensures.value
    ∙ ap (taken_by c.args.client) c.list_orders.ensures.listed in
    c.take_found.ensures.off
    ∙ ap (λ (m : Eager). without_all (at_most_one (resting_there found)) m) c.list_orders.ensures.same
    ∙ ap (λ (g : Option RestingOrder). without_all (at_most_one g) e) found_is
    ∙ sym (client-taken c.args.owner c.args.client e)

pub returns-clause-kept : goal.returns-clause-kept
returns-clause-kept c = λ bound kept. c.take_found.ensures.kept bound (c.list_orders.ensures.kept bound kept)
