use Rattle.std.proofs.Common.{List, ◌∙◌, map, ap, arith}
use Rattle.dex_types.specs.Cancel.{taken_by, without_taken}
use Rattle.dex_eager_market.specs.declared.listing.Resting.{Resting}
use Rattle.dex_eager_market.specs.Listing.{resting_of, resting_there}
use Rattle.dex_eager_market.specs.States.{eager_of}
use Rattle.dex_eager_market.proofs.Cancels.{ids-next}
use Rattle.dex_eager_market.proofs.cancelling.cancel_next.Goals as goal

pub returns-clause-does : goal.returns-clause-does
returns-clause-does c = λ clients.
    let found = c.taken_by-found.result in
    ids-next c.args.client clients (resting_there found) (map resting_of c.args.state.now.listed.items) (map resting_of c.forget.new.list.items) (eager_of c.args.state.now)
    (eager_of c.take_found.new.state)
    (c.taken_by-found.ensures ∙ ap (λ (l : List Resting). taken_by c.args.client (map resting_of l)) c.deref.ensures.value)
    (c.forget.ensures.list ∙ ap (λ (l : List Resting). without_taken (resting_there found) (map resting_of l)) c.take_found.ensures.listed) c.take_found.ensures.off

pub returns-clause-kept : goal.returns-clause-kept
returns-clause-kept c = λ bound kept.
    let off = c.take_found.ensures.kept bound kept in
    record { bids = off.bids; asks = off.asks; till = off.till; listed = omega (arith, off.listed, c.forget.ensures.capacity) }
