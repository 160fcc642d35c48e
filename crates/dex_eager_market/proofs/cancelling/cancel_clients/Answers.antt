use Rattle.std.proofs.Common.{ℕ, List, ◌≡◌, ◌≤◌, ◌<◌, ◌∙◌, ◌∷◌, ◌+◌, drop, get_or, length, map, take, ap, sym, arith}
use Rattle.std.proofs.lemmas.List.{drop_all, drop_more, get_or-take, length-take-le}
use Rattle.dex_types.specs.Cancel.{RestingOrder, taken_by_all}
use Rattle.dex_eager.specs.Eager.{Eager, without_all}
use Rattle.dex_eager_market.specs.Listing.{resting_of}
use Rattle.dex_eager_market.specs.States.{eager_of}
use Rattle.dex_eager_market.proofs.cancelling.cancel_clients.Goals as goal

pub loop-place-init : goal.loop-place-init
loop-place-init c =
    let e : Eager = eager_of c.args.state.now in
    let clients = take c.args.ids.now.count c.args.ids.now.ids in
    record {
      off = ap (λ (m : Eager). without_all (taken_by_all clients (map resting_of c.list_orders.new.state.listed.items)) m) c.list_orders.ensures.same
          ∙ ap (λ (l : List RestingOrder). without_all (taken_by_all clients l) e) c.list_orders.ensures.listed;
      kept = c.list_orders.ensures.kept;
    }

pub loop-place-preserved : goal.loop-place-preserved
loop-place-preserved c =
    let ids = c.args.ids.now.ids in
    let count = c.args.ids.now.count in
    let clients = take count ids in
    let place = c.loop-place.place in
    let most = c.args.ids.now.at_most_eight in
    let within : place < count = omega (arith, c.loop-place-test.true, c.from-place-end.ensures) in
    let long : count ≤ length ids = omega (arith, most) in
    let on : drop place clients ≡ get_or ids place 0 ∷ drop (place + 1) clients =
    drop_more clients place 0 (omega (arith, within, length-take-le count ids long))
    ∙ ap (λ (id : ℕ). id ∷ drop (place + 1) clients) (get_or-take count ids place 0 within) in
    record {
      off = c.cancel_next.ensures.does (drop (place + 1) clients)
          ∙ ap (λ (cs : List ℕ). without_all (taken_by_all cs (map resting_of c.loop-place.state.listed.items)) (eager_of c.loop-place.state)) (sym on)
          ∙ c.loop-place.invariant.off;
      kept = λ bound kept. c.cancel_next.ensures.kept bound (c.loop-place.invariant.kept bound kept);
    }

pub returns-clause-does : goal.returns-clause-does
returns-clause-does c =
    let ids = c.args.ids.now.ids in
    let count = c.args.ids.now.count in
    let most = c.args.ids.now.at_most_eight in
    let long : count ≤ length ids = omega (arith, most) in
    let end : length (take count ids) ≤ c.loop-place.place = omega (arith, length-take-le count ids long, c.loop-place-test.false, c.from-place-end.ensures) in
    sym (ap (λ (cs : List ℕ). without_all (taken_by_all cs (map resting_of c.loop-place.state.listed.items)) (eager_of c.loop-place.state))
    (drop_all c.loop-place.place (take count ids) end))
    ∙ c.loop-place.invariant.off

pub returns-clause-kept : goal.returns-clause-kept
returns-clause-kept c = c.loop-place.invariant.kept
