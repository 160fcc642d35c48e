use Rattle.std.proofs.Common.{ℕ, suc, List, Option, ◌≡◌, ◌∙◌, ◌+◌, length, map, min, slice_get, take, ap, sym, arith}
use Rattle.std.proofs.lemmas.List.{length-map, take_min}
use Rattle.std.proofs.lemmas.Option.{slice_get-map}
use Rattle.dex_types.specs.Cancel.{RestingOrder, all_orders_of, at_most_one}
use Rattle.dex_eager.specs.Eager.{Eager, without_all}
use Rattle.dex_eager_market.specs.declared.listing.Resting.{Resting}
use Rattle.dex_eager_market.specs.Listing.{resting_of, resting_there}
use Rattle.dex_eager_market.specs.States.{eager_of}
use Rattle.dex_eager_market.proofs.Cancels.{all-next}
use Rattle.dex_eager_market.proofs.cancelling.cancel_first.Goals as goal

pub loop-place-init : goal.loop-place-init
loop-place-init c = record { off = c.list_orders.ensures.same; listed = c.list_orders.ensures.listed; kept = c.list_orders.ensures.kept }

pub loop-place-preserved : goal.loop-place-preserved
loop-place-preserved c =
    let e : Eager = eager_of c.args.state.now in
    let all = all_orders_of c.args.owner e.bids e.asks in
    let place = c.loop-place.place in
    let found = c.resting_at-found.result in
    let found_is : resting_there found ≡ slice_get all place =
    ap resting_there (c.resting_at-found.ensures ∙ ap (λ (l : List Resting). slice_get l place) c.deref.ensures.value) ∙ sym (slice_get-map resting_of c.loop-place.state.listed.items place)
    ∙ ap (λ (l : List RestingOrder). slice_get l place) c.loop-place.invariant.listed in
    let next : suc place ≡ place + 1 = omega arith in
    record {
      off = c.take_found.ensures.off ∙ ap (λ (m : Eager). without_all (at_most_one (resting_there found)) m) c.loop-place.invariant.off
          ∙ ap (λ (g : Option RestingOrder). without_all (at_most_one g) (without_all (take place all) e)) found_is ∙ all-next all place e
          ∙ ap (λ (n : ℕ). without_all (take n all) e) next;
      listed = ap (map resting_of) c.take_found.ensures.listed ∙ c.loop-place.invariant.listed;
      kept = λ bound kept. c.take_found.ensures.kept bound (c.loop-place.invariant.kept bound kept);
    }

pub returns-clause-does : goal.returns-clause-does
returns-clause-does c =
    let e : Eager = eager_of c.args.state.now in
    let all = all_orders_of c.args.owner e.bids e.asks in
    let listed = c.list_orders.new.state.listed.items in
    let long : length listed ≡ length all = sym (length-map listed resting_of) ∙ ap length c.list_orders.ensures.listed in
    let count : c.loop-place.place ≡ min c.args.limit (length all) = omega (arith, long) in
    c.loop-place.invariant.off ∙ ap (λ (l : List RestingOrder). without_all l e) (ap (λ (n : ℕ). take n all) count ∙ take_min c.args.limit all)

pub returns-clause-kept : goal.returns-clause-kept
returns-clause-kept c = c.loop-place.invariant.kept
