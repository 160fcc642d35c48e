-- what is left of the sides and of the event queue when orders leave
use Rattle.std.proofs.Common.{length-append, ℕ, ◌+◌, ◌≤◌, ◌<◌, ◌^◌, ◌≡◌, List, [], ◌∷◌, ◌++◌, Some, length, refl, sym, ap, ◌∙◌, subst, arith}
use Rattle.std.specs.List.{All}
use Rattle.std.proofs.lemmas.Bool.{cond_both}
use Rattle.std.proofs.lemmas.List.Elements.{All-head}
use Rattle.dex_types.specs.declared.addresses.Address.{Address}
use Rattle.dex_types.specs.declared.orders.Order.{Order}
use Rattle.dex_types.specs.declared.terms.Lots.{Lots}
use Rattle.dex_types.specs.declared.terms.Side.{Side}
use Rattle.dex_types.specs.declared.terms.Side.TheVariants.{Bid, Ask}
use Rattle.dex_types.specs.Cancel.{RestingOrder, order_with, without_order, all_orders_of, without_taken, cancel_one, after_cancels}
use Rattle.dex_types.specs.Market.{Market}
use Rattle.dex_types.specs.Owed.{order_lock}
use Rattle.dex_types.specs.Side.{by_side}
use Rattle.dex_types.specs.Tokens.{is_same_side}
use Rattle.dex_ring.specs.StandsFor.{ring_of_market}
use Rattle.dex_sound.proofs.WithoutLaws.{All-without}
use Rattle.dex_cancel.specs.TakenOff.{DoLocksFit, DoRest, Queue, out_of, outs_of, queue_of, without_one, without_all, with_out, with_outs}
use Rattle.dex_ring.specs.Appended.{HasRoom, appended, pushed_all}
use Rattle.dex_ring.specs.Ring.{Ring, ring_of}
use Rattle.dex_cancel.proofs.OwnLaws.{IsMine, all-without}
use Rattle.dex_cancel.proofs.WalkSteps.{on}

-- an order of the side leaves it
pub without-on : (side : Side) (order : Order) (orders : List Order) → without_all side (on side order ∷ []) orders ≡ without_order order.id orders
without-on Bid order orders = refl
without-on Ask order orders = refl

-- a queue by what its bytes say and these
pub queue-by : (bytes now : List ℕ) (list : Ring) → ring_of bytes ≡ list → bytes ≡ now → queue_of bytes ≡ (let made : Queue = record { list = list; bytes = now } in made)
queue-by bytes now list says is =
    let made : Ring → List ℕ → Queue = λ r b. record { list = r; bytes = b } in
    ap (λ r. made r bytes) says ∙ ap (made list) is

-- one after the other
pub without_all-append : (side : Side) (gone later : List RestingOrder) (orders : List Order) → without_all side (gone ++ later) orders ≡ without_all side later (without_all side gone orders)
without_all-append side [] later orders = refl
without_all-append side (first ∷ gone) later orders = without_all-append side gone later (without_one side first orders)

pub with_outs-append : (sizes : Lots) (gone later : List RestingOrder) (ring : Queue) → with_outs sizes (gone ++ later) ring ≡ with_outs sizes later (with_outs sizes gone ring)
with_outs-append sizes [] later ring = refl
with_outs-append sizes (first ∷ gone) later ring = with_outs-append sizes gone later (with_out sizes first ring)

-- an out for each
pub length-with_outs : (sizes : Lots) (gone : List RestingOrder) (ring : Queue) → length (with_outs sizes gone ring).list.events ≡ length ring.list.events + length gone
length-with_outs sizes [] ring = omega arith
length-with_outs sizes (first ∷ gone) ring =
    omega (arith, length-with_outs sizes gone (with_out sizes first ring), length-append ring.list.events (out_of sizes first ∷ []))

pub capacity-with_outs : (sizes : Lots) (gone : List RestingOrder) (ring : Queue) → (with_outs sizes gone ring).list.capacity ≡ ring.list.capacity
capacity-with_outs sizes [] ring = refl
capacity-with_outs sizes (first ∷ gone) ring = capacity-with_outs sizes gone (with_out sizes first ring)

-- the bytes with them
pub bytes-with_outs : (sizes : Lots) (gone : List RestingOrder) (ring : Queue) → (with_outs sizes gone ring).bytes ≡ pushed_all (outs_of sizes gone) ring.bytes
bytes-with_outs sizes [] ring = refl
bytes-with_outs sizes (first ∷ gone) ring = bytes-with_outs sizes gone (with_out sizes first ring)

-- and the list, which does not depend on the bytes
pub list-with_outs : (sizes : Lots) (gone : List RestingOrder) (ring other : Queue) → ring.list ≡ other.list → (with_outs sizes gone ring).list ≡ (with_outs sizes gone other).list
list-with_outs sizes [] ring other same = same
list-with_outs sizes (first ∷ gone) ring other same =
    list-with_outs sizes gone (with_out sizes first ring) (with_out sizes first other) (ap (appended (out_of sizes first ∷ [])) same)

-- what holds of each order holds of each that is left
pub All-without_all : (P : Order → Type 0) (side : Side) (gone : List RestingOrder) (orders : List Order) → All P orders → All P (without_all side gone orders)
All-without_all P side [] orders all = all
All-without_all P side (first ∷ gone) orders all =
    All-without_all P side gone (without_one side first orders)
    (cond_both (is_same_side side first.side) (without_order first.order.id orders) orders (All P) (λ same. All-without P first.order.id orders all) (λ other. all))

pub DoLocksFit-without_all : (sizes : Lots) (gone : List RestingOrder) (bids asks : List Order) → DoLocksFit sizes bids asks
    → DoLocksFit sizes (without_all Bid gone bids) (without_all Ask gone asks)
DoLocksFit-without_all sizes gone bids asks fit =
    (All-without_all (λ (o : Order). order_lock Bid sizes o < 2 ^ 64) Bid gone bids fit.0, All-without_all (λ (o : Order). order_lock Ask sizes o < 2 ^ 64) Ask gone asks fit.1)

-- an order that rests on a side is found there
pub rests-there : (resting : RestingOrder) (side : Side) (bids asks : List Order) → DoRest (resting ∷ []) bids asks → resting.side ≡ side
    → order_with resting.order.id (by_side side bids asks) ≡ Some resting.order
rests-there resting side bids asks rest is =
    subst (λ s. order_with resting.order.id (by_side s bids asks) ≡ Some resting.order) is
    (All-head (λ (r : RestingOrder). order_with r.order.id (by_side r.side bids asks) ≡ Some r.order) resting [] rest)

-- the market's sides and events
abbrev pub market_queue : Market → Queue
market_queue m = record { list = ring_of_market m; bytes = [] }

pub market-left : (gone : List RestingOrder) (m : Market) → after_cancels gone m ≡ record m {
  bids = without_all Bid gone m.bids;
  asks = without_all Ask gone m.asks;
  events = (with_outs m.listing.sizes gone (market_queue m)).list.events;
  events_appended = (with_outs m.listing.sizes gone (market_queue m)).list.seq_num;
}
market-left [] m = refl
market-left (first ∷ gone) m = by first.side first.order gone m (market-left gone (cancel_one first m))
  where
    same : (order : RestingOrder) (gone : List RestingOrder) (m : Market) → ring_of_market (cancel_one order m) ≡ appended (out_of m.listing.sizes order ∷ []) (ring_of_market m)
        → (with_outs m.listing.sizes gone (market_queue (cancel_one order m))).list ≡ (with_outs m.listing.sizes (order ∷ gone) (market_queue m)).list
    same order gone m is = list-with_outs m.listing.sizes gone (market_queue (cancel_one order m)) (with_out m.listing.sizes order (market_queue m)) is

    by : (side : Side) (order : Order) (gone : List RestingOrder) (m : Market)
        → after_cancels gone (cancel_one (on side order) m) ≡ record (cancel_one (on side order) m) {
          bids = without_all Bid gone (cancel_one (on side order) m).bids;
          asks = without_all Ask gone (cancel_one (on side order) m).asks;
          events = (with_outs m.listing.sizes gone (market_queue (cancel_one (on side order) m))).list.events;
          events_appended = (with_outs m.listing.sizes gone (market_queue (cancel_one (on side order) m))).list.seq_num;
        }
        → after_cancels (on side order ∷ gone) m ≡ record m {
          bids = without_all Bid (on side order ∷ gone) m.bids;
          asks = without_all Ask (on side order ∷ gone) m.asks;
          events = (with_outs m.listing.sizes (on side order ∷ gone) (market_queue m)).list.events;
          events_appended = (with_outs m.listing.sizes (on side order ∷ gone) (market_queue m)).list.seq_num;
        }
    by Bid order gone m held =
        let made : Ring → Market = λ r. record m { bids = without_all Bid gone (without_order order.id m.bids); asks = without_all Ask gone m.asks; events = r.events; events_appended = r.seq_num } in
        held ∙ ap made (same (on Bid order) gone m refl)
    by Ask order gone m held =
        let made : Ring → Market = λ r. record m { bids = without_all Bid gone m.bids; asks = without_all Ask gone (without_order order.id m.asks); events = r.events; events_appended = r.seq_num } in
        held ∙ ap made (same (on Ask order) gone m refl)

-- some of an owner's orders left, and these are left
pub record IsLeft (sizes : Lots) (owner : Address) (gone left : List RestingOrder) (bids asks : List Order) (ring : Queue) (bids_now asks_now : List Order) (ring_now : Queue) : Type 0 where
  pub bids_are : bids_now ≡ without_all Bid gone bids
  pub asks_are : asks_now ≡ without_all Ask gone asks
  pub ring_is : ring_now ≡ with_outs sizes gone ring
  pub rest : all_orders_of owner bids_now asks_now ≡ left

-- and then one more
pub left-more : (sizes : Lots) (owner : Address) (gone left : List RestingOrder) (bids asks : List Order) (ring : Queue) (bids_now asks_now : List Order) (ring_now : Queue)
    (resting : RestingOrder) (bids_then asks_then : List Order) (ring_then : Queue)
    → IsLeft sizes owner gone left bids asks ring bids_now asks_now ring_now → IsMine owner bids_now asks_now resting
    → bids_then ≡ without_all Bid (resting ∷ []) bids_now → asks_then ≡ without_all Ask (resting ∷ []) asks_now → ring_then ≡ with_outs sizes (resting ∷ []) ring_now
    → IsLeft sizes owner (gone ++ resting ∷ []) (without_taken (Some resting) left) bids asks ring bids_then asks_then ring_then
left-more sizes owner gone left bids asks ring bids_now asks_now ring_now resting bids_then asks_then ring_then held mine bids_is asks_is ring_is = record {
  bids_are = bids_is ∙ ap (without_all Bid (resting ∷ [])) held.bids_are ∙ sym (without_all-append Bid gone (resting ∷ []) bids);
  asks_are = asks_is ∙ ap (without_all Ask (resting ∷ [])) held.asks_are ∙ sym (without_all-append Ask gone (resting ∷ []) asks);
  ring_is = ring_is ∙ ap (with_outs sizes (resting ∷ [])) held.ring_is ∙ sym (with_outs-append sizes gone (resting ∷ []) ring);
  rest =
      ap (λ os. all_orders_of owner os asks_then) bids_is
      ∙ ap (all_orders_of owner (without_all Bid (resting ∷ []) bids_now)) asks_is
      ∙ all-without owner resting bids_now asks_now mine
      ∙ ap (without_taken (Some resting)) held.rest;
}

-- locks still fit
pub locks-now : (sizes : Lots) (owner : Address) (gone left : List RestingOrder) (bids asks : List Order) (ring : Queue) (bids_now asks_now : List Order) (ring_now : Queue)
    → IsLeft sizes owner gone left bids asks ring bids_now asks_now ring_now → DoLocksFit sizes bids asks → DoLocksFit sizes bids_now asks_now
locks-now sizes owner gone left bids asks ring bids_now asks_now ring_now held fit =
    subst (λ os. DoLocksFit sizes os asks_now) (sym held.bids_are) (subst (DoLocksFit sizes (without_all Bid gone bids)) (sym held.asks_are) (DoLocksFit-without_all sizes gone bids asks fit))

-- and there is room for the outs of more of them
pub room-now : (sizes : Lots) (gone more all : List RestingOrder) (ring ring_now : Queue) → ring_now ≡ with_outs sizes gone ring → HasRoom (length all) ring.list
    → length gone + length more ≤ length all → HasRoom (length more) ring_now.list
room-now sizes gone more all ring ring_now is room fit =
    omega (arith, room, fit, ap (λ (q : Queue). length q.list.events) is, ap (λ (q : Queue). q.list.capacity) is, length-with_outs sizes gone ring, capacity-with_outs sizes gone ring)
