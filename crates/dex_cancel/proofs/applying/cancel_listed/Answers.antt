use Rattle.std.proofs.Common.{◌≡◌, ◌+◌, ◌<◌, length, take, get_or, sym, ap, ◌∙◌, subst, arith}
use Rattle.dex_types.specs.Cancel.{all_orders_of, at_most_one, taken_by, taken_by_all}
use Rattle.dex_cancel.specs.Finding.{maybe_resting}
use Rattle.dex_cancel.specs.TakenOff.{CanLeave, DoRest, HaveLeft, handed, queue_of}
use Rattle.dex_cancel.proofs.TakenOffLaws.{IsLeft, locks-now, room-now}
use Rattle.dex_cancel.proofs.ListedLaws.{left_after, next-id, length-next, length-at_most_one, listed-more, listed-within}
use Rattle.dex_cancel.proofs.OwnLaws.{all-mine, taken-rests}
use Rattle.dex_cancel.proofs.applying.cancel_listed.Goals as goal

pub cancel_maybe-count-requires-clause-can : goal.cancel_maybe-count-requires-clause-can
cancel_maybe-count-requires-clause-can g c =
    let all = all_orders_of c.args.account (g.B.SideRead.orders c.args.bids.now) (g.A.SideRead.orders c.args.asks.now) in
    let now = all_orders_of c.args.account (g.B.SideRead.orders c.loop-place.bids) (g.A.SideRead.orders c.loop-place.asks) in
    let held = c.loop-place.invariant in
    let ids = c.args.ids.now.ids in
    let place = c.loop-place.place in
    let clients = take c.args.ids.now.count ids in
    let client = get_or ids place 0 in
    let told = c.told-ids in
    let most = c.args.ids.now.at_most_eight in
    let within : place < c.args.ids.now.count = omega (arith, c.loop-place-test.true, c.from-place-end.ensures) in
    let more = length-next clients place client all (next-id ids c.args.ids.now.count place within (omega (arith, most, told))) in
    subst (λ one. CanLeave (at_most_one one) (handed c.args.sizes g.B.SideRead.orders g.A.SideRead.orders c.loop-place.bids c.loop-place.asks c.loop-place.ring)) (sym c.find_named-found.ensures) (record {
      accepted = held.accepted;
      locks =
          locks-now c.args.sizes c.args.account _ _ (g.B.SideRead.orders c.args.bids.now) (g.A.SideRead.orders c.args.asks.now) (queue_of c.args.ring.now.bytes.now)
          (g.B.SideRead.orders c.loop-place.bids) (g.A.SideRead.orders c.loop-place.asks) (queue_of c.loop-place.ring.bytes.now) held.left c.requires.can.locks;
      room =
          room-now c.args.sizes (taken_by_all (take place clients) all) (at_most_one (taken_by client now)) (taken_by_all clients all) (queue_of c.args.ring.now.bytes.now)
          (queue_of c.loop-place.ring.bytes.now) held.left.ring_is c.requires.can.room
          (omega (arith, more, listed-within clients (place + 1) all, ap (λ os. length (at_most_one (taken_by client os))) held.left.rest));
    })

pub cancel_maybe-count-requires-clause-rests : goal.cancel_maybe-count-requires-clause-rests
cancel_maybe-count-requires-clause-rests g c =
    let bids = g.B.SideRead.orders c.loop-place.bids in
    let asks = g.A.SideRead.orders c.loop-place.asks in
    let bids_held = g.met.B.SideRead.is_book_side c.loop-place.bids c.loop-place.invariant.bids.holding in
    let asks_held = g.met.A.SideRead.is_book_side c.loop-place.asks c.loop-place.invariant.asks.holding in
    subst (λ one. DoRest (at_most_one one) bids asks) (sym c.find_named-found.ensures)
    (taken-rests c.args.account (get_or c.args.ids.now.ids c.loop-place.place 0) bids asks (all-mine c.args.account _ _ bids asks bids_held.in_order asks_held.in_order))

pub overflow_add-count : goal.overflow_add-count
overflow_add-count g c =
    let most = c.args.ids.now.at_most_eight in
    omega (
      arith,
      c.loop-place.invariant.most,
      c.loop-place-test.true,
      c.from-place-end.ensures,
      most,
      c.cancel_maybe-count.ensures.count,
      length-at_most_one (maybe_resting c.find_named-found.result),
    )

pub loop-place-preserved : goal.loop-place-preserved
loop-place-preserved g c =
    let first_bids = g.B.SideRead.orders c.args.bids.now in
    let first_asks = g.A.SideRead.orders c.args.asks.now in
    let first_ring = queue_of c.args.ring.now.bytes.now in
    let all = all_orders_of c.args.account first_bids first_asks in
    let bids = g.B.SideRead.orders c.loop-place.bids in
    let asks = g.A.SideRead.orders c.loop-place.asks in
    let now = all_orders_of c.args.account bids asks in
    let held = c.loop-place.invariant in
    let ids = c.args.ids.now.ids in
    let place = c.loop-place.place in
    let clients = take c.args.ids.now.count ids in
    let client = get_or ids place 0 in
    let told = c.told-ids in
    let most = c.args.ids.now.at_most_eight in
    let within : place < c.args.ids.now.count = omega (arith, c.loop-place-test.true, c.from-place-end.ensures) in
    let next = next-id ids c.args.ids.now.count place within (omega (arith, most, told)) in
    let bids_held = g.met.B.SideRead.is_book_side c.loop-place.bids held.bids.holding in
    let asks_held = g.met.A.SideRead.is_book_side c.loop-place.asks held.asks.holding in
    let new_bids = g.B.SideRead.orders c.cancel_maybe-count.new.bids in
    let new_asks = g.A.SideRead.orders c.cancel_maybe-count.new.asks in
    let new_ring = queue_of c.cancel_maybe-count.new.ring.bytes.now in
    let after = c.cancel_maybe-count.ensures in
    let before = handed c.args.sizes g.B.SideRead.orders g.A.SideRead.orders c.loop-place.bids c.loop-place.asks c.loop-place.ring in
    let now_left = handed c.args.sizes g.B.SideRead.orders g.A.SideRead.orders c.cancel_maybe-count.new.bids c.cancel_maybe-count.new.asks c.cancel_maybe-count.new.ring in
    let left = subst (λ one. HaveLeft (at_most_one one) before now_left) c.find_named-found.ensures after.left in
    let counted = subst (λ one. c.cancel_maybe-count.result ≡ length (at_most_one one)) c.find_named-found.ensures after.count in
    let more = listed-more c.args.sizes c.args.account (take place clients) client all first_bids first_asks first_ring bids asks (queue_of c.loop-place.ring.bytes.now)
    new_bids new_asks new_ring held.left (all-mine c.args.account _ _ bids asks bids_held.in_order asks_held.in_order) left.bids left.asks left.queue in
    let one = ap (λ os. length (at_most_one (taken_by client os))) held.left.rest in
    record {
      left =
          subst (λ cs. IsLeft c.args.sizes c.args.account (taken_by_all cs all) (left_after cs all) first_bids first_asks first_ring new_bids new_asks new_ring) (sym next) more;
      count = omega (arith, held.count, counted, one, length-next clients place client all next);
      most = omega (arith, held.most, counted, length-at_most_one (taken_by client now));
      accepted = left.accepted;
      bids = record {
        holding = after.bids.holding;
        place = g.met.B.SideBook.chains _ _ _ held.bids.place after.bids.place;
        side = after.bids.side ∙ held.bids.side;
        room = after.bids.room ∙ held.bids.room;
      };
      asks = record {
        holding = after.asks.holding;
        place = g.met.A.SideBook.chains _ _ _ held.asks.place after.asks.place;
        side = after.asks.side ∙ held.asks.side;
        room = after.asks.room ∙ held.asks.room;
      };
      ring_place = after.place ∙ held.ring_place;
    }
