use Rattle.std.proofs.Common.{ℕ, Option, None, ◌≢◌, ◌≡◌, ◌+◌, ◌-◌, ◌<◌, List, length, length-append, take, get_or, sym, ap, ◌∙◌, subst, arith}
use Rattle.std.proofs.lemmas.Bool.{cond-true, cond-false, eq-eqb, ne_eqb}
use Rattle.std.proofs.lemmas.List.{length-take}
use Rattle.dex_types.specs.declared.terms.Side.TheVariants.{Bid, Ask}
use Rattle.dex_types.specs.Cancel.{RestingOrder, all_orders_of, at_most_one, oldest, orders_of, taken_by, taken_by_all}
use Rattle.dex_cancel.specs.Cancelling.{named_by}
use Rattle.dex_cancel.specs.declared.found.Found.{Found}
use Rattle.dex_cancel.specs.Parts.{named_in}
use Rattle.dex_cancel.specs.Finding.{maybe_resting}
use Rattle.dex_cancel.specs.TakenOff.{CanLeave, DoRest, handed, queue_of, with_outs, without_all}
use Rattle.dex_cancel.proofs.TakenOffLaws.{IsLeft, locks-now, room-now}
use Rattle.dex_cancel.proofs.ListedLaws.{left_after, next-id, length-next, length-at_most_one, listed-more, listed-within}
use Rattle.dex_cancel.proofs.OwnLaws.{all-mine, oldest-rests, taken-rests}
use Rattle.dex_cancel.proofs.PruneLaws.{asks_of_first, asks_of_first-left, bids-pruned, asks-pruned, outs-pruned}
use Rattle.dex_cancel_slots.specs.Cancels.{HaveLeftSo}
use Rattle.dex_cancel_slots.specs.Given.{slots_in}
use Rattle.dex_cancel_slots.proofs.PremiseLaws.{names-now}
use Rattle.dex_cancel_slots.proofs.applying.cancel_all.Goals as goal
use Rattle.dex_cancel_slots.proofs.applying.cancel_all.Goals.{then-client-eq0, else-client-eq0}

pub cancel_maybe-requires-clause-rests : goal.cancel_maybe-requires-clause-rests
cancel_maybe-requires-clause-rests g c =
    let bids = g.B.SideRead.orders c.args.bids.now in
    let asks = g.A.SideRead.orders c.args.asks.now in
    let bids_held = g.met.B.SideRead.is_book_side c.args.bids.now c.requires.bids in
    let asks_held = g.met.A.SideRead.is_book_side c.args.asks.now c.requires.asks in
    subst (λ gone. DoRest gone bids asks) (sym (ap at_most_one c.find_oldest-found.ensures))
    (oldest-rests c.args.owner.account c.in-ByClient.client bids asks (all-mine c.args.owner.account _ _ bids asks bids_held.in_order asks_held.in_order))

pub find_oldest-found-requires-else-client-eq0-clause-names : goal.find_oldest-found-requires-else-client-eq0-clause-names
find_oldest-found-requires-else-client-eq0-clause-names g c =
    names-now c.args.owner.account (slots_in c.args.owner.orders) c.args.sizes _ _ (g.B.SideRead.orders c.args.bids.now) (g.A.SideRead.orders c.args.asks.now)
    (queue_of c.args.ring.now.bytes.now) (g.B.SideRead.orders c.loop-place.bids) (g.A.SideRead.orders c.loop-place.asks) (queue_of c.loop-place.ring.bytes.now)
    c.loop-place.invariant.left c.requires.names

-- what a client id of a list takes, where it is 0 and where it is not
taken-none : (client : ℕ) (resting : List RestingOrder) (found : Option Found) → client ≡ 0 → found ≡ None → maybe_resting found ≡ taken_by client resting
taken-none client resting found zero_id none = ap maybe_resting none ∙ sym (cond-true _ _ _ (eq-eqb client 0 zero_id))

taken-some : (client : ℕ) (resting : List RestingOrder) (found some : Option Found) → client ≢ 0 → found ≡ some → maybe_resting some ≡ oldest client resting
    → maybe_resting found ≡ taken_by client resting
taken-some client resting found some named is oldest_is = ap maybe_resting is ∙ oldest_is ∙ sym (cond-false _ _ _ (ne_eqb client 0 named))

pub cancel_maybe-count-requires-clause-can : goal.cancel_maybe-count-requires-clause-can
cancel_maybe-count-requires-clause-can g c =
    let named : maybe_resting c.if-client-eq0.found ≡ taken_by (get_or c.in-ByClients.ids.ids c.loop-place.place 0)
    (all_orders_of c.args.owner.account (g.B.SideRead.orders c.loop-place.bids) (g.A.SideRead.orders c.loop-place.asks)) =
    elim c.if-client-eq0.branch [
      | then-client-eq0 w ↦ taken-none _ _ _ w.if-client-eq0.true w.found-is
      | else-client-eq0 w ↦ taken-some _ _ _ _ w.if-client-eq0.false w.found-is w.find_oldest-found-else-client-eq0.ensures
    ] in
    let before = handed c.args.sizes g.B.SideRead.orders g.A.SideRead.orders c.args.bids.now c.args.asks.now c.args.ring.now in
    let can = subst (λ what. CanLeave (named_in (named_by what) c.args.owner.account before) before) c.in-ByClients.is c.requires.can in
    let all = all_orders_of c.args.owner.account (g.B.SideRead.orders c.args.bids.now) (g.A.SideRead.orders c.args.asks.now) in
    let now = all_orders_of c.args.owner.account (g.B.SideRead.orders c.loop-place.bids) (g.A.SideRead.orders c.loop-place.asks) in
    let held = c.loop-place.invariant in
    let ids = c.in-ByClients.ids.ids in
    let place = c.loop-place.place in
    let clients = take c.in-ByClients.ids.count ids in
    let client = get_or ids place 0 in
    let most = c.in-ByClients.ids.at_most_eight in
    let within : place < c.in-ByClients.ids.count = omega (arith, c.loop-place-test.true, c.from-place-end.ensures) in
    let more = length-next clients place client all (next-id ids c.in-ByClients.ids.count place within (omega (arith, most))) in
    subst (λ one. CanLeave (at_most_one one) (handed c.args.sizes g.B.SideRead.orders g.A.SideRead.orders c.loop-place.bids c.loop-place.asks c.loop-place.ring)) (sym named) (record {
      accepted = held.accepted;
      locks =
          locks-now c.args.sizes c.args.owner.account _ _ (g.B.SideRead.orders c.args.bids.now) (g.A.SideRead.orders c.args.asks.now) (queue_of c.args.ring.now.bytes.now)
          (g.B.SideRead.orders c.loop-place.bids) (g.A.SideRead.orders c.loop-place.asks) (queue_of c.loop-place.ring.bytes.now) held.left can.locks;
      room =
          room-now c.args.sizes (taken_by_all (take place clients) all) (at_most_one (taken_by client now)) (taken_by_all clients all) (queue_of c.args.ring.now.bytes.now)
          (queue_of c.loop-place.ring.bytes.now) held.left.ring_is can.room
          (omega (arith, more, listed-within clients (place + 1) all, ap (λ os. length (at_most_one (taken_by client os))) held.left.rest));
    })

pub cancel_maybe-count-requires-clause-rests : goal.cancel_maybe-count-requires-clause-rests
cancel_maybe-count-requires-clause-rests g c =
    let named : maybe_resting c.if-client-eq0.found ≡ taken_by (get_or c.in-ByClients.ids.ids c.loop-place.place 0)
    (all_orders_of c.args.owner.account (g.B.SideRead.orders c.loop-place.bids) (g.A.SideRead.orders c.loop-place.asks)) =
    elim c.if-client-eq0.branch [
      | then-client-eq0 w ↦ taken-none _ _ _ w.if-client-eq0.true w.found-is
      | else-client-eq0 w ↦ taken-some _ _ _ _ w.if-client-eq0.false w.found-is w.find_oldest-found-else-client-eq0.ensures
    ] in
    let bids = g.B.SideRead.orders c.loop-place.bids in
    let asks = g.A.SideRead.orders c.loop-place.asks in
    let bids_held = g.met.B.SideRead.is_book_side c.loop-place.bids c.loop-place.invariant.bids.holding in
    let asks_held = g.met.A.SideRead.is_book_side c.loop-place.asks c.loop-place.invariant.asks.holding in
    subst (λ one. DoRest (at_most_one one) bids asks) (sym named)
    (taken-rests c.args.owner.account (get_or c.in-ByClients.ids.ids c.loop-place.place 0) bids asks (all-mine c.args.owner.account _ _ bids asks bids_held.in_order asks_held.in_order))

pub loop-place-preserved : goal.loop-place-preserved
loop-place-preserved g c =
    let named : maybe_resting c.if-client-eq0.found ≡ taken_by (get_or c.in-ByClients.ids.ids c.loop-place.place 0)
    (all_orders_of c.args.owner.account (g.B.SideRead.orders c.loop-place.bids) (g.A.SideRead.orders c.loop-place.asks)) =
    elim c.if-client-eq0.branch [
      | then-client-eq0 w ↦ taken-none _ _ _ w.if-client-eq0.true w.found-is
      | else-client-eq0 w ↦ taken-some _ _ _ _ w.if-client-eq0.false w.found-is w.find_oldest-found-else-client-eq0.ensures
    ] in
    let first_bids = g.B.SideRead.orders c.args.bids.now in
    let first_asks = g.A.SideRead.orders c.args.asks.now in
    let first_ring = queue_of c.args.ring.now.bytes.now in
    let all = all_orders_of c.args.owner.account first_bids first_asks in
    let bids = g.B.SideRead.orders c.loop-place.bids in
    let asks = g.A.SideRead.orders c.loop-place.asks in
    let now = all_orders_of c.args.owner.account bids asks in
    let held = c.loop-place.invariant in
    let ids = c.in-ByClients.ids.ids in
    let place = c.loop-place.place in
    let clients = take c.in-ByClients.ids.count ids in
    let client = get_or ids place 0 in
    let most = c.in-ByClients.ids.at_most_eight in
    let within : place < c.in-ByClients.ids.count = omega (arith, c.loop-place-test.true, c.from-place-end.ensures) in
    let next = next-id ids c.in-ByClients.ids.count place within (omega (arith, most)) in
    let bids_held = g.met.B.SideRead.is_book_side c.loop-place.bids held.bids.holding in
    let asks_held = g.met.A.SideRead.is_book_side c.loop-place.asks held.asks.holding in
    let new_bids = g.B.SideRead.orders c.cancel_maybe-count.new.bids in
    let new_asks = g.A.SideRead.orders c.cancel_maybe-count.new.asks in
    let new_ring = queue_of c.cancel_maybe-count.new.ring.bytes.now in
    let after = c.cancel_maybe-count.ensures in
    let does = subst (λ one. HaveLeftSo (at_most_one one) (handed c.args.sizes g.B.SideRead.orders g.A.SideRead.orders c.loop-place.bids c.loop-place.asks c.loop-place.ring)
    (handed c.args.sizes g.B.SideRead.orders g.A.SideRead.orders c.cancel_maybe-count.new.bids c.cancel_maybe-count.new.asks c.cancel_maybe-count.new.ring) c.cancel_maybe-count.result)
    named (record { count = after.count; left = after.left }) in
    let more = listed-more c.args.sizes c.args.owner.account (take place clients) client all first_bids first_asks first_ring bids asks (queue_of c.loop-place.ring.bytes.now)
    new_bids new_asks new_ring held.left (all-mine c.args.owner.account _ _ bids asks bids_held.in_order asks_held.in_order) does.left.bids does.left.asks does.left.queue in
    let one = ap (λ os. length (at_most_one (taken_by client os))) held.left.rest in
    record {
      left =
          subst (λ cs. IsLeft c.args.sizes c.args.owner.account (taken_by_all cs all) (left_after cs all) first_bids first_asks first_ring new_bids new_asks new_ring) (sym next) more;
      count = omega (arith, held.count, does.count, one, length-next clients place client all next);
      most = omega (arith, held.most, does.count, length-at_most_one (taken_by client now));
      accepted = does.left.accepted;
      bids = record {
        holding = after.bids.holding;
        place = g.met.B.SideBook.chains _ _ _ held.bids.place after.bids.place;
        side = after.bids.side ∙ held.bids.side;
        room = after.bids.room ∙ held.bids.room;
      };
      asks = record {
        holding = after.asks.holding;
        place = g.met.A.SideBook.chains _ _ _ held.asks.place after.asks.place;
        side = after.asks.side ∙ held.asks.side;
        room = after.asks.room ∙ held.asks.room;
      };
      ring_place = after.place ∙ held.ring_place;
    }

pub prune_side-taken-requires-clause-names : goal.prune_side-taken-requires-clause-names
prune_side-taken-requires-clause-names g c = c.requires.names.on Bid

pub prune_side-requires-clause-names : goal.prune_side-requires-clause-names
prune_side-requires-clause-names g c = c.requires.names.on Ask

pub prune_side-requires-clause-can : goal.prune_side-requires-clause-can
prune_side-requires-clause-can g c =
    let before = handed c.args.sizes g.B.SideRead.orders g.A.SideRead.orders c.args.bids.now c.args.asks.now c.args.ring.now in
    let can = subst (λ what. CanLeave (named_in (named_by what) c.args.owner.account before) before) c.in-Prune.is c.requires.can in
    let bids = g.B.SideRead.orders c.args.bids.now in
    let asks = g.A.SideRead.orders c.args.asks.now in
    let own = orders_of c.args.owner.account Bid bids in
    let later = orders_of c.args.owner.account Ask asks in
    let most = c.from-limit.result in
    let taken = c.prune_side-taken.result in
    let bid = c.prune_side-taken.ensures in
    record {
      accepted = bid.left.accepted;
      room = room-now c.args.sizes (take most own) (take (most - taken) later) (take c.in-Prune.limit (all_orders_of c.args.owner.account bids asks)) (queue_of c.args.ring.now.bytes.now)
          (queue_of c.prune_side-taken.new.ring.bytes.now) bid.left.queue can.room
          (omega (
            arith,
            c.from-limit.ensures,
            bid.count,
            length-take most own,
            length-take (most - taken) later,
            length-take c.in-Prune.limit (all_orders_of c.args.owner.account bids asks),
            length-append own later,
          ));
    }

pub returns-in-Prune-clause-does : goal.returns-in-Prune-clause-does
returns-in-Prune-clause-does g c =
    let before = handed c.args.sizes g.B.SideRead.orders g.A.SideRead.orders c.args.bids.now c.args.asks.now c.args.ring.now in
    let after = handed c.args.sizes g.B.SideRead.orders g.A.SideRead.orders c.prune_side-taken.new.book c.prune_side.new.book c.prune_side.new.ring in
    let bids = g.B.SideRead.orders c.args.bids.now in
    let asks = g.A.SideRead.orders c.args.asks.now in
    let own = orders_of c.args.owner.account Bid bids in
    let later = orders_of c.args.owner.account Ask asks in
    let ring = queue_of c.args.ring.now.bytes.now in
    let first = c.prune_side-taken.ensures.left in
    let second = c.prune_side.ensures.left in
    let left = asks_of_first-left c.args.owner.account c.in-Prune.limit _ _ bids c.from-limit.ensures c.prune_side-taken.ensures.count in
    let outs = first.queue ∙ ap (λ n. with_outs c.args.sizes (take n own) ring) c.from-limit.ensures in
    subst (λ what. HaveLeftSo (named_in (named_by what) c.args.owner.account before) before after (c.prune_side-taken.result + c.prune_side.result)) (sym c.in-Prune.is) (record {
      count =
          omega (
            arith,
            c.from-limit.ensures,
            c.prune_side-taken.ensures.count,
            c.prune_side.ensures.count,
            length-take c.from-limit.result own,
            length-take (c.from-limit.result - c.prune_side-taken.result) later,
            length-take c.in-Prune.limit (all_orders_of c.args.owner.account bids asks),
            length-append own later,
          );
      left = record {
        bids = first.orders ∙ ap (λ n. without_all Bid (take n own) bids) c.from-limit.ensures ∙ sym (bids-pruned c.args.owner.account c.in-Prune.limit bids asks);
        asks = second.orders ∙ ap (λ n. without_all Ask (take n later) asks) left ∙ sym (asks-pruned c.args.owner.account c.in-Prune.limit bids asks);
        queue =
            second.queue
            ∙ ap (λ n. with_outs c.args.sizes (take n later) (queue_of c.prune_side-taken.new.ring.bytes.now)) left
            ∙ ap (with_outs c.args.sizes (take (asks_of_first c.args.owner.account c.in-Prune.limit bids) later)) outs
            ∙ sym (outs-pruned c.args.sizes c.args.owner.account c.in-Prune.limit bids asks ring);
        accepted = second.accepted;
      };
    })
