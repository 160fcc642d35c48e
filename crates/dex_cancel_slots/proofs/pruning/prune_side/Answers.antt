use Rattle.std.proofs.Common.{◌≡◌, ◌<◌, ◌^◌, [], ◌∷◌, length, take, refl, sym, ap, ◌∙◌, arith}
use Rattle.std.proofs.lemmas.List.{length-take, length-take-le}
use Rattle.dex_types.specs.declared.orders.Order.{Order}
use Rattle.dex_types.specs.Cancel.{orders_of}
use Rattle.dex_types.specs.Owed.{order_lock}
use Rattle.dex_sound.proofs.WithoutLaws.{found-All}
use Rattle.dex_cancel.specs.TakenOff.{queue_of, with_outs, without_all}
use Rattle.dex_cancel.proofs.TakenOffLaws.{room-now}
use Rattle.dex_cancel.proofs.WalkSteps.{on}
use Rattle.dex_cancel_slots.specs.Given.{slots_in}
use Rattle.dex_cancel_slots.proofs.PruneLaws.{fit-now, pruned-all, pruned-more, pruned-next, pruned-none}
use Rattle.dex_cancel_slots.proofs.pruning.prune_side.Goals as goal

pub slots-init : goal.slots-init
slots-init g c = record {
  pruned =
      pruned-none c.args.sizes c.args.owner.account (slots_in c.args.owner.orders) c.args.side (g.S.SideRead.orders c.args.book.now) (queue_of c.args.ring.now.bytes.now) c.requires.names;
  most = omega arith;
  accepted = c.requires.can.accepted;
  book = record { holding = c.requires.holds; place = g.met.S.SideBook.stays _; side = refl; room = refl };
  ring_place = refl;
}

pub first_own-requires-clause-names : goal.first_own-requires-clause-names
first_own-requires-clause-names g c = c.slots.invariant.pruned.names

pub first_own-requires-clause-behind : goal.first_own-requires-clause-behind
first_own-requires-clause-behind g c = c.slots.invariant.pruned.behind

pub take_off-requires-clause-rests : goal.take_off-requires-clause-rests
take_off-requires-clause-rests g c = c.in-Some.ensures.rests.rests

pub take_off-requires-clause-fits : goal.take_off-requires-clause-fits
take_off-requires-clause-fits g c =
    let first = g.S.SideRead.orders c.args.book.now in
    let now = g.S.SideRead.orders c.slots.book in
    let fit = fit-now c.args.sizes c.args.side (take c.slots.count (orders_of c.args.owner.account c.args.side first)) first now
    c.requires.locks c.slots.invariant.pruned.orders_are in
    found-All (λ (o : Order). order_lock c.args.side c.args.sizes o < 2 ^ 64) c.in-Some.order.id c.in-Some.order now c.in-Some.ensures.rests.rests fit

pub take_off-requires-clause-can : goal.take_off-requires-clause-can
take_off-requires-clause-can g c =
    let first = g.S.SideRead.orders c.args.book.now in
    let now = g.S.SideRead.orders c.slots.book in
    let held = c.slots.invariant in
    let all = orders_of c.args.owner.account c.args.side first in
    let next = pruned-next c.args.sizes c.args.owner.account (slots_in c.args.owner.orders) c.args.side c.slots.count first (queue_of c.args.ring.now.bytes.now) c.slots.last now
    (queue_of c.slots.ring.bytes.now) held.pruned c.in-Some.order c.in-Some.ensures in
    record {
      accepted = held.accepted;
      room = room-now c.args.sizes (take c.slots.count all) (on c.args.side c.in-Some.order ∷ []) (take c.args.limit all) (queue_of c.args.ring.now.bytes.now) (queue_of c.slots.ring.bytes.now)
          held.pruned.ring_is c.requires.can.room
          (omega (arith, next.within, held.most, c.slots-test.true, length-take c.slots.count all, length-take c.args.limit all));
    }

pub slots-preserved : goal.slots-preserved
slots-preserved g c =
    let held = c.slots.invariant in
    let after = c.take_off.ensures in
    record {
      pruned =
          pruned-more c.args.sizes c.args.owner.account (slots_in c.args.owner.orders) c.args.side c.slots.count (g.S.SideRead.orders c.args.book.now) (queue_of c.args.ring.now.bytes.now)
          c.slots.last (g.S.SideRead.orders c.slots.book) (queue_of c.slots.ring.bytes.now) held.pruned c.in-Some.order c.in-Some.ensures
          (g.S.SideRead.orders c.take_off.new.book) (queue_of c.take_off.new.ring.bytes.now) after.left.orders after.left.queue;
      most = omega (arith, c.slots-test.true);
      accepted = after.left.accepted;
      book = record {
        holding = after.book.holding;
        place = g.met.S.SideBook.chains _ _ _ held.book.place after.book.place;
        side = after.book.side ∙ held.book.side;
        room = after.book.room ∙ held.book.room;
      };
      ring_place = after.place ∙ held.ring_place;
    }

pub returns-in_default-clause-count : goal.returns-in_default-clause-count
returns-in_default-clause-count g c =
    let all = orders_of c.args.owner.account c.args.side (g.S.SideRead.orders c.args.book.now) in
    let held = c.slots.invariant in
    let same = pruned-all _ _ _ _ c.slots.count c.args.limit _ _ _ _ _ held.pruned c.in_default.ensures held.most in
    sym (length-take-le c.slots.count all held.pruned.within) ∙ ap length same

pub returns-in_default-clause-left : goal.returns-in_default-clause-left
returns-in_default-clause-left g c =
    let orders = g.S.SideRead.orders c.args.book.now in
    let ring = queue_of c.args.ring.now.bytes.now in
    let held = c.slots.invariant in
    let all = pruned-all _ _ _ _ c.slots.count c.args.limit _ _ _ _ _ held.pruned c.in_default.ensures held.most in
    record {
      orders = held.pruned.orders_are ∙ ap (λ gone. without_all c.args.side gone orders) all;
      queue = held.pruned.ring_is ∙ ap (λ gone. with_outs c.args.sizes gone ring) all;
      accepted = held.accepted;
    }

pub returns-clause-count : goal.returns-clause-count
returns-clause-count g c =
    let all = orders_of c.args.owner.account c.args.side (g.S.SideRead.orders c.args.book.now) in
    let held = c.slots.invariant in
    omega (arith, held.pruned.within, held.most, c.slots-test.false, length-take c.args.limit all)

pub returns-clause-left : goal.returns-clause-left
returns-clause-left g c =
    let held = c.slots.invariant in
    let full : c.slots.count ≡ c.args.limit = omega (arith, held.most, c.slots-test.false) in
    let orders = g.S.SideRead.orders c.args.book.now in
    let all = orders_of c.args.owner.account c.args.side orders in
    let ring = queue_of c.args.ring.now.bytes.now in
    record {
      orders = held.pruned.orders_are ∙ ap (λ n. without_all c.args.side (take n all) orders) full;
      queue = held.pruned.ring_is ∙ ap (λ n. with_outs c.args.sizes (take n all) ring) full;
      accepted = held.accepted;
    }
