use Rattle.std.proofs.Common.{◌+◌, [], ◌∷◌, length, take, sym, ap, ◌∙◌, subst, arith}
use Rattle.std.proofs.lemmas.List.{length-take, length-take-le}
use Rattle.dex_types.specs.Cancel.{orders_of}
use Rattle.dex_laws.specs.Walks.{IsReached}
use Rattle.dex_cancel.specs.TakenOff.{queue_of, with_outs, without_all}
use Rattle.dex_cancel.proofs.TakenOffLaws.{room-now}
use Rattle.dex_cancel.proofs.PruneLaws.{fits-now, one-own, pruned-all, pruned-more, pruned-next, pruned-shorter}
use Rattle.dex_cancel.proofs.pruning.prune_side.Goals as goal

pub take_own-count-requires-clause-fits : goal.take_own-count-requires-clause-fits
take_own-count-requires-clause-fits g c =
    let first = g.S.SideRead.orders c.args.book.now in
    let now = g.S.SideRead.orders c.orders.book in
    let held = c.orders.invariant.pruned in
    fits-now c.args.sizes c.args.side (take c.orders.count (orders_of c.args.account c.args.side first)) first now c.in-Some.order c.requires.locks held.orders_are
    (subst (λ o. IsReached o now) c.in-Some.is held.reached)

pub take_own-count-requires-clause-can : goal.take_own-count-requires-clause-can
take_own-count-requires-clause-can g c =
    let first = g.S.SideRead.orders c.args.book.now in
    let now = g.S.SideRead.orders c.orders.book in
    let held = c.orders.invariant in
    let book = g.met.S.SideRead.is_book_side c.orders.book held.book.holding in
    let all = orders_of c.args.account c.args.side first in
    let own = orders_of c.args.account c.args.side (c.in-Some.order ∷ []) in
    let next = pruned-next c.args.sizes c.args.account _ c.args.side _ c.orders.count first (queue_of c.args.ring.now.bytes.now) c.orders.next now (queue_of c.orders.ring.bytes.now)
    c.in-Some.order book held.pruned c.in-Some.is in
    record {
      accepted = held.accepted;
      room = room-now c.args.sizes (take c.orders.count all) own (take c.args.limit all) (queue_of c.args.ring.now.bytes.now) (queue_of c.orders.ring.bytes.now)
          held.pruned.ring_is c.requires.can.room
          (omega (arith, next.within, held.most, c.if-count-limit.false, one-own c.args.account c.args.side c.in-Some.order, length-take c.orders.count all, length-take c.args.limit all));
    }

pub orders-smaller : goal.orders-smaller
orders-smaller g c =
    let book = g.met.S.SideRead.is_book_side c.orders.book c.orders.invariant.book.holding in
    pruned-shorter c.args.sizes c.args.account _ c.args.side _ c.orders.count (g.S.SideRead.orders c.args.book.now) (queue_of c.args.ring.now.bytes.now)
    c.orders.next (g.S.SideRead.orders c.orders.book) (queue_of c.orders.ring.bytes.now) c.in-Some.order c.after-next.result (g.S.SideRead.orders c.take_own-count.new.book)
    book c.orders.invariant.pruned c.in-Some.is c.after-next.ensures c.take_own-count.ensures.left.orders

pub orders-preserved : goal.orders-preserved
orders-preserved g c =
    let held = c.orders.invariant in
    let book = g.met.S.SideRead.is_book_side c.orders.book held.book.holding in
    let after = c.take_own-count.ensures in
    record {
      pruned =
          pruned-more c.args.sizes c.args.account _ c.args.side _ c.orders.count (g.S.SideRead.orders c.args.book.now) (queue_of c.args.ring.now.bytes.now)
          c.orders.next (g.S.SideRead.orders c.orders.book) (queue_of c.orders.ring.bytes.now) c.in-Some.order
          c.after-next.result (g.S.SideRead.orders c.take_own-count.new.book) (queue_of c.take_own-count.new.ring.bytes.now) (c.orders.count + c.take_own-count.result)
          book held.pruned c.in-Some.is c.after-next.ensures (ap (λ n. c.orders.count + n) after.count) after.left.orders after.left.queue;
      most = omega (arith, held.most, c.if-count-limit.false, after.count, one-own c.args.account c.args.side c.in-Some.order);
      accepted = after.left.accepted;
      book = record {
        holding = after.book.holding;
        place = g.met.S.SideBook.chains _ _ _ held.book.place after.book.place;
        side = after.book.side ∙ held.book.side;
        room = after.book.room ∙ held.book.room;
      };
      ring_place = after.place ∙ held.ring_place;
    }

pub returns-clause-count : goal.returns-clause-count
returns-clause-count g c =
    let all = orders_of c.args.account c.args.side (g.S.SideRead.orders c.args.book.now) in
    let held = c.orders.invariant in
    let same = pruned-all _ _ _ c.orders.count c.args.limit _ _ _ _ _ held.pruned c.in_default.is held.most in
    sym (length-take-le c.orders.count all held.pruned.within) ∙ ap length same

pub returns-clause-left : goal.returns-clause-left
returns-clause-left g c =
    let orders = g.S.SideRead.orders c.args.book.now in
    let ring = queue_of c.args.ring.now.bytes.now in
    let held = c.orders.invariant in
    let all = pruned-all _ _ _ c.orders.count c.args.limit _ _ _ _ _ held.pruned c.in_default.is held.most in
    record {
      orders = held.pruned.orders_are ∙ ap (λ gone. without_all c.args.side gone orders) all;
      queue = held.pruned.ring_is ∙ ap (λ gone. with_outs c.args.sizes gone ring) all;
      accepted = held.accepted;
    }
