use Rattle.std.proofs.Common.{◌≡◌, ◌++◌, length, Some, List, Option, sym, ap, ◌∙◌, subst, arith}
use Rattle.dex_laws.specs.Walks.{orders_from, IsReached}
use Rattle.dex_slab.specs.SamePlace.{frame_chains}
use Rattle.dex_slab.specs.Slab.{resting}
use Rattle.dex_types.specs.declared.orders.Order.{Order}
use Rattle.dex_types.specs.declared.terms.Side.{Side}
use Rattle.dex_types.specs.BookSide.{order_after}
use Rattle.dex_types.specs.Posting.{posted}
use Rattle.dex_migrate.proofs.CopyLaws.{copy-from}
use Rattle.dex_migrate.proofs.sides.copy_orders.Goals as goal

pub insert-requires-clause-new : goal.insert-requires-clause-new
insert-requires-clause-new c =
    (copy-from c.args.to.now.side c.args.from.now.bytes.now c.requires.from _ c.orders.next c.in-Some.order c.in-Some.is c.orders.invariant.copied c.orders.invariant.reached).new

pub insert-requires-clause-can_rest : goal.insert-requires-clause-can_rest
insert-requires-clause-can_rest c =
    (copy-from c.args.to.now.side c.args.from.now.bytes.now c.requires.from _ c.orders.next c.in-Some.order c.in-Some.is c.orders.invariant.copied c.orders.invariant.reached).can_rest

pub insert-requires-clause-room : goal.insert-requires-clause-room
insert-requires-clause-room c =
    let held = copy-from c.args.to.now.side c.args.from.now.bytes.now c.requires.from _ c.orders.next c.in-Some.order c.in-Some.is c.orders.invariant.copied c.orders.invariant.reached in
    omega (arith, held.less, c.orders.invariant.room, c.requires.fits)

pub orders-smaller : goal.orders-smaller
orders-smaller c =
    let held = copy-from c.args.to.now.side c.args.from.now.bytes.now c.requires.from _ c.orders.next c.in-Some.order c.in-Some.is c.orders.invariant.copied c.orders.invariant.reached in
    let all : Side → List Order = λ side. resting side c.args.from.now.bytes.now in
    let before : length (orders_from c.orders.next (all c.args.from.now.side)) ≡ length (orders_from (Some c.in-Some.order) (all c.args.to.now.side)) =
    ap (λ n. length (orders_from n (all c.args.from.now.side))) c.in-Some.is ∙ ap (λ s. length (orders_from (Some c.in-Some.order) (all s))) c.requires.side in
    let after : length (orders_from c.after-next.result (all c.args.from.now.side)) ≡ length (orders_from (order_after c.in-Some.order.id (all c.args.to.now.side)) (all c.args.to.now.side)) =
    ap (λ n. length (orders_from n (all c.args.from.now.side))) c.after-next.ensures
    ∙ ap (λ s. length (orders_from (order_after c.in-Some.order.id (all s)) (all s))) c.requires.side in
    omega (arith, held.smaller, before, after)

pub orders-preserved : goal.orders-preserved
orders-preserved c =
    let held = copy-from c.args.to.now.side c.args.from.now.bytes.now c.requires.from _ c.orders.next c.in-Some.order c.in-Some.is c.orders.invariant.copied c.orders.invariant.reached in
    let all : List Order = resting c.args.to.now.side c.args.from.now.bytes.now in
    let copied : List Order = resting c.orders.to.side c.orders.to.bytes.now in
    let next : c.after-next.result ≡ order_after c.in-Some.order.id all =
    c.after-next.ensures ∙ ap (λ s. order_after c.in-Some.order.id (resting s c.args.from.now.bytes.now)) c.requires.side in
    record {
      copied = ap (λ (l : List Order). l ++ orders_from c.after-next.result all) c.insert.ensures.orders
          ∙ ap (λ s. posted s c.in-Some.order copied ++ orders_from c.after-next.result all) c.orders.invariant.side
          ∙ ap (λ (n : Option Order). posted c.args.to.now.side c.in-Some.order copied ++ orders_from n all) next
          ∙ held.again;
      reached = subst (λ (n : Option Order). IsReached n all) (sym next) held.reached;
      holds = c.insert.ensures.holds;
      side = c.insert.ensures.side ∙ c.orders.invariant.side;
      room = c.insert.ensures.room ∙ c.orders.invariant.room;
      place = c.insert.ensures.place.0 ∙ c.orders.invariant.place;
      frame = frame_chains _ _ _ c.orders.invariant.frame c.insert.ensures.place.1;
    }
