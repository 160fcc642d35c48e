use Rattle.std.proofs.Common.{ap, refl, sym, ◌∙◌, arith}
use Rattle.dex_types.specs.BookSide.{order_after}
use Rattle.dex_types.specs.Cancel.{orders_of}
use Rattle.dex_laws.specs.Walks.{orders_from}
use Rattle.dex_cancel.specs.Counting.{count_of_client}
use Rattle.dex_cancel.proofs.WalkSteps.{stepped, count-named, count-unnamed, length-orders_of, count_of_client-length}
use Rattle.dex_cancel.proofs.counting.count_client_on.Goals as goal
use Rattle.dex_cancel.proofs.counting.count_client_on.Goals.{then-has_client, else-has_client}

pub overflow_add-count : goal.overflow_add-count
overflow_add-count g c =
    let orders = g.B.SideRead.orders c.args.book.now in
    let held = g.met.B.SideRead.is_book_side c.args.book.now c.requires.holds in
    let step = stepped _ _ orders _ _ (order_after c.in-Some.order.id orders) held c.orders.invariant.reached c.in-Some.is refl in
    let here = ap (λ os. count_of_client c.args.client (orders_of c.args.account c.args.side os)) step.0 in
    let own = (count-named c.args.account c.args.side c.args.client c.in-Some.order (orders_from (order_after c.in-Some.order.id orders) orders) (sym c.has_client.ensures ∙ c.if-has_client.true)) in
    omega (arith, c.orders.invariant.sum, here, own, length-orders_of c.args.account c.args.side orders, count_of_client-length c.args.client (orders_of c.args.account c.args.side orders), c.count-all.ensures)

pub orders-smaller : goal.orders-smaller
orders-smaller g c =
    let orders = g.B.SideRead.orders c.args.book.now in
    let held = g.met.B.SideRead.is_book_side c.args.book.now c.requires.holds in
    let step = stepped _ _ orders _ _ _ held c.orders.invariant.reached c.in-Some.is c.after-next.ensures in
    rw step.0 (omega arith)

pub orders-preserved : goal.orders-preserved
orders-preserved g c =
    let orders = g.B.SideRead.orders c.args.book.now in
    let held = g.met.B.SideRead.is_book_side c.args.book.now c.requires.holds in
    let step = stepped _ _ orders _ _ _ held c.orders.invariant.reached c.in-Some.is c.after-next.ensures in
    let here = ap (λ os. count_of_client c.args.client (orders_of c.args.account c.args.side os)) step.0 in
    record {
      sum = elim c.if-has_client.branch [
        | then-has_client w ↦ omega (arith, w.count-is, c.orders.invariant.sum, here, (count-named c.args.account c.args.side c.args.client c.in-Some.order (orders_from c.after-next.result orders) (sym c.has_client.ensures ∙ w.if-has_client.true)))
        | else-has_client w ↦ omega (arith, w.count-is, c.orders.invariant.sum, here, (count-unnamed c.args.account c.args.side c.args.client c.in-Some.order (orders_from c.after-next.result orders) (sym c.has_client.ensures ∙ w.if-has_client.false)))
      ];
      reached = step.1;
    }
