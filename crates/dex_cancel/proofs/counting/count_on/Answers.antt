use Rattle.std.proofs.Common.{ap, refl, sym, ◌∙◌, length, arith}
use Rattle.dex_types.specs.BookSide.{order_after}
use Rattle.dex_types.specs.Cancel.{orders_of}
use Rattle.dex_laws.specs.Walks.{orders_from}
use Rattle.dex_cancel.proofs.WalkSteps.{stepped, orders_of-own, orders_of-other, length-orders_of}
use Rattle.dex_cancel.proofs.counting.count_on.Goals as goal
use Rattle.dex_cancel.proofs.counting.count_on.Goals.{then-is_same, else-is_same}

pub overflow_add-count : goal.overflow_add-count
overflow_add-count g c =
    let orders = g.B.SideRead.orders c.args.book.now in
    let held = g.met.B.SideRead.is_book_side c.args.book.now c.requires.holds in
    let step = stepped _ _ orders _ _ (order_after c.in-Some.order.id orders) held c.orders.invariant.reached c.in-Some.is refl in
    let here = ap (λ os. length (orders_of c.args.account c.args.side os)) step.0 in
    let own = ap length (orders_of-own c.args.account c.args.side c.in-Some.order (orders_from (order_after c.in-Some.order.id orders) orders) (sym c.is_same.ensures ∙ c.if-is_same.true)) in
    omega (arith, c.orders.invariant.sum, here, own, length-orders_of c.args.account c.args.side orders, c.count-all.ensures)

pub orders-smaller : goal.orders-smaller
orders-smaller g c =
    let orders = g.B.SideRead.orders c.args.book.now in
    let held = g.met.B.SideRead.is_book_side c.args.book.now c.requires.holds in
    let step = stepped _ _ orders _ _ _ held c.orders.invariant.reached c.in-Some.is c.after-next.ensures in
    rw step.0 (omega arith)

pub orders-preserved : goal.orders-preserved
orders-preserved g c =
    let orders = g.B.SideRead.orders c.args.book.now in
    let held = g.met.B.SideRead.is_book_side c.args.book.now c.requires.holds in
    let step = stepped _ _ orders _ _ _ held c.orders.invariant.reached c.in-Some.is c.after-next.ensures in
    let here = ap (λ os. length (orders_of c.args.account c.args.side os)) step.0 in
    record {
      sum = elim c.if-is_same.branch [
        | then-is_same w ↦ omega (arith, w.count-is, c.orders.invariant.sum, here, ap length (orders_of-own c.args.account c.args.side c.in-Some.order (orders_from c.after-next.result orders) (sym c.is_same.ensures ∙ w.if-is_same.true)))
        | else-is_same w ↦ omega (arith, w.count-is, c.orders.invariant.sum, here, ap length (orders_of-other c.args.account c.args.side c.in-Some.order (orders_from c.after-next.result orders) (sym c.is_same.ensures ∙ w.if-is_same.false)))
      ];
      reached = step.1;
    }
