use Rattle.std.proofs.Common.{◌≡◌, drop}
use Rattle.std.specs.Vec.{vec_capacity}
use Rattle.dex_eager_market.proofs.book_list.take_front.Given as goal

abbrev pub invariant-loop-done : goal.invariant-loop-done
invariant-loop-done l = record {
  left : l.orders.items ≡ drop l.done l.initial.orders.items;
  capacity : vec_capacity l.orders ≡ vec_capacity l.initial.orders;
}
