use Rattle.std.proofs.Common.{◌≡◌, ◌++◌, take, drop}
use Rattle.dex_types.specs.Cancel.{order_with, without_order}
use Rattle.dex_eager_market.proofs.book_list.place_with.Given as goal

abbrev pub invariant-loop-place : goal.invariant-loop-place
invariant-loop-place l = record {
  found : order_with l.id l.orders ≡ order_with l.id (drop l.place l.orders);
  without : without_order l.id l.orders ≡ take l.place l.orders ++ without_order l.id (drop l.place l.orders);
}
