use Rattle.std.proofs.Common.{◌≡◌, ◌≤◌, take}
use Rattle.std.specs.Vec.{vec_capacity}
use Rattle.dex_eager.specs.Slots.{without_slots}
use Rattle.dex_eager_market.proofs.making.book_of.Given as goal

abbrev pub invariant-loop-place : goal.invariant-loop-place
invariant-loop-place l = record {
  orders : l.all.items ≡ without_slots (take l.place l.orders);
  reserved : l.room ≤ vec_capacity l.all;
}
