use Rattle.std.proofs.Common.{◌≡◌, ◌≤◌, ◌+◌, ◌++◌, length, map, take}
use Rattle.std.specs.Vec.{vec_capacity}
use Rattle.dex_types.specs.Cancel.{orders_of}
use Rattle.dex_eager_market.specs.Listing.{resting_of}
use Rattle.dex_eager_market.proofs.listing.add_own.Given as goal

abbrev pub invariant-loop-place : goal.invariant-loop-place
invariant-loop-place l = record {
  list : map resting_of l.list.items ≡ map resting_of l.initial.list.items ++ orders_of l.owner l.side (take l.place l.orders);
  within : length l.list.items ≤ length l.initial.list.items + l.place;
  reserved : vec_capacity l.initial.list ≤ vec_capacity l.list;
}
