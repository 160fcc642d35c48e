use Rattle.std.proofs.Common.{ℕ, ◌≡◌, map, take}
use Rattle.dex_eager.specs.Eager.{without_all}
use Rattle.dex_types.specs.Cancel.{all_orders_of}
use Rattle.dex_eager_market.specs.Listing.{resting_of}
use Rattle.dex_eager_market.specs.States.{IsKept, eager_of}
use Rattle.dex_eager_market.proofs.cancelling.cancel_first.Given as goal

abbrev pub invariant-loop-place : goal.invariant-loop-place
invariant-loop-place l = record {
  off : eager_of l.state ≡ without_all (take l.place (all_orders_of l.fn.owner l.fn.state.bids.orders.items l.fn.state.asks.orders.items)) (eager_of l.fn.state);
  listed : map resting_of l.state.listed.items ≡ all_orders_of l.fn.owner l.fn.state.bids.orders.items l.fn.state.asks.orders.items;
  kept : (bound : ℕ) → IsKept bound l.fn.state → IsKept bound l.state;
}
