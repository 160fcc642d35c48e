use Rattle.std.proofs.Common.{ℕ, ◌≡◌, drop, map, take}
use Rattle.dex_eager.specs.Eager.{without_all}
use Rattle.dex_types.specs.Cancel.{all_orders_of, taken_by_all}
use Rattle.dex_eager_market.specs.Listing.{resting_of}
use Rattle.dex_eager_market.specs.States.{IsKept, eager_of}
use Rattle.dex_eager_market.proofs.cancelling.cancel_clients.Given as goal

abbrev pub invariant-loop-place : goal.invariant-loop-place
invariant-loop-place l = record {
  off : without_all (taken_by_all (drop l.place (take l.ids.count l.ids.ids)) (map resting_of l.state.listed.items)) (eager_of l.state)
      ≡ without_all (taken_by_all (take l.ids.count l.ids.ids) (all_orders_of l.fn.owner l.fn.state.bids.orders.items l.fn.state.asks.orders.items)) (eager_of l.fn.state);
  kept : (bound : ℕ) → IsKept bound l.fn.state → IsKept bound l.state;
}
