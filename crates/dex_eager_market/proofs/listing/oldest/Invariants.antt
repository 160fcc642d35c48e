use Rattle.std.proofs.Common.{◌≡◌, ◌≤◌, drop, length, map}
use Rattle.dex_types.specs.Cancel.{oldest}
use Rattle.dex_eager_market.specs.Listing.{resting_of, resting_there}
use Rattle.dex_eager_market.proofs.listing.oldest.Given as goal

abbrev pub invariant-orders : goal.invariant-orders
invariant-orders l = record {
  found : resting_there l.found ≡ oldest l.client (map resting_of (drop l.place l.list));
  within : l.place ≤ length l.list;
}

abbrev pub decreases-orders : goal.decreases-orders
decreases-orders l = l.place
