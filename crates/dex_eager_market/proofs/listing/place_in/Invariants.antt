use Rattle.std.proofs.Common.{◌≡◌, ◌++◌, Some, map, take, drop}
use Rattle.dex_types.specs.Cancel.{without_taken}
use Rattle.dex_eager_market.specs.Listing.{resting_of}
use Rattle.dex_eager_market.proofs.listing.place_in.Given as goal

abbrev pub invariant-loop-place : goal.invariant-loop-place
invariant-loop-place l = without_taken (Some (resting_of l.gone)) (map resting_of l.list)
    ≡ map resting_of (take l.place l.list) ++ without_taken (Some (resting_of l.gone)) (map resting_of (drop l.place l.list))
