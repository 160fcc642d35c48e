use Rattle.std.proofs.Common.{◌≡◌, ◌-◌, length}
use Rattle.dex_run.proofs.Common.{Begins}
use Rattle.dex_run.proofs.LaneItems.{AreFound}
use Rattle.dex_run.proofs.index.places_by_lane.Given as goal

abbrev pub invariant-item : goal.invariant-item
invariant-item l = record {
  begins : Begins l.fn.rows l.place;
  count : length l.by_lane.items ≡ l.fn.lanes;
  found : AreFound l.fn.rows l.place l.by_lane.items;
}

abbrev pub decreases-item : goal.decreases-item
decreases-item l = length l.rows - l.place
