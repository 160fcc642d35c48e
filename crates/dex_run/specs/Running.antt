-- What a lane's job needs, and what it leaves of its seat.
use Rattle.std.specs.Prelude.{◌≡◌, ◌<◌, List, [], length, map}
use Rattle.dex_types.specs.declared.rows.Row.{Row}
use Rattle.dex_world.specs.declared.places.RowPlaces.{RowPlaces}
use Rattle.dex_types.specs.Rows.{row_of}
use Rattle.dex_script_types.specs.Facts.{IsScript}
use Rattle.dex_script_types.specs.Places.{AreBeside, ArePlaced}
use Rattle.dex_run.specs.LaneItems.{IsIndex}
use Rattle.dex_run.specs.declared.lane.LaneJob.{LaneJob}
use Rattle.dex_run.specs.declared.lane.Lanes.{Lanes}
use Rattle.dex_turns.specs.Bank.{BankState}
use Rattle.dex_turns.specs.Seats.{IsDone, IsSeatOf, SeatState}

-- all rows of the bank's script with their places, and with their numbers and lanes
pub record AreRowsOf (bank : BankState) (rows : List Row) (places : List RowPlaces) : Type 0 where
  pub is : IsScript bank.script
  pub rows_are : map row_of rows ≡ bank.script.rows
  pub placed : ArePlaced bank.script.start (map row_of rows) places
  pub beside : AreBeside (map row_of rows) places

-- a seat of this bank of whose rows none has acted, all rows of its script with their places, and where the items of
-- each lane begin
pub record CanRun (lanes : Lanes) (seat : SeatState) : Type 0 where
  pub are : AreRowsOf lanes.bank.now lanes.rows.now lanes.places.now
  pub of_bank : IsSeatOf lanes.bank.now seat
  pub fresh : seat.calls ≡ []
  pub index : IsIndex lanes.rows.now lanes.by_lane.now
  pub within : seat.lane < length lanes.by_lane.now

-- a seat of the bank when all rows of its lane are done
pub record HasRun (bank : BankState) (before after : SeatState) : Type 0 where
  pub of_bank : IsSeatOf bank after
  pub lane : after.lane ≡ before.lane
  pub script : after.script ≡ before.script
  pub done : IsDone after

-- the job is to do the items of this seat's lane
pub record IsJobOf {R P : Type 0} (lanes : Lanes) (seat : SeatState) (job : LaneJob R P) : Type 0 where
  pub lanes_are : job.lanes ≡ lanes
  pub seat_is : job.seat ≡ seat
