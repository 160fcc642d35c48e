use Rattle.std.proofs.Common.{◌≡◌, drop}
use Rattle.dex_run.proofs.Common.{IsRestAt, IsSeatOf}
use Rattle.dex_run.proofs.lane.Lanes.submit_all.Given as goal

abbrev pub invariant-loop-item : goal.invariant-loop-item
invariant-loop-item g l = record {
  of_bank : IsSeatOf l.fn.self.bank.now l.seat;
  lane : l.seat.lane ≡ l.fn.seat.lane;
  rest : IsRestAt l.fn.self.rows.now l.seat (drop l.item l.own.items);
}
