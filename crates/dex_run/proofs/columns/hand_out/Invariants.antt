use Rattle.std.proofs.Common.{◌≡◌, length}
use Rattle.dex_run.proofs.Common.{AreLonger}
use Rattle.dex_run.proofs.columns.hand_out.Given as goal

abbrev pub invariant-loop-item : goal.invariant-loop-item
invariant-loop-item g l = record {
  place : l.place ≡ length l.yielded;
  longer : AreLonger l.fn.columns.items l.yielded l.columns.items;
}
