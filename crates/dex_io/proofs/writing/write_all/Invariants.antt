use Rattle.std.proofs.Common.{length, ◌-◌, ◌≡◌, ◌≤◌, take}
use Rattle.std.specs.Io.KnownBytes.{append_known}
use Rattle.dex_io.proofs.writing.write_all.Given as goal

abbrev pub invariant-loop-sent : goal.invariant-loop-sent
invariant-loop-sent g l = record {
  written : g.K.Sink.taken l.sink ≡ append_known (g.K.Sink.taken l.fn.sink) (take l.sent l.text);
  within : l.sent ≤ length l.text;
  later : g.K.Sink.faults l.fn.sink ≤ g.K.Sink.faults l.sink;
}

abbrev pub decreases-loop-sent : goal.decreases-loop-sent
decreases-loop-sent g l = length l.text - l.sent
