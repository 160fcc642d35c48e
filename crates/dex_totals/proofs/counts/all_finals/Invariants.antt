use Rattle.std.proofs.Common.{map, take}
use Rattle.dex_types.specs.QueuedEvent.{decoded_event}
use Rattle.dex_totals.specs.Tallies.{AreFinals}
use Rattle.dex_totals.proofs.counts.all_finals.Given as goal

abbrev pub invariant-loop-place : goal.invariant-loop-place
invariant-loop-place l = AreFinals l.finals (take l.place (map decoded_event l.events))
