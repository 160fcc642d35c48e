use Rattle.std.proofs.Common.{drop}
use Rattle.dex_types.specs.Rows.{row_of}
use Rattle.dex_history.specs.Journal.{front}
use Rattle.dex_act.proofs.Probing.{Probing}
use Rattle.dex_act.proofs.probes.probes.Given as goal

abbrev pub invariant-loop-at : goal.invariant-loop-at
invariant-loop-at l = Probing (row_of l.asked.row.now) l.asked.seen.now l.asked.places.now (front l.moves) (front (drop l.at l.moves)) l.fn.cells l.cells
