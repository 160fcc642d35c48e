use Rattle.std.proofs.Common.{◌≡◌, length}
use Rattle.dex_script.specs.Pieces.{IsPartway}
use Rattle.dex_script.specs.Scripts.{draft_after}
use Rattle.dex_script.proofs.reading.read_first.Given as goal

abbrev pub invariant-rows : goal.invariant-rows
invariant-rows l = record {
  partway : IsPartway l.initial.reader l.initial.number l.initial.rows l.reader l.number l.rows;
  same : draft_after l.reader l.number l.rows ≡ draft_after l.initial.reader l.initial.number l.initial.rows;
}

abbrev pub decreases-rows : goal.decreases-rows
decreases-rows l = length l.rows
