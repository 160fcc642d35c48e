use Rattle.std.proofs.Common.{◌≡◌, length}
use Rattle.dex_script.specs.Pieces.{number_after}
use Rattle.dex_script.specs.Scripts.{draft_after}
use Rattle.dex_script.proofs.reading.read_rows.Given as goal

abbrev pub invariant-rows : goal.invariant-rows
invariant-rows l =
    (draft_after l.reader l.number l.rows ≡ draft_after l.fn.reader l.fn.number l.fn.rows)
    × (number_after l.number l.rows ≡ number_after l.fn.number l.fn.rows)

abbrev pub decreases-rows : goal.decreases-rows
decreases-rows l = length l.rows
