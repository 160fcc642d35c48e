use Rattle.std.proofs.Common.{◌≡◌, length, map}
use Rattle.dex_world.proofs.Common.{row_of}
use Rattle.dex_replay.proofs.Common.{IsScript, PlainScript, opened}
use Rattle.dex_replay.specs.Acting.{AreLeft}
use Rattle.dex_replay.proofs.acting.act_all.Given as goal

-- of whatever script the cells and rows are, its items have acted up to the rows that are left
abbrev pub invariant-item : goal.invariant-item
invariant-item l = (script : PlainScript) → IsScript script → l.fn.cells ≡ opened script → map row_of l.fn.rows ≡ script.rows
    → AreLeft script (map row_of l.rows) l.places l.cells

abbrev pub decreases-item : goal.decreases-item
decreases-item l = length l.rows
