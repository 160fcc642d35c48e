use Rattle.std.proofs.Common.{◌≡◌, ◌++◌, List, length}
use Rattle.dex_rows.specs.Records.{rows_of}
use Rattle.dex_statement.specs.Words.{Fields}
use Rattle.dex_desk.specs.Steps.{Went}
use Rattle.dex_desk.proofs.answering.take_line.Given as goal

-- so many rows were taken, and the others are left
abbrev pub invariant-rows : goal.invariant-rows
invariant-rows l =
    (done : List Fields) × (rows_of l.line ≡ done ++ l.rows) × Went done l.fn.block l.block l.fn.buffers.text.items l.buffers.text.items

abbrev pub decreases-rows : goal.decreases-rows
decreases-rows l = length l.rows
