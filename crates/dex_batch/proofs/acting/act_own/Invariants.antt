use Rattle.std.proofs.Common.{map, take}
use Rattle.dex_types.specs.Rows.{row_of}
use Rattle.dex_batch.specs.Acting.{HaveActed}
use Rattle.dex_batch.specs.Parts.{part}
use Rattle.dex_batch.proofs.acting.act_own.Given as goal

-- of the first so many rows those of the number have acted
abbrev pub invariant-loop-place : goal.invariant-loop-place
invariant-loop-place g l = HaveActed (part (take l.place l.numbers) l.number (take l.place (map row_of l.rows))) (take l.place (map row_of l.rows)) l.initial.cells l.cells
