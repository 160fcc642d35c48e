use Rattle.std.proofs.Common.{map, take}
use Rattle.dex_types.specs.Rows.{row_of}
use Rattle.dex_batch.specs.Acting.{HaveActed}
use Rattle.dex_batch.proofs.acting.act_all.Given as goal

-- the first so many rows have acted
abbrev pub invariant-loop-place : goal.invariant-loop-place
invariant-loop-place g l = HaveActed (take l.place (map row_of l.rows)) (take l.place (map row_of l.rows)) l.initial.cells l.cells
