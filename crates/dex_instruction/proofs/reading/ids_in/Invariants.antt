use Rattle.std.proofs.Common.{◌≡◌, ◌-◌, ◌++◌, replicate}
use Rattle.dex_instruction.specs.Numbers.{numbers_at}
use Rattle.dex_instruction.proofs.reading.ids_in.Given as goal

abbrev pub invariant-ids : goal.invariant-ids
invariant-ids l = l.ids ≡ numbers_at l.i 5 l.bytes ++ replicate (8 - l.i) 0
