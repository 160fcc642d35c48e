use Rattle.std.proofs.Common.{arith}
use Rattle.dex_eager.specs.Worth.{no_moves}
use Rattle.dex_worth.proofs.Told.{all-told}
use Rattle.dex_worth.proofs.laws.entries_tell_what_moved.Goals as goal

pub returns-clause-deposited : goal.returns-clause-deposited
returns-clause-deposited c = λ token owner m calls sound legal. omega (arith, (all-told token owner m calls no_moves sound legal).0)

pub returns-clause-settled : goal.returns-clause-settled
returns-clause-settled c = λ token owner m calls sound legal. omega (arith, (all-told token owner m calls no_moves sound legal).1)
