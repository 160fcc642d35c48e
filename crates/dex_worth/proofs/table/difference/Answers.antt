use Rattle.std.proofs.Common.{arith}
use Rattle.std.proofs.lemmas.Int.{ints, to_z-of_z}
use Rattle.dex_worth.proofs.table.difference.Goals as goal

pub returns : goal.returns
returns c = λ h d s held deposited settled. grind (arith, ints, to_z-of_z, held, deposited, settled)
