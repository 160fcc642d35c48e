use Rattle.dex_instruction.proofs.Unbroken.{decoded-spelling}
use Rattle.dex_instruction.proofs.laws.decodes_again.Goals as goal

pub returns : goal.returns
returns c = decoded-spelling
