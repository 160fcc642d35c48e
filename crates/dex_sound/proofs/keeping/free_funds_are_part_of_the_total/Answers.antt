use Rattle.std.proofs.Common.{arith}
use Rattle.dex_sound.proofs.keeping.free_funds_are_part_of_the_total.Goals as goal

pub returns : goal.returns
returns c = λ m owner account token sound found. omega (arith, sound.funds.adds_up owner account found token)
