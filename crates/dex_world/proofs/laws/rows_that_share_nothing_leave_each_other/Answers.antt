use Rattle.dex_world.proofs.FarLaws.{seen-far, why-far}
use Rattle.dex_world.proofs.laws.rows_that_share_nothing_leave_each_other.Goals as goal

pub returns-clause-why : goal.returns-clause-why
returns-clause-why c = λ row other world share. why-far row other share world

pub returns-clause-sees : goal.returns-clause-sees
returns-clause-sees c = λ row other world share. seen-far row other share world
