use Rattle.std.proofs.Common.{◌∷◌, []}
use Rattle.dex_world.proofs.FoldLaws.{fold-append}
use Rattle.dex_world.proofs.laws.rows_act_one_after_the_other.Goals as goal

pub returns-clause-parts : goal.returns-clause-parts
returns-clause-parts c = fold-append

pub returns-clause-one_more : goal.returns-clause-one_more
returns-clause-one_more c = λ rows row world. fold-append rows (row ∷ []) world
