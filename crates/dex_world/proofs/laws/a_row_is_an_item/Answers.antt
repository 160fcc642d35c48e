use Rattle.dex_types.specs.Rows.{PlainRow}
use Rattle.dex_world.proofs.GroupLaws.{grouped-few, grouped-flat}
use Rattle.dex_world.proofs.ItemLaws.{alone-acts}
use Rattle.dex_world.proofs.laws.a_row_is_an_item.Goals as goal

pub returns-clause-alone : goal.returns-clause-alone
returns-clause-alone c = alone-acts

pub returns-clause-flat : goal.returns-clause-flat
returns-clause-flat c = grouped-flat (λ (row : PlainRow). row.number)

pub returns-clause-few : goal.returns-clause-few
returns-clause-few c = grouped-few (λ (row : PlainRow). row.number)
