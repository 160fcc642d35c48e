use Rattle.dex_script.proofs.OrderLaws.{read-rows}
use Rattle.dex_script.proofs.laws.rows_of_a_script_are_in_order.Goals as goal

pub returns : goal.returns
returns c = read-rows
