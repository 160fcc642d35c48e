use Rattle.dex_script.proofs.OrderLaws.{read-apart}
use Rattle.dex_script.proofs.laws.a_script_for_batches_has_no_swap.Goals as goal

pub returns : goal.returns
returns c = read-apart
