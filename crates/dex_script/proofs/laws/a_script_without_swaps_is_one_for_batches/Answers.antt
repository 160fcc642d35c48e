use Rattle.dex_script.proofs.BatchLaws.{read-batch}
use Rattle.dex_script.proofs.laws.a_script_without_swaps_is_one_for_batches.Goals as goal

pub returns : goal.returns
returns c = read-batch
