use Rattle.dex_script.proofs.BatchLaws.{read-listed}
use Rattle.dex_script.proofs.laws.a_script_for_batches_is_one_for_every_command.Goals as goal

pub returns : goal.returns
returns c = read-listed
