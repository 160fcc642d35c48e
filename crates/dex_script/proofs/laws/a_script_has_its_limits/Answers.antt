use Rattle.dex_script.proofs.OrderLaws.{read-limits}
use Rattle.dex_script.proofs.laws.a_script_has_its_limits.Goals as goal

pub returns : goal.returns
returns c = read-limits
