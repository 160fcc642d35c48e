use Rattle.dex_commands.proofs.Endings.{completes}
use Rattle.dex_commands.proofs.Listed.{listed}
use Rattle.dex_commands.proofs.running.plain.Goals as goal

pub returns-clause-listed_order : goal.returns-clause-listed_order
returns-clause-listed_order g c = listed _ _ _ _ c.plain_within.ensures

pub returns-clause-completes : goal.returns-clause-completes
returns-clause-completes g c = completes _ _ _ _ c.plain_within.ensures
