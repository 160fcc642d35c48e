use Rattle.dex_worth.proofs.Flows.{add-up}
use Rattle.dex_worth.proofs.laws.nothing_is_made_or_lost.Goals as goal

pub returns : goal.returns
returns c = add-up
