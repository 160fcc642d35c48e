use Rattle.dex_laws.proofs.StopLaws.{meet-AbortsAt}
use Rattle.dex_laws.proofs.matching.an_abort_names_the_own_order.Goals as goal

pub returns : goal.returns
returns c = meet-AbortsAt
