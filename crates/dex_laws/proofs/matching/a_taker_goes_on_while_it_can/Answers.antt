use Rattle.dex_laws.proofs.StopLaws.{meet-stops}
use Rattle.dex_laws.proofs.matching.a_taker_goes_on_while_it_can.Goals as goal

pub returns : goal.returns
returns c = meet-stops
