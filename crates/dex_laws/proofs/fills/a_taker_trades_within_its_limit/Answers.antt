use Rattle.dex_laws.proofs.FillLaws.{meet-IsWithinLimit}
use Rattle.dex_laws.proofs.fills.a_taker_trades_within_its_limit.Goals as goal

pub returns : goal.returns
returns c = meet-IsWithinLimit
