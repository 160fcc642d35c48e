use Rattle.dex_laws.proofs.BestFirstLaws.{meet-FitsOwner}
use Rattle.dex_laws.proofs.matching.no_trader_fills_its_own_order.Goals as goal

pub returns : goal.returns
returns c = meet-FitsOwner
