use Rattle.dex_laws.proofs.IdLaws.{precedes-iff}
use Rattle.dex_laws.proofs.ids.better_prices_then_older_orders_stand_before.Goals as goal

pub returns : goal.returns
returns c = precedes-iff
