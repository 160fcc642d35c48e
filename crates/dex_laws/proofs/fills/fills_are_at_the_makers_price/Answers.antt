use Rattle.dex_laws.proofs.FillLaws.{meet-IsPricedByMaker}
use Rattle.dex_laws.proofs.fills.fills_are_at_the_makers_price.Goals as goal

pub returns : goal.returns
returns c = meet-IsPricedByMaker
