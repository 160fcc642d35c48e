use Rattle.dex_cancel.proofs.MarketLaws.{AreOf-left, named-parts}
use Rattle.dex_cancel.proofs.laws.a_market_is_left_by_its_parts.Goals as goal

pub returns-clause-named : goal.returns-clause-named
returns-clause-named c = named-parts

pub returns-clause-left : goal.returns-clause-left
returns-clause-left c = AreOf-left
