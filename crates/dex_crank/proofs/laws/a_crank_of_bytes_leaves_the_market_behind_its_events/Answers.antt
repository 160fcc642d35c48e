use Rattle.std.proofs.Common.{ap}
use Rattle.dex_types.specs.Payment.{consumable}
use Rattle.dex_accounts.proofs.PartLaws.{events_in-parts}
use Rattle.dex_crank.proofs.CountLaws.{consumable-le}
use Rattle.dex_crank.proofs.PartLaws.{AreOf-cranked}
use Rattle.dex_crank.proofs.laws.a_crank_of_bytes_leaves_the_market_behind_its_events.Goals as goal

pub returns-clause-leaves : goal.returns-clause-leaves
returns-clause-leaves c = AreOf-cranked

pub returns-clause-count : goal.returns-clause-count
returns-clause-count c = λ parts m limit named are. ap (consumable limit named) (events_in-parts parts m are)

pub returns-clause-within : goal.returns-clause-within
returns-clause-within c = consumable-le
