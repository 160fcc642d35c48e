use Rattle.dex_laws.proofs.BestFirstLaws.{meet-crosses}
use Rattle.dex_laws.proofs.matching.no_order_past_the_limit_is_met.Goals as goal

pub returns : goal.returns
returns c = meet-crosses
