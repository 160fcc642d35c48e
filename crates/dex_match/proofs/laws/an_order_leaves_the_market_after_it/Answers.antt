use Rattle.dex_match.proofs.AfterLaws.{order-leaves}
use Rattle.dex_match.proofs.laws.an_order_leaves_the_market_after_it.Goals as goal

pub returns : goal.returns
returns c taker parts m bytes after sound are has done = order-leaves taker parts m bytes after sound are has done
