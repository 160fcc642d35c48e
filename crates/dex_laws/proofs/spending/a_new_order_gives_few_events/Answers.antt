use Rattle.dex_laws.proofs.OrderLaws.{length-order_on}
use Rattle.dex_laws.proofs.spending.a_new_order_gives_few_events.Goals as goal

pub returns : goal.returns
returns c = length-order_on
