use Rattle.std.proofs.Common.{refl, sym}
use Rattle.dex_match.proofs.EarlyReasons.{free_slot-all}
use Rattle.dex_match.proofs.order_refusals.lowest_slot.Goals as goal

pub returns-in-None : goal.returns-in-None
returns-in-None c = sym (free_slot-all c.args.orders.now.bytes.now (c.in-None.ensures.none.0 refl))
