use Rattle.std.proofs.Common.{refl, sym}
use Rattle.dex_match.proofs.EarlyReasons.{no_slot-all}
use Rattle.dex_match.proofs.order_refusals.no_slot.Goals as goal

pub returns-in-None : goal.returns-in-None
returns-in-None c = sym (no_slot-all c.args.orders.now.bytes.now (c.in-None.ensures.none.0 refl))
