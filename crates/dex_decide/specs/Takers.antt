-- The taker of an order or of a take, as its row states it.
use Rattle.std.specs.Prelude.{Option, Some, None}
use Rattle.dex_types.specs.declared.instructions.Ix.{Ix}
use Rattle.dex_types.specs.declared.instructions.Ix.TheVariants.{NewOrderV3, SendTake}
use Rattle.dex_types.specs.declared.rows.Seen.{Seen}
use Rattle.dex_types.specs.Requests.{Request}
use Rattle.dex_types.specs.Terms.{terms_order, terms_take}
use Rattle.dex_match.specs.declared.order_terms.Taker.{Taker}
use Rattle.dex_plan.specs.Plans.{taker_of, taker_of_take}

-- the taker that an instruction states: that of a new order, for the signer, and that of a take
abbrev pub taker_in : Ix → Request → Seen → Option Taker
taker_in (NewOrderV3 side price lots max_pc self_trade order_type client limit latest) request seen =
    Some (taker_of side (terms_order request seen price lots max_pc self_trade order_type client limit latest request.signer))
taker_in (SendTake side price lots max_pc min_lots min_pc limit) request seen =
    Some (taker_of_take side request (terms_take seen price lots max_pc min_lots min_pc limit))
taker_in _ request seen = None
