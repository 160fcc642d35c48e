-- Resting orders with their sides.
use Rattle.std.specs.Prelude.{Option, Some, None, if◌then◌else◌}
use Rattle.std.specs.Option.{option_map}
use Rattle.dex_types.specs.declared.addresses.Address.{Address}
use Rattle.dex_types.specs.declared.orders.Order.{Order}
use Rattle.dex_types.specs.declared.terms.Side.{Side}
use Rattle.dex_types.specs.Addresses.{is_same}
use Rattle.dex_types.specs.Cancel.{RestingOrder}
use Rattle.dex_eager_market.specs.declared.listing.Resting.{Resting}

-- the resting order
abbrev pub resting_of : Resting → RestingOrder
resting_of resting = record { side = resting.side; order = resting.order }

-- the resting order, if there is one
abbrev pub resting_there : Option Resting → Option RestingOrder
resting_there = option_map resting_of

-- an order of this side that may be there, where it is the owner's
abbrev pub own_resting : Address → Side → Option Order → Option RestingOrder
own_resting owner side None = None
own_resting owner side (Some order) = if is_same owner order.owner then Some (record { side = side; order = order }) else None
