-- what is read of slots
use Rattle.std.proofs.Common.{◌≡◌, Option, Some, None, refl}
use Rattle.std.specs.Option.{option_map}
use Rattle.dex_types.specs.Trader.{Holding}
use Rattle.dex_orders.specs.OrdersAccount.{told_holding}
use Rattle.dex_totals.specs.Reading.{held_in}

-- a slot that is told is held as it was
pub held_in-told : (held : Option Holding) → held_in (option_map told_holding held) ≡ held
held_in-told None = refl
held_in-told (Some held) = refl
