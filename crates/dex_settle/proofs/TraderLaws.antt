-- what trader an account that is not open is
use Rattle.std.proofs.Common.{◌≡◌, ℕ, List, refl, arith}
use Rattle.dex_fields.specs.declared.open_orders.TheConstants.{ACCOUNT_FLAGS}
use Rattle.dex_fields.specs.Bytes.{number_in}
use Rattle.dex_types.specs.Trader.{Blank, Closed}
use Rattle.dex_orders.specs.OrdersAccount.{IsBlank, IsClosed}
use Rattle.dex_orders.specs.StandsFor.{trader_of}
use Rattle.dex_orders.proofs.BlankLaw.{number_in-zeros}

-- a blank account is the blank trader
pub trader_of-blank : (bytes : List ℕ) → IsBlank bytes → trader_of bytes ≡ Blank
trader_of-blank bytes blank =
    let flags : number_in bytes ACCOUNT_FLAGS ≡ 0 = number_in-zeros bytes blank.zeros ACCOUNT_FLAGS (omega (arith, blank.size)) in
    rw flags refl

-- a closed account is the closed trader
pub trader_of-closed : (bytes : List ℕ) → IsClosed bytes → trader_of bytes ≡ Closed
trader_of-closed bytes closed = rw closed.flags refl
