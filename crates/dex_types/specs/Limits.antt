-- Which limits there may be.
use Rattle.std.specs.Prelude.{◌≤◌}
use Rattle.dex_types.specs.declared.limits.Limits.{Limits}
use Rattle.dex_types.specs.declared.limits.TheConstants.{WIDE}

-- none is above the widest, so what they allow is counted by numbers of 16 and 32 bits
pub record AreLimits (limits : Limits) : Type 0 where
  pub mints : limits.mints ≤ WIDE.mints
  pub wallets : limits.wallets ≤ WIDE.wallets
  pub markets : limits.markets ≤ WIDE.markets
  pub orders : limits.orders ≤ WIDE.orders
  pub items : limits.items ≤ WIDE.items
