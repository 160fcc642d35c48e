-- One market among others that is migrated.
use Rattle.std.specs.Prelude.{◌≡◌, ℕ, List, slice_index_or, slice_set}
use Rattle.dex_migrate.specs.Migrated.{IsMigrated}
use Rattle.dex_types.specs.declared.account_bytes.MarketAccounts.{MarketAccounts}
use Rattle.dex_types.specs.Accounts.{market_accounts_of}

-- the market at this place was migrated, and all others are as they were
pub record IsMigratedAt (nodes events place : ℕ) (default : MarketAccounts) (old new : List MarketAccounts) : Type 0 where
  pub here : IsMigrated nodes events (market_accounts_of (slice_index_or old place default)) (market_accounts_of (slice_index_or new place default))
  pub others : slice_set old place (slice_index_or new place default) ≡ new
