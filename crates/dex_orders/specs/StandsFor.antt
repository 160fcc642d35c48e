-- Which trader the bytes of an open-orders account stand for.
use Rattle.std.specs.Prelude.{◌≡◌, ℕ, List, map, if◌then◌else◌, ◌==◌}
use Rattle.std.specs.List.{All}
use Rattle.dex_fields.specs.declared.open_orders.TheConstants.{ACCOUNT_FLAGS}
use Rattle.dex_fields.specs.Bytes.{number_in}
use Rattle.dex_types.specs.declared.addresses.Address.{Address}
use Rattle.dex_types.specs.Accounts.{PlainAccount}
use Rattle.dex_types.specs.Trader.{Trader, Blank, Closed, Open, Traders}
use Rattle.dex_orders.specs.OrdersAccount.{IsOpen, IsOrders, account_of, market_of}

-- the trader whose account the bytes are
abbrev pub trader_of : List ℕ → Trader
trader_of bytes =
    if number_in bytes ACCOUNT_FLAGS == 5
    then Open (account_of bytes)
    else (if number_in bytes ACCOUNT_FLAGS == 256 then Closed else Blank)

-- the bytes are the account of this trader, on the market of this address
pub record StandsForTrader (bytes : List ℕ) (market : Address) (trader : Trader) : Type 0 where
  pub accepted : IsOrders bytes
  pub stands : trader_of bytes ≡ trader
  pub on_market : IsOpen bytes → market_of bytes ≡ market

-- the trader that an open-orders account stands for, with its address
abbrev pub entry_of : PlainAccount → Address × Trader
entry_of account = (account.address, trader_of account.bytes)

-- the traders that open-orders accounts stand for, in their order
abbrev pub traders_of : List PlainAccount → Traders
traders_of accounts = map entry_of accounts

-- an account of the market of this address, whoever's it is
abbrev pub IsOnMarket : Address → PlainAccount → Type 0
IsOnMarket market account = StandsForTrader account.bytes market (trader_of account.bytes)

-- the accounts are, in their order, those of these traders, on the market of this address
pub record StandForTraders (accounts : List PlainAccount) (market : Address) (traders : Traders) : Type 0 where
  pub each : All (IsOnMarket market) accounts
  pub stand : traders_of accounts ≡ traders
