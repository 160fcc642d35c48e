-- Accounts without their buffers, so that a contract compares bytes and not where they lie.
use Rattle.std.specs.Prelude.{ℕ, List, Option, map}
use Rattle.dex_types.specs.declared.account_bytes.Accounts.{Accounts}
use Rattle.dex_types.specs.declared.account_bytes.MarketAccounts.{MarketAccounts}
use Rattle.dex_types.specs.declared.account_bytes.Named.{Named}
use Rattle.dex_types.specs.declared.account_bytes.OrdersAccount.{OrdersAccount}
use Rattle.dex_types.specs.declared.addresses.Address.{Address}

-- an account: its address and its bytes
pub record PlainAccount : Type 0 where
  pub address : Address
  pub bytes : List ℕ

-- the accounts of a market, with lists for their bytes
pub record PlainMarketAccounts : Type 0 where
  pub address : Address
  pub authority : Address
  pub market : List ℕ
  pub coin_vault : List ℕ
  pub pc_vault : List ℕ
  pub requests : List ℕ
  pub events : List ℕ
  pub bids : List ℕ
  pub asks : List ℕ
  pub orders : List PlainAccount

-- all accounts, with lists for their bytes
pub record PlainAccounts : Type 0 where
  pub mints : List PlainAccount
  pub srm : Option Address
  pub msrm : Option Address
  pub wallets : List PlainAccount
  pub markets : List PlainMarketAccounts

-- the account of an open-orders account
abbrev pub orders_account_of : OrdersAccount → PlainAccount
orders_account_of account = record { address = account.address; bytes = account.bytes.items }

-- the account of a mint or a wallet
abbrev pub named_of : Named → PlainAccount
named_of account = record { address = account.address; bytes = account.bytes.items }

-- what a market's accounts hold
abbrev pub market_accounts_of : MarketAccounts → PlainMarketAccounts
market_accounts_of accounts = record {
  address = accounts.address;
  authority = accounts.authority;
  market = accounts.market.items;
  coin_vault = accounts.coin_vault.items;
  pc_vault = accounts.pc_vault.items;
  requests = accounts.requests.items;
  events = accounts.events.items;
  bids = accounts.bids.items;
  asks = accounts.asks.items;
  orders = map orders_account_of accounts.orders.items;
}

-- what all accounts hold
abbrev pub accounts_of : Accounts → PlainAccounts
accounts_of accounts = record {
  mints = map named_of accounts.mints.items;
  srm = accounts.srm;
  msrm = accounts.msrm;
  wallets = map named_of accounts.wallets.items;
  markets = map market_accounts_of accounts.markets.items;
}
