-- Market accounts.
use Rattle.std.specs.Prelude.{List, [], All, Option, Some, None}
use Rattle.dex_types.specs.declared.addresses.Address.{Address}
use Rattle.dex_types.specs.Accounts.{PlainMarketAccounts}
use Rattle.dex_make.specs.declared.market.MarketSet.{MarketSet}
use Rattle.dex_make.specs.MarketBytes.{made_accounts}
use Rattle.dex_market.specs.MarketAccount.{IsMarket}

-- the market account of each is one
abbrev pub AreMarkets : List PlainMarketAccounts → Type 0
AreMarkets markets = All (λ (market : PlainMarketAccounts). IsMarket market.market) markets

-- a market of which only the address and who signs for it are known
abbrev pub no_accounts_of : Address → Address → PlainMarketAccounts
no_accounts_of address authority = record {
  address = address;
  authority = authority;
  market = [];
  coin_vault = [];
  pc_vault = [];
  requests = [];
  events = [];
  bids = [];
  asks = [];
  orders = [];
}

-- these accounts, or those that are made of this
abbrev pub made_or : Option MarketSet → PlainMarketAccounts → PlainMarketAccounts
made_or None accounts = accounts
made_or (Some set) accounts = made_accounts set

-- the accounts of a market, where all but the open-orders accounts may be still to be made
abbrev pub market_of : Option MarketSet → PlainMarketAccounts → PlainMarketAccounts
market_of set accounts =
    record (made_or set accounts) { address = accounts.address; authority = accounts.authority; orders = accounts.orders }
