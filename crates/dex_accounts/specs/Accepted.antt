-- Which accounts of a market are accepted: each by itself, and together.
use Rattle.std.specs.Prelude.{◌≡◌}
use Rattle.std.specs.List.{All}
use Rattle.dex_types.specs.declared.addresses.Address.{Address}
use Rattle.dex_types.specs.declared.terms.Side.TheVariants.{Bid, Ask}
use Rattle.dex_types.specs.Accounts.{PlainAccount, PlainMarketAccounts}
use Rattle.dex_market.specs.MarketAccount.{IsMarket, market_words}
use Rattle.dex_market.specs.RequestQueue.{IsRequestQueue}
use Rattle.dex_orders.specs.OrdersAccount.{IsOpened, IsOrders, market_of}
use Rattle.dex_ring.specs.Ring.{IsEventQueue}
use Rattle.dex_slab.specs.StandsFor.{IsSideAccount}
use Rattle.dex_token.specs.TokenAccount.{IsWallet, wallet_words}

-- an open-orders account that was ever opened, also one that is closed, names this market
abbrev pub NamesMarket : Address → PlainAccount → Type 0
NamesMarket market account = IsOpened account.bytes → market_of account.bytes ≡ market

-- the accounts of a market are accepted: each as an account of its kind, the market account names its own address, the
-- vaults are of the market's mints, and every open-orders account that was ever opened names the market
pub record IsAccepted (accounts : PlainMarketAccounts) : Type 0 where
  pub market : IsMarket accounts.market
  pub requests : IsRequestQueue accounts.requests
  pub events : IsEventQueue accounts.events
  pub bids : IsSideAccount Bid accounts.bids
  pub asks : IsSideAccount Ask accounts.asks
  pub coin_vault : IsWallet accounts.coin_vault
  pub pc_vault : IsWallet accounts.pc_vault
  pub orders : All (λ (account : PlainAccount). IsOrders account.bytes) accounts.orders
  pub own_address : (market_words accounts.market).terms.own_address ≡ accounts.address
  pub coin_mint : (wallet_words accounts.coin_vault).mint ≡ (market_words accounts.market).terms.coin_mint
  pub pc_mint : (wallet_words accounts.pc_vault).mint ≡ (market_words accounts.market).terms.pc_mint
  pub named : All (NamesMarket accounts.address) accounts.orders
