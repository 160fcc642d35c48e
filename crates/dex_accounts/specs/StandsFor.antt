-- Which market the accounts of a market stand for.
use Rattle.std.specs.Prelude.{◌≡◌}
use Rattle.dex_types.specs.declared.terms.Side.TheVariants.{Bid, Ask}
use Rattle.dex_types.specs.Accounts.{PlainMarketAccounts}
use Rattle.dex_types.specs.Market.{Market}
use Rattle.dex_types.specs.Side.{Coin, Pc}
use Rattle.dex_market.specs.StandsFor.{StandsForMarket, StandsForRequests}
use Rattle.dex_orders.specs.StandsFor.{StandForTraders}
use Rattle.dex_ring.specs.StandsFor.{StandsForEvents}
use Rattle.dex_slab.specs.StandsFor.{StandsForSide}
use Rattle.dex_token.specs.StandsFor.{StandsForVault}

-- the accounts are those of this market: its addresses, and account by account what each of them says
pub record StandsFor (accounts : PlainMarketAccounts) (market : Market) : Type 0 where
  pub address : accounts.address ≡ market.listing.address
  pub authority : accounts.authority ≡ market.listing.authority
  pub terms : StandsForMarket accounts.market market
  pub coin_vault : StandsForVault accounts.coin_vault Coin market
  pub pc_vault : StandsForVault accounts.pc_vault Pc market
  pub requests : StandsForRequests accounts.requests market
  pub events : StandsForEvents accounts.events market
  pub bids : StandsForSide accounts.bids Bid market
  pub asks : StandsForSide accounts.asks Ask market
  pub traders : StandForTraders accounts.orders market.listing.address market.traders
