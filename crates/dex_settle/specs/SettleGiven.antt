-- What settling is handed, which parts of a market these are, and how they are put back; and that one wallet under two
-- roles has one mint.
use Rattle.std.specs.Prelude.{◌≡◌, ℕ, List, Option, Some}
use Rattle.dex_types.specs.declared.addresses.Address.{Address}
use Rattle.dex_types.specs.declared.rows.Seen.{Seen}
use Rattle.dex_types.specs.declared.rows.WalletSeen.{WalletSeen}
use Rattle.dex_market.specs.declared.market_ref.MarketRef.{MarketRef}
use Rattle.dex_market.specs.declared.market_view.MarketView.{MarketView}
use Rattle.dex_orders.specs.declared.orders_ref.OrdersRef.{OrdersRef}
use Rattle.dex_orders.specs.declared.orders_view.OrdersView.{OrdersView}
use Rattle.dex_accounts.specs.Parts.{AreSoundParts, HasOpen, MarketParts, with_account}

-- the bytes of the market account, and of the open account that is settled
pub record SettleGiven : Type 0 where
  pub market : List ℕ
  pub account : List ℕ

-- what settling is handed, of these bytes
abbrev pub given : List ℕ → List ℕ → SettleGiven
given market account = record { market = market; account = account }

-- what a call that settles is handed
abbrev pub handed : MarketView → OrdersView → SettleGiven
handed market orders = given market.bytes.now orders.bytes.now

-- what a call that decides it is shown
abbrev pub shown : MarketRef → OrdersRef → SettleGiven
shown market orders = given market.bytes.now orders.bytes.now

-- what settling an account of these bytes is given of the parts of a market
abbrev pub settle_given : List ℕ → MarketParts → SettleGiven
settle_given account parts = given parts.market account

-- the parts of a market with that put back for the account of an address
abbrev pub with_settled : Address → SettleGiven → MarketParts → MarketParts
with_settled owner left parts = record (with_account owner left.account parts) { market = left.market }

-- what is given are the market account and one open account among the parts of a sound market
pub record IsOfSound (given : SettleGiven) : Type 0 where
  pub owner : Address
  pub whole : MarketParts
  pub sound : AreSoundParts whole
  pub has : HasOpen owner given.account whole
  pub is : settle_given given.account whole ≡ given

-- where two roles see a wallet of one address, they see it with one mint
abbrev pub HaveOneMint : Option WalletSeen → Option WalletSeen → Type 0
HaveOneMint role other =
    (wallet same : WalletSeen) → role ≡ Some wallet → other ≡ Some same → wallet.address ≡ same.address → wallet.mint ≡ same.mint

-- the coin wallet is no wallet of another mint under another role
pub record HasOneCoinMint (seen : Seen) : Type 0 where
  pub pc : HaveOneMint seen.coin seen.pc
  pub referrer : HaveOneMint seen.coin seen.referrer
