-- Which accounts are accepted: each by itself, and all together.
use Rattle.std.specs.Prelude.{◌≡◌, ◌≤◌, true, false, length, All, IfSome, Option, Some}
use Rattle.dex_types.specs.declared.addresses.Address.{Address}
use Rattle.dex_types.specs.Accounts.{PlainAccount, PlainAccounts, PlainMarketAccounts}
use Rattle.dex_types.specs.Addresses.{is_same}
use Rattle.dex_market.specs.MarketAccount.{market_words}
use Rattle.dex_token.specs.MintAccount.{IsMint}
use Rattle.dex_token.specs.TokenAccount.{IsWallet, wallet_words}
use Rattle.dex_accounts.specs.Accepted.{IsAccepted}
use Rattle.dex_types.specs.declared.limits.Limits.{Limits}
use Rattle.dex_types.specs.Limits.{AreLimits}
use Rattle.dex_state.specs.Addresses.{addresses_of, is_mint, times}

-- an address is a mint's
abbrev pub IsMintOf : PlainAccounts → Address → Type 0
IsMintOf accounts address = is_mint accounts address ≡ true

-- no mint is named under both names
abbrev pub AreApart : Option Address → Option Address → Type 0
AreApart (Some srm) (Some msrm) = is_same srm msrm ≡ false
AreApart _ _ = Unit {0}

-- both mints of a market are declared
pub record HasMints (accounts : PlainAccounts) (market : PlainMarketAccounts) : Type 0 where
  pub coin : IsMintOf accounts (market_words market.market).terms.coin_mint
  pub pc : IsMintOf accounts (market_words market.market).terms.pc_mint

-- a market has no more open-orders accounts than the limits allow
abbrev pub HasFew : Limits → PlainMarketAccounts → Type 0
HasFew limits market = length market.orders ≤ limits.orders

-- the accounts are accepted: each as an account of its kind; wallets and markets are of mints that there are; no
-- address is that of two accounts; SRM and MSRM are two of the mints; and no limit is passed
pub record AreAccepted (limits : Limits) (accounts : PlainAccounts) : Type 0 where
  pub mints : All (λ (mint : PlainAccount). IsMint mint.bytes) accounts.mints
  pub wallets : All (λ (wallet : PlainAccount). IsWallet wallet.bytes) accounts.wallets
  pub markets : All IsAccepted accounts.markets
  pub wallet_mints : All (λ (wallet : PlainAccount). IsMintOf accounts (wallet_words wallet.bytes).mint) accounts.wallets
  pub market_mints : All (HasMints accounts) accounts.markets
  pub once : (address : Address) → times address (addresses_of accounts) ≤ 1
  pub srm : IfSome accounts.srm (IsMintOf accounts)
  pub msrm : IfSome accounts.msrm (IsMintOf accounts)
  pub apart : AreApart accounts.srm accounts.msrm
  pub within : AreLimits limits
  pub few_mints : length accounts.mints ≤ limits.mints
  pub few_wallets : length accounts.wallets ≤ limits.wallets
  pub few_markets : length accounts.markets ≤ limits.markets
  pub few_orders : All (HasFew limits) accounts.markets
