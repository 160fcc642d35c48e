-- What settling, opening and closing are given of the bytes of a market's accounts, and what they leave of them.
use Rattle.std.specs.Prelude.{◌≡◌, ℕ, List, Some}
use Rattle.dex_types.specs.declared.addresses.Address.{Address}
use Rattle.dex_types.specs.Accounts.{PlainAccount}
use Rattle.dex_types.specs.Upkeep.{fresh_account}
use Rattle.dex_accounts.specs.Owners.{bytes_at, changed_at}
use Rattle.dex_market.specs.MarketAccount.{IsMarket}
use Rattle.dex_orders.specs.OrdersAccount.{IsClosed, IsEmptyAccount, IsOpen, account_of, market_of}
use Rattle.dex_settle.specs.declared.plan.SettlePlan.{SettlePlan}
use Rattle.dex_settle.specs.PayingOut.{PaysOut, settled}
use Rattle.dex_settle.specs.SettleGiven.{IsOfSound, given}

-- the owner's account is there, and meets the condition `Can`
pub record CanChange (owner : Address) (Can : List ℕ → Type 0) (accounts : List PlainAccount) : Type 0 where
  pub account : List ℕ
  pub found : bytes_at owner accounts ≡ Some account
  pub can : Can account

-- `Has` holds of the owner's account as it was and as it is, and all other accounts are as they were
pub record HasChanged (owner : Address) (Has : List ℕ → List ℕ → Type 0) (before after : List PlainAccount) : Type 0 where
  pub was : List ℕ
  pub now : List ℕ
  pub found : bytes_at owner before ≡ Some was
  pub changed : after ≡ changed_at owner (λ old. now) before
  pub has : Has was now

-- a plan can be settled on these bytes of the market account and of an open account
pub record CanSettle (plan : SettlePlan) (market account : List ℕ) : Type 0 where
  pub accepted : IsMarket market
  pub opened : IsOpen account
  pub parts : IsOfSound (given market account)
  pub out : PaysOut plan (account_of account)

-- it was settled on them
pub record HasSettled (plan : SettlePlan) (market market' account account' : List ℕ) : Type 0 where
  pub does : given market' account' ≡ settled plan (given market account)
  pub opened : IsOpen account'

-- an account of the market of this address was opened for its owner
pub record HasOpened (market person : Address) (account account' : List ℕ) : Type 0 where
  pub opened : IsOpen account'
  pub market_is : market_of account' ≡ market
  pub words : account_of account' ≡ fresh_account person

-- an account can be closed: it is open, without funds and orders
pub record CanClose (account : List ℕ) : Type 0 where
  pub opened : IsOpen account
  pub empty : IsEmptyAccount (account_of account)

-- it was closed for good
pub record HasClosed (account account' : List ℕ) : Type 0 where
  pub closed : IsClosed account'
  pub market_is : market_of account' ≡ market_of account
