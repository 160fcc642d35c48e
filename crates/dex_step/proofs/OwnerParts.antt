-- The open account of an owner among a sound market's accounts, and what stays of the accounts where it is given other
-- bytes.
use Rattle.std.proofs.Common.{◌≡◌, ℕ, List, Some, sym, ap, ◌∙◌, inl, inr}
use Rattle.dex_types.specs.declared.addresses.Address.{Address}
use Rattle.dex_types.specs.Accounts.{PlainAccount, PlainMarketAccounts}
use Rattle.dex_types.specs.Trader.{Account, Blank, Closed, Open, Trader, trader_at}
use Rattle.dex_orders.specs.OrdersAccount.{IsOpen, IsOpened, IsOrders, account_of, market_of}
use Rattle.dex_orders.specs.StandsFor.{StandForTraders, StandsForTrader, trader_of}
use Rattle.dex_settle.proofs.TraderLaws.{trader_of-blank, trader_of-closed}
use Rattle.dex_accounts.specs.Decoded.{AreSound, market_in}
use Rattle.dex_accounts.specs.Owners.{bytes_at, changed_at}
use Rattle.dex_accounts.specs.Parts.{HasOpen, parts_of}
use Rattle.dex_accounts.proofs.OwnerLaws.{All-bytes_at, All-changed_at, Stands, addresses-changed_at, bytes_at-changed_at, stands-of}
use Rattle.dex_accounts.proofs.PartLaws.{trader_of-open}
use Rattle.dex_step.specs.Acting.{KeepNames}

-- accepted bytes that stand for an open trader are open
open-of : (bytes : List ℕ) (account : Account) → IsOrders bytes → trader_of bytes ≡ Open account → IsOpen bytes × (account_of bytes ≡ account)
open-of bytes account (inl blank) stands =
    let e : Blank ≡ Open account = sym (trader_of-blank bytes blank) ∙ stands in
    absurd (cc)
open-of bytes account (inr (inl opened)) stands =
    let e : Open (account_of bytes) ≡ Open account = sym (trader_of-open bytes opened) ∙ stands in
    let same : account_of bytes ≡ account = cc in
    (opened, same)
open-of bytes account (inr (inr closed)) stands =
    let e : Closed ≡ Open account = sym (trader_of-closed bytes closed) ∙ stands in
    absurd (cc)

-- the account of an open trader of the market
pub record OpenAt (owner : Address) (account : Account) (accounts : PlainMarketAccounts) : Type 0 where
  pub bytes : List ℕ
  pub has : HasOpen owner bytes (parts_of accounts)
  pub is : account_of bytes ≡ account

pub open-at : (owner : Address) (account : Account) (accounts : PlainMarketAccounts) → AreSound accounts → trader_at owner (market_in accounts).traders ≡ Some (Open account)
    → OpenAt owner account accounts
open-at owner account accounts sound known =
    let at : Stands owner (Open account) accounts.orders = stands-of owner (Open account) accounts.orders (ap (trader_at owner) sound.stands.traders.stand ∙ known) in
    let market : Address = (market_in accounts).listing.address in
    let on : StandsForTrader at.bytes market (trader_of at.bytes) =
    All-bytes_at (λ (b : List ℕ). StandsForTrader b market (trader_of b)) owner accounts.orders at.bytes sound.stands.traders.each at.found in
    let opened = open-of at.bytes account on.accepted at.stands in
    record { bytes = at.bytes; has = record { found = at.found; accepted = opened.0 }; is = opened.1 }

-- where an account gets other bytes that name the market, if they were ever opened, each still does that did
pub names-changed : (market owner : Address) (old now : List ℕ) (accounts : List PlainAccount) → bytes_at owner accounts ≡ Some old → (IsOpened now → market_of now ≡ market)
    → KeepNames market accounts (changed_at owner (λ was. now) accounts)
names-changed market owner old now accounts found named = record {
  addresses = addresses-changed_at owner (λ was. now) accounts;
  named = λ all. All-changed_at (λ (b : List ℕ). IsOpened b → market_of b ≡ market) owner (λ was. now) accounts all (λ bytes at. named);
}

-- an open account among those of traders names their market
pub open-named : (market owner : Address) (old now : List ℕ) (accounts : List PlainAccount) (traders : List (Address × Trader)) → bytes_at owner accounts ≡ Some old
    → StandForTraders (changed_at owner (λ was. now) accounts) market traders → IsOpen now → market_of now ≡ market
open-named market owner old now accounts traders found stand opened =
    let on : StandsForTrader now market (trader_of now) =
    All-bytes_at (λ (b : List ℕ). StandsForTrader b market (trader_of b)) owner (changed_at owner (λ was. now) accounts) now stand.each (bytes_at-changed_at owner (λ was. now) accounts old found) in
    on.on_market opened
