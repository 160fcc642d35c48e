-- What a step leaves of a market's accounts.
use Rattle.std.specs.Prelude.{◌≡◌, ℕ, ◌+◌, ◌-◌, ◌<◌, ◌≤◌, ◌^◌, List, map}
use Rattle.std.specs.List.{All}
use Rattle.dex_types.specs.declared.addresses.Address.{Address}
use Rattle.dex_types.specs.declared.replies.Reply.{Reply}
use Rattle.dex_types.specs.declared.terms.Side.{Side}
use Rattle.dex_types.specs.declared.terms.Side.TheVariants.{Bid, Ask}
use Rattle.dex_types.specs.Accounts.{PlainAccount, PlainMarketAccounts}
use Rattle.dex_types.specs.Side.{by_side, opposite}
use Rattle.dex_types.specs.Steps.{Step}
use Rattle.dex_accounts.specs.Accepted.{IsAccepted, NamesMarket}
use Rattle.dex_accounts.specs.Decoded.{AreSound, market_in}
use Rattle.dex_accounts.specs.Parts.{MarketParts, parts_of}
use Rattle.dex_ring.specs.declared.pending_fills.PendingFills.{PendingFills}
use Rattle.dex_ring.specs.PendingFills.{pending_fills_of}
use Rattle.dex_slab.specs.StandsFor.{IsSideAccount}
use Rattle.dex_token.specs.TokenAccount.{IsWallet, wallet_words}

-- the vault is of the same mint and the same owner as before, and holds this native amount now
pub record Holds (before after : List ℕ) (amount : ℕ) : Type 0 where
  pub accepted : IsWallet after
  pub words : wallet_words after ≡ record (wallet_words before) { amount = amount }

-- the addresses of accounts, in their order
abbrev pub addresses_of : List PlainAccount → List Address
addresses_of accounts = map (λ (account : PlainAccount). account.address) accounts

-- each account has the address that it had, and where each account that was ever opened named the market, each still
-- does
pub record KeepNames (market : Address) (before after : List PlainAccount) : Type 0 where
  pub addresses : addresses_of after ≡ addresses_of before
  pub named : All (NamesMarket market) before → All (NamesMarket market) after

-- the market's address and its authority are as before, and its vaults hold these native amounts of base and of quote
pub record HaveVaults (before after : PlainMarketAccounts) (coin pc : ℕ) : Type 0 where
  pub address : after.address ≡ before.address
  pub authority : after.authority ≡ before.authority
  pub coin_vault : Holds before.coin_vault after.coin_vault coin
  pub pc_vault : Holds before.pc_vault after.pc_vault pc

-- the accounts have these parts now, and their vaults hold these native amounts of base and of quote; all else is as it
-- was
pub record Leaves (before after : PlainMarketAccounts) (parts : MarketParts) (coin pc : ℕ) : Type 0 where
  pub vaults : HaveVaults before after coin pc
  pub parts_are : parts_of after ≡ parts
  pub bids : IsSideAccount Bid after.bids
  pub asks : IsSideAccount Ask after.asks
  pub names : KeepNames before.address before.orders after.orders

-- what stays of a market's accounts: the market's address, its authority, each open-orders account's address, and that
-- all are accepted, where they were
pub record KeepsAccounts (before after : PlainMarketAccounts) : Type 0 where
  pub address : after.address ≡ before.address
  pub authority : after.authority ≡ before.authority
  pub addresses : addresses_of after.orders ≡ addresses_of before.orders
  pub accepted : IsAccepted before → IsAccepted after

-- a market's accounts by what each holds
abbrev pub accounts_with : Address → Address → List ℕ → List ℕ → List ℕ → List ℕ → List ℕ → List ℕ → List ℕ
    → List PlainAccount → PlainMarketAccounts
accounts_with address authority market coin_vault pc_vault requests events bids asks orders = record {
  address = address;
  authority = authority;
  market = market;
  coin_vault = coin_vault;
  pc_vault = pc_vault;
  requests = requests;
  events = events;
  bids = bids;
  asks = asks;
  orders = orders;
}

-- a step of the market was done on its accounts: its reply was answered, they are those of the market that it leaves,
-- which is sound, and the sums are those of the events that are pending there
pub record HasStepped (before after : PlainMarketAccounts) (reply : Reply) (pending : PendingFills) (s : Step) : Type 0 where
  pub reply_is : reply ≡ s.reply
  pub market : market_in after ≡ s.market
  pub sound : AreSound after
  pub pending_is : pending ≡ pending_fills_of (market_in after).events
  pub kept : KeepsAccounts before after

-- ---- vaults

-- the vault that an order of the side pays into
abbrev pub vault_paid : Side → PlainMarketAccounts → List ℕ
vault_paid side accounts = by_side side accounts.pc_vault accounts.coin_vault

-- the native base in the base vault
abbrev pub coin_held : PlainMarketAccounts → ℕ
coin_held accounts = (wallet_words accounts.coin_vault).amount

-- the native quote in the quote vault
abbrev pub pc_held : PlainMarketAccounts → ℕ
pc_held accounts = (wallet_words accounts.pc_vault).amount

-- both vaults are token accounts, and what an order of the side pays fits its vault
pub record CanTakeIn (side : Side) (amount : ℕ) (accounts : PlainMarketAccounts) : Type 0 where
  pub coin : IsWallet accounts.coin_vault
  pub pc : IsWallet accounts.pc_vault
  pub fits : (wallet_words (vault_paid side accounts)).amount + amount < 2 ^ 64

-- one vault can take in what is paid, and what is got is in the other one
pub record CanExchange (side : Side) (paid got : ℕ) (accounts : PlainMarketAccounts) : Type 0 where
  pub takes_in : CanTakeIn side paid accounts
  pub held : got ≤ (wallet_words (vault_paid (opposite side) accounts)).amount

-- the vaults hold what an order of the side paid too
abbrev pub HaveTakenIn : Side → ℕ → PlainMarketAccounts → PlainMarketAccounts → Type 0
HaveTakenIn side amount before after =
    HaveVaults before after (coin_held before + by_side side 0 amount) (pc_held before + by_side side amount 0)

-- one vault has what was paid besides, and the other no longer what was got
abbrev pub HaveExchanged : Side → ℕ → ℕ → PlainMarketAccounts → PlainMarketAccounts → Type 0
HaveExchanged side paid got before after =
    HaveVaults before after (coin_held before + by_side side 0 paid - by_side side got 0) (pc_held before + by_side side paid 0 - by_side side 0 got)

-- the bytes of a side
abbrev pub bytes_on : Side → PlainMarketAccounts → List ℕ
bytes_on side accounts = by_side side accounts.bids accounts.asks
