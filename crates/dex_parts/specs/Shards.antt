-- A script in shards: markets and wallets that no row joins fall apart, and each shard is a script of its own.
use Rattle.std.specs.Prelude.{◌≡◌, ◌==◌, ℕ, zero, suc, ◌+◌, Bool, true, List, All}
use Rattle.std.specs.List.{AllPairs, AllZip, filter}
use Rattle.dex_types.specs.declared.addresses.Address.{Address}
use Rattle.dex_types.specs.Accounts.{PlainAccount, PlainAccounts, PlainMarketAccounts}
use Rattle.dex_types.specs.Rows.{PlainRow}
use Rattle.dex_world.specs.Fold.{names}
use Rattle.dex_world.specs.Groups.{members}
use Rattle.dex_world.specs.Items.{Item}
use Rattle.dex_world.specs.World.{MarketState, WalletState, World}
use Rattle.dex_state.specs.Outcomes.{PlainMarketJournal, PlainOutcome, PlainWalletJournal}
use Rattle.dex_script_types.specs.PlainScript.{PlainScript}
use Rattle.dex_replay.specs.Alike.{StandForOne}

-- the number of the shard of each market and of each wallet, by address
pub record Sharding : Type 0 where
  pub market : Address → ℕ
  pub wallet : Address → ℕ

-- ---- what falls into shards

-- a row's wallets are of its market's shard
abbrev pub IsOfOneShard : Sharding → PlainRow → Type 0
IsOfOneShard sharding row =
    (wallet : Address) → names row wallet ≡ true → sharding.wallet wallet ≡ sharding.market row.market

-- rows of one number, which are the legs of a swap, are of one shard
abbrev pub AreOfOneShard : Sharding → PlainRow → PlainRow → Type 0
AreOfOneShard sharding one other = one.number ≡ other.number → sharding.market one.market ≡ sharding.market other.market

-- a script falls into these shards
pub record FallsInto (sharding : Sharding) (script : PlainScript) : Type 0 where
  pub rows : All (IsOfOneShard sharding) script.rows
  pub legs : AllPairs (AreOfOneShard sharding) script.rows

-- so does an item: its rows are of one shard, each with its wallets
abbrev pub IsItemOfOneShard : Sharding → Item → Type 0
IsItemOfOneShard sharding item = All (λ (row : PlainRow).
    IsOfOneShard sharding row × (sharding.market row.market ≡ sharding.market item.first.market)) (members item)

-- ---- one shard

module _ (sharding : Sharding) (shard : ℕ) where
  -- of the shard are a row of this market, and a wallet of this address
  abbrev pub has_market : Address → Bool
  has_market address = sharding.market address == shard

  abbrev pub has_wallet : Address → Bool
  has_wallet address = sharding.wallet address == shard

  -- its rows, in their order
  abbrev pub rows_in : List PlainRow → List PlainRow
  rows_in rows = filter (λ (row : PlainRow). has_market row.market) rows

  -- its items
  abbrev pub items_in : List Item → List Item
  items_in items = filter (λ (item : Item). has_market item.first.market) items

  -- its markets' accounts and its wallets
  abbrev pub markets_in : List PlainMarketAccounts → List PlainMarketAccounts
  markets_in markets = filter (λ (market : PlainMarketAccounts). has_market market.address) markets

  abbrev pub wallets_in : List PlainAccount → List PlainAccount
  wallets_in wallets = filter (λ (wallet : PlainAccount). has_wallet wallet.address) wallets

  -- accounts without the markets and wallets of other shards
  abbrev pub accounts_in : PlainAccounts → PlainAccounts
  accounts_in accounts =
      record accounts { wallets = wallets_in accounts.wallets; markets = markets_in accounts.markets }

  -- a world without them
  abbrev pub world_in : World → World
  world_in world = record world {
    markets = filter (λ (state : MarketState). has_market state.market.listing.address) world.markets;
    wallets = filter (λ (state : WalletState). has_wallet state.seen.address) world.wallets;
  }

  -- the journals of its markets and of its wallets
  abbrev pub market_journals_in : List PlainMarketJournal → List PlainMarketJournal
  market_journals_in journals = filter (λ (journal : PlainMarketJournal). has_market journal.address) journals

  abbrev pub wallet_journals_in : List PlainWalletJournal → List PlainWalletJournal
  wallet_journals_in journals = filter (λ (journal : PlainWalletJournal). has_wallet journal.address) journals

-- a script is this shard of another: it starts with the shard's markets and wallets, under the same names of SRM and
-- MSRM and the same program, and has the shard's rows. Its mints may state supplies of their own, since what they are
-- of is held in all shards together
pub record IsShardOf (sharding : Sharding) (shard : ℕ) (script part : PlainScript) : Type 0 where
  pub markets : part.start.markets ≡ markets_in sharding shard script.start.markets
  pub wallets : part.start.wallets ≡ wallets_in sharding shard script.start.wallets
  pub srm : part.start.srm ≡ script.start.srm
  pub msrm : part.start.msrm ≡ script.start.msrm
  pub program : part.program ≡ script.program
  pub rows : part.rows ≡ rows_in sharding shard script.rows

-- an outcome is that of this shard: its journals are those of the shard's markets and wallets, its wallets are the same
-- bytes, and of each market it has accounts that stand for one
pub record IsLeftInShard (sharding : Sharding) (shard : ℕ) (whole part : PlainOutcome) : Type 0 where
  pub market_journals : part.markets ≡ market_journals_in sharding shard whole.markets
  pub wallet_journals : part.wallets ≡ wallet_journals_in sharding shard whole.wallets
  pub wallets : part.accounts.wallets ≡ wallets_in sharding shard whole.accounts.wallets
  pub markets : AllZip StandForOne part.accounts.markets (markets_in sharding shard whole.accounts.markets)

-- ---- all shards together

-- the sum of what the first so many shards give
abbrev pub sum_over : ℕ → (ℕ → ℕ) → ℕ
sum_over zero of_shard = 0
sum_over (suc count) of_shard = sum_over count of_shard + of_shard count
