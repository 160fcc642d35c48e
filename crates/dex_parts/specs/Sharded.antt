-- The shards of a script as numbers of its markets, its wallets and its rows.
use Rattle.std.specs.Prelude.{◌≡◌, ◌≤◌, ◌<◌, ℕ, false, List, Option, Some, None, All, length, map}
use Rattle.std.specs.Prelude.{slice_index, slice_index_or}
use Rattle.dex_types.specs.declared.addresses.Address.{Address}
use Rattle.dex_types.specs.Accounts.{PlainAccounts, PlainMarketAccounts}
use Rattle.dex_types.specs.Rows.{PlainRow}
use Rattle.dex_world.specs.Fold.{names}
use Rattle.dex_script_types.specs.Places.{market_place, wallet_place}
use Rattle.dex_script_types.specs.PlainScript.{PlainScript}
use Rattle.dex_parts.specs.Shards.{FallsInto, Sharding}

-- the number at a place, if there is one
abbrev pub number_at : Option ℕ → List ℕ → ℕ
number_at None numbers = 0
number_at (Some place) numbers = slice_index numbers place

-- the shards that these numbers of markets and of wallets, in declared order, are
abbrev pub sharding_by : PlainAccounts → List ℕ → List ℕ → Sharding
sharding_by start markets wallets = record {
  market = λ (address : Address). number_at (market_place address start.markets) markets;
  wallet = λ (address : Address). number_at (wallet_place address start.wallets) wallets;
}

-- the numbers of a script's markets, wallets and rows: the script falls into the shards that those of markets and
-- wallets are, and a row's number is its market's
pub record AreShardsOf (script : PlainScript) (of_markets of_wallets of_rows : List ℕ) : Type 0 where
  pub falls : FallsInto (sharding_by script.start of_markets of_wallets) script
  pub rows :
      of_rows ≡ map (λ (row : PlainRow). (sharding_by script.start of_markets of_wallets).market row.market) script.rows
  pub markets : length of_markets ≡ length script.start.markets
  pub wallets : length of_wallets ≡ length script.start.wallets
  -- a shard's number is the place of its first market
  pub low : (place : ℕ) → place < length of_markets → slice_index of_markets place ≤ place
  pub first : (place : ℕ) → place < length of_markets
      → slice_index of_markets (slice_index of_markets place) ≡ slice_index of_markets place
  -- a wallet that no row names is of shard 0
  pub lone : (wallet : Address) → All (λ (row : PlainRow). names row wallet ≡ false) script.rows
      → (sharding_by script.start of_markets of_wallets).wallet wallet ≡ 0
  -- no shard could be parted: markets of one are of one in all shards into which the script falls
  pub fine : (other : Sharding) → FallsInto other script → (one two : ℕ) (default : PlainMarketAccounts)
      → one < length of_markets → two < length of_markets
      → slice_index of_markets one ≡ slice_index of_markets two
      → other.market (slice_index_or script.start.markets one default).address
      ≡ other.market (slice_index_or script.start.markets two default).address
