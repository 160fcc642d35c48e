-- Groups of markets and wallets, by numbers that stand beside them.
use Rattle.std.specs.Prelude.{◌≡◌, ℕ, ◌<◌, List, [], ◌∷◌, length, if◌then◌else◌, slice_index_or}
use Rattle.std.specs.List.{All}
use Rattle.dex_types.specs.declared.addresses.Address.{Address}
use Rattle.dex_world.specs.declared.places.RowPlaces.{RowPlaces}
use Rattle.dex_types.specs.Addresses.{is_same}
use Rattle.dex_world.specs.World.{World}
use Rattle.dex_parts.specs.Shards.{Sharding}
use Rattle.dex_batch.specs.Acting.{market_addresses, wallet_addresses}
use Rattle.dex_batch.specs.declared.groups.Groups.{Groups}

-- the wallet at a place, if there is one, is of this group
abbrev pub IsWalletOf : List ℕ → ℕ → ℕ → Type 0
IsWalletOf numbers number place = (d : ℕ) → place < length numbers → slice_index_or numbers place d ≡ number

-- so are the market and the wallets at the places of a row
pub record IsOfGroup (markets wallets : List ℕ) (places : RowPlaces) (number : ℕ) : Type 0 where
  pub within : places.market < length markets
  pub market : (d : ℕ) → slice_index_or markets places.market d ≡ number
  pub named : All (IsWalletOf wallets number) places.wallets.places

-- there are groups for so many markets and wallets, each of one of them
pub record AreGroups (markets wallets : ℕ) (groups : Groups) : Type 0 where
  pub markets_long : length groups.markets.items ≡ markets
  pub wallets_long : length groups.wallets.items ≡ wallets
  pub markets_within : All (λ (number : ℕ). number < groups.count) groups.markets.items
  pub wallets_within : All (λ (number : ℕ). number < groups.count) groups.wallets.items

-- the number beside the first of some addresses that is this one
abbrev pub number_of : List Address → List ℕ → Address → ℕ
number_of [] numbers address = 0
number_of (first ∷ addresses) [] address = 0
number_of (first ∷ addresses) (number ∷ numbers) address = if is_same address first then number else number_of addresses numbers address

-- the groups of a world's markets and wallets that these numbers are
abbrev pub sharding_of : World → List ℕ → List ℕ → Sharding
sharding_of world markets wallets = record {
  market = number_of (market_addresses world.markets) markets;
  wallet = number_of (wallet_addresses world.wallets) wallets;
}
