-- The numbers of shards, by the labels that joins leave.
use Rattle.std.specs.Prelude.{◌+◌, ℕ, zero, suc, List, [], ◌∷◌, ◌++◌, drop, if◌then◌else◌, map, nat_lt}
use Rattle.std.specs.Prelude.{slice_index, take}
use Rattle.dex_world.specs.declared.places.RowPlaces.{RowPlaces}
use Rattle.dex_parts.specs.Joins.{all_joined, links_of}

-- the first so many numbers
abbrev pub numbers_to : ℕ → List ℕ
numbers_to zero = []
numbers_to (suc count) = numbers_to count ++ count ∷ []

-- the shard of a label: the place of one of so many markets names one, and any other label is of the first
abbrev pub in_market : ℕ → ℕ → ℕ
in_market markets label = if nat_lt label markets then label else 0

-- the labels of so many markets, and of so many wallets behind them, where rows at these places join them
abbrev pub labels_of : ℕ → ℕ → List RowPlaces → List ℕ
labels_of markets wallets places = all_joined (numbers_to (markets + wallets)) (links_of markets places)

-- the shards of markets
abbrev pub market_shards : ℕ → ℕ → List RowPlaces → List ℕ
market_shards markets wallets places = map (in_market markets) (take markets (labels_of markets wallets places))

-- the shards of wallets
abbrev pub wallet_shards : ℕ → ℕ → List RowPlaces → List ℕ
wallet_shards markets wallets places = map (in_market markets) (drop markets (labels_of markets wallets places))

-- the shards of rows, by those of markets
abbrev pub row_shards : List ℕ → List RowPlaces → List ℕ
row_shards markets places = map (λ (at : RowPlaces). slice_index markets at.market) places
