-- Labels of things that stand side by side, made one where rows join them.
use Rattle.std.specs.Prelude.{◌==◌, ◌<◌, ◌+◌, ℕ, List, [], ◌∷◌, ◌++◌, if◌then◌else◌, map, nat_lt, slice_index}
use Rattle.dex_world.specs.declared.places.RowPlaces.{RowPlaces}

-- two places that are joined
abbrev pub Link : Type 0
Link = ℕ × ℕ

-- both are among so many
abbrev pub IsWithin : ℕ → Link → Type 0
IsWithin count link = (link.0 < count) × (link.1 < count)

-- a label, where one is taken for another
abbrev pub relabelled : ℕ → ℕ → ℕ → ℕ
relabelled from to label = if label == from then to else label

-- labels behind a link: all that had the higher of the two labels have the lower one
abbrev pub joined : List ℕ → Link → List ℕ
joined labels link =
    let one = slice_index labels link.0 in
    let other = slice_index labels link.1 in
    if nat_lt one other then map (relabelled other one) labels else map (relabelled one other) labels

-- behind several
abbrev pub all_joined : List ℕ → List Link → List ℕ
all_joined labels [] = labels
all_joined labels (link ∷ links) = all_joined (joined labels link) links

-- ---- what rows join, where wallets stand behind so many markets

-- a market and the wallet at a place, if one stands there
abbrev pub place_links : ℕ → ℕ → ℕ → List Link
place_links markets market place = if nat_lt place 65535 then (market, markets + place) ∷ [] else []

-- a market and the wallets at several
abbrev pub wallet_links : ℕ → ℕ → List ℕ → List Link
wallet_links markets market [] = []
wallet_links markets market (place ∷ places) = place_links markets market place ++ wallet_links markets market places

-- the market of a row, and its wallets
abbrev pub row_links : ℕ → RowPlaces → List Link
row_links markets at = wallet_links markets at.market at.wallets.places

-- the markets of the legs of a swap: a row, and the one behind it, if that has its number
abbrev pub leg_links : RowPlaces → List RowPlaces → List Link
leg_links at [] = []
leg_links at (next ∷ others) = if at.number == next.number then (at.market, next.market) ∷ [] else []

-- all
abbrev pub links_of : ℕ → List RowPlaces → List Link
links_of markets [] = []
links_of markets (at ∷ others) = row_links markets at ++ (leg_links at others ++ links_of markets others)
