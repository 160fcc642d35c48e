-- The rows of one market, and those that name one wallet: how many there are, and those of a lane.
use Rattle.std.specs.Prelude.{ℕ, ◌==◌, List, count_by}
use Rattle.std.specs.List.{filter}
use Rattle.dex_types.specs.declared.addresses.Address.{Address}
use Rattle.dex_types.specs.Addresses.{is_same}
use Rattle.dex_types.specs.Rows.{PlainRow}
use Rattle.dex_world.specs.Fold.{names}

-- how many rows are on the market of an address
abbrev pub rows_on : Address → List PlainRow → ℕ
rows_on address rows = count_by (λ (row : PlainRow). is_same row.market address) rows

-- how many rows name the wallet of an address
abbrev pub rows_naming : Address → List PlainRow → ℕ
rows_naming address rows = count_by (λ (row : PlainRow). names row address) rows

-- the rows of a lane on the market of an address
abbrev pub rows_of_market : ℕ → Address → List PlainRow → List PlainRow
rows_of_market lane address rows =
    filter (λ (row : PlainRow). row.lane == lane) (filter (λ (row : PlainRow). is_same row.market address) rows)

-- the rows of a lane that name the wallet of an address
abbrev pub rows_of_wallet : ℕ → Address → List PlainRow → List PlainRow
rows_of_wallet lane address rows =
    filter (λ (row : PlainRow). row.lane == lane) (filter (λ (row : PlainRow). names row address) rows)
