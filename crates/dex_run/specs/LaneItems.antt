-- The places at which the items of a lane begin, and a list of them for each lane.
use Rattle.std.specs.Prelude.{ℕ, ◌≡◌, ◌+◌, ◌<◌, List, [], ◌∷◌, Vec, length, map, slice_index_or, take}
use Rattle.std.specs.declared.alloc.Global.{Global}
use Rattle.dex_types.specs.declared.rows.Row.{Row}
use Rattle.dex_world.specs.declared.places.RowPlaces.{RowPlaces}
use Rattle.dex_types.specs.Rows.{row_of}
use Rattle.dex_world.specs.Items.{rows_of_lane}
use Rattle.dex_script_types.specs.Places.{AreBeside}
use Rattle.dex_turns.specs.Seats.{SeatState}

-- what is said of rows holds of all that these stand beside
abbrev pub OfRows : List RowPlaces → (List Row → Type 0) → Type 0
OfRows places So = (rows : List Row) → AreBeside (map row_of rows) places → So rows

-- with the row at a place an item begins: the rows before it have lower numbers
abbrev pub Begins : List Row → ℕ → Type 0
Begins rows place =
    (k : ℕ) (row : Row) → k < place → place < length rows
    → (slice_index_or rows k row).number < (slice_index_or rows place row).number

-- the row at a place and the one after it have one number
abbrev pub IsSwapAt : List Row → ℕ → Type 0
IsSwapAt rows place =
    (row : Row) → (place + 1 < length rows)
    × ((slice_index_or rows place row).number ≡ (slice_index_or rows (place + 1) row).number)

-- no row after the row at a place has its number
abbrev pub IsAlone : List Row → ℕ → Type 0
IsAlone rows place =
    (row : Row) → place + 1 < length rows
    → (slice_index_or rows place row).number ≡ (slice_index_or rows (place + 1) row).number → ⊥

-- how many rows of a lane stand before a place
abbrev pub rows_before : ℕ → List Row → ℕ → ℕ
rows_before lane rows place = length (rows_of_lane lane (map row_of (take place rows)))

-- with the row at a place an item of the lane begins, before which so many of the lane's rows stand
pub record IsItemOf (of_lane : ℕ) (rows : List Row) (before place : ℕ) : Type 0 where
  pub within : place < length rows
  pub own : (row : Row) → (slice_index_or rows place row).lane ≡ of_lane
  pub so_far : rows_before of_lane rows place ≡ before
  pub begins : Begins rows place

-- the items of a lane that begin at these places, and no others, are still to come when so many of its rows are done
abbrev pub IsRest : ℕ → List Row → ℕ → List ℕ → Type 0
IsRest lane rows done [] = done ≡ length (rows_of_lane lane (map row_of rows))
IsRest lane rows done (place ∷ later) =
    IsItemOf lane rows done place
    × ((IsAlone rows place → IsRest lane rows (done + 1) later)
    × (IsSwapAt rows place → IsRest lane rows (done + 2) later))

-- the items at these places, and no others, are still to come of a seat's lane
abbrev pub IsRestAt : List Row → SeatState → List ℕ → Type 0
IsRestAt rows seat later = IsRest seat.lane rows (length seat.calls) later

-- for each lane the places at which its items begin
abbrev pub IsIndex : List Row → List (Vec ℕ Global) → Type 0
IsIndex rows by_lane =
    (lane : ℕ) (own : Vec ℕ Global) → lane < length by_lane
    → IsRest lane rows 0 (slice_index_or by_lane lane own).items
