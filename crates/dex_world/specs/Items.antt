-- Items: the rows of one number, which act together, all or none.
use Rattle.std.specs.Prelude.{ℕ, ◌≡◌, ◌==◌, Bool, true, false, List, [], ◌∷◌, All, Option, Some, None, is_some, map, if◌then◌else◌}
use Rattle.std.specs.List.{filter, list_any}
use Rattle.dex_types.specs.declared.addresses.Address.{Address}
use Rattle.dex_types.specs.declared.refusals.Refusal.{Refusal}
use Rattle.dex_types.specs.declared.rows.Seen.{Seen}
use Rattle.dex_types.specs.Addresses.{is_same}
use Rattle.dex_types.specs.Market.{Market}
use Rattle.dex_types.specs.Rows.{PlainRow}
use Rattle.dex_types.specs.Why.{why}
use Rattle.dex_history.specs.Journal.{request_of}
use Rattle.dex_world.specs.Fold.{fold, names}
use Rattle.dex_world.specs.Groups.{Group, grouped, members}
use Rattle.dex_world.specs.World.{World, market_at, seen_by}

-- a row, or the legs of a swap: all rows of one number
abbrev pub Item : Type 0
Item = Group PlainRow

-- the two legs of a swap
abbrev pub pair_of : PlainRow → PlainRow → Item
pair_of first second = record { first = first; others = second ∷ [] }

-- the items of a list of rows, in which the rows of one number stand together
abbrev pub items_of : List PlainRow → List Item
items_of rows = grouped (λ (row : PlainRow). row.number) rows

-- the rows of a lane
abbrev pub rows_of_lane : ℕ → List PlainRow → List PlainRow
rows_of_lane lane rows = filter (λ (row : PlainRow). row.lane == lane) rows

-- the items of a lane
abbrev pub items_of_lane : ℕ → List Item → List Item
items_of_lane lane items = filter (λ (item : Item). item.first.lane == lane) items

-- two rows name different markets, and no wallet both
pub record ShareNothing (one other : PlainRow) : Type 0 where
  pub markets : is_same one.market other.market ≡ false
  pub wallets : (wallet : Address) → names other wallet ≡ true → names one wallet ≡ false

-- so do each two of these rows
abbrev pub EachApart : List PlainRow → Type 0
EachApart [] = Unit {0}
EachApart (row ∷ rows) = All (ShareNothing row) rows × EachApart rows

-- ---- all or none

-- why a row is refused by the market that it found, if it is
abbrev pub why_on : PlainRow → Seen → Option Market → Option Refusal
why_on row seen None = None
why_on row seen (Some m) = why (request_of row) seen m

-- why a row would be refused in a world, if it would
abbrev pub why_in : World → PlainRow → Option Refusal
why_in world row = why_on row (seen_by row world) (market_at row.market world.markets)

-- the data of MatchOrders with limit 0, which a market accepts and for which it does nothing
abbrev pub nothing_to_do : List ℕ
nothing_to_do = 0 ∷ 2 ∷ 0 ∷ 0 ∷ 0 ∷ 0 ∷ 0 ∷ []

-- a row with data that does nothing in the place of its own
abbrev pub idle_row : PlainRow → PlainRow
idle_row row = record row { bytes = nothing_to_do }

-- what a row does: what it asks, or nothing where it waits
abbrev pub doing : Bool → PlainRow → PlainRow
doing waits row = record row { bytes = if waits then nothing_to_do else row.bytes }

-- a row of an item of which one is refused: it is refused as well, or has nothing to do
abbrev pub held_in : World → PlainRow → PlainRow
held_in world row = if is_some (why_in world row) then row else idle_row row

-- one of these rows would be refused
abbrev pub is_any_refused : World → List PlainRow → Bool
is_any_refused world rows = list_any (λ (row : PlainRow). is_some (why_in world row)) rows

-- what the rows of an item do: each what it asks; but where one of them would be refused, none does anything
abbrev pub chosen : World → List PlainRow → List PlainRow
chosen world rows = if is_any_refused world rows then map (held_in world) rows else rows

-- an item acts: each of its rows is looked at in the world before it
abbrev pub act_item : Item → World → World
act_item item world = fold (chosen world (members item)) world

-- items act in their order
abbrev pub fold_items : List Item → World → World
fold_items [] world = world
fold_items (item ∷ items) world = fold_items items (act_item item world)
