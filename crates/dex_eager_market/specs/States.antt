-- The state of a running market that pays at once, and the market that it is.
use Rattle.std.specs.Prelude.{ℕ, ◌≡◌, ◌+◌, ◌≤◌, length, map}
use Rattle.std.specs.List.{All}
use Rattle.std.specs.Vec.{vec_capacity}
use Rattle.dex_types.specs.declared.terms.Lots.{Lots}
use Rattle.dex_types.specs.declared.terms.Side.{Side}
use Rattle.dex_types.specs.declared.terms.Side.TheVariants.{Bid, Ask}
use Rattle.dex_types.specs.Side.{by_side}
use Rattle.dex_eager.specs.Eager.{Eager}
use Rattle.dex_eager_market.specs.declared.states.Book.{Book}
use Rattle.dex_eager_market.specs.declared.states.State.{State}
use Rattle.dex_eager_market.specs.declared.states.Till.{Till}
use Rattle.dex_eager_market.specs.Accounts.{IsWithin, entry_of}
use Rattle.dex_eager_market.specs.Foreseen.{CanFill}

-- the market of these parts, by the side of an order: the order's own side, and the one that it meets
abbrev pub market_by : Side → Lots → Book → Book → Till → Eager
market_by side sizes own opposing till = record {
  sizes = sizes;
  bid_capacity = by_side side own.room opposing.room;
  ask_capacity = by_side side opposing.room own.room;
  bids = by_side side own.orders.items opposing.orders.items;
  asks = by_side side opposing.orders.items own.orders.items;
  next_sequence = till.next_sequence;
  worths = map entry_of till.accounts.items;
  takings = till.takings;
}

-- the market of a state
abbrev pub eager_of : State → Eager
eager_of s = market_by Bid s.sizes s.bids s.asks s.till

-- a side has room for some order, its orders are within it, and it is reserved
pub record HasRoom (book : Book) : Type 0 where
  pub some : 1 ≤ book.room
  pub within : length book.orders.items ≤ book.room
  pub reserved : book.room ≤ vec_capacity book.orders

-- so is it, and all its orders can fill
pub record IsBook (side : Side) (sizes : Lots) (book : Book) : Type 0 where
  pub has_room : HasRoom book
  pub can_fill : All (CanFill side sizes) book.orders.items

-- so it is still, with room for as many
abbrev pub StaysBook : Side → Lots → Book → Book → Type 0
StaysBook side sizes before after = IsBook side sizes after × (after.room ≡ before.room)

-- up to this bound came in for each account and was paid by it, and the market took
pub record IsTill (bound : ℕ) (till : Till) : Type 0 where
  pub accounts : All (IsWithin bound) till.accounts.items
  pub takings : till.takings ≤ bound

-- this much more at most
abbrev pub TillGrows : ℕ → Till → Till → Type 0
TillGrows more before after = (bound : ℕ) → IsTill bound before → IsTill (bound + more) after

-- what holds of a state whose counts are up to this bound
pub record IsKept (bound : ℕ) (s : State) : Type 0 where
  pub bids : IsBook Bid s.sizes s.bids
  pub asks : IsBook Ask s.sizes s.asks
  pub till : IsTill bound s.till
  pub listed : s.bids.room + s.asks.room ≤ vec_capacity s.listed

-- all resting orders fit the list
abbrev pub CanList : State → Type 0
CanList s = length s.bids.orders.items + length s.asks.orders.items ≤ vec_capacity s.listed
