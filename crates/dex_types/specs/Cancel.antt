-- Cancels: which resting orders they take from the book, and what that leaves.
use Rattle.std.specs.Prelude.{ℕ, List, [], ◌∷◌, ◌++◌, Option, Some, None, Bool, ◌&&◌, nat_le, ◌==◌, take, if◌then◌else◌}
use Rattle.dex_types.specs.declared.addresses.Address.{Address}
use Rattle.dex_types.specs.declared.orders.Order.{Order}
use Rattle.dex_types.specs.declared.terms.Side.{Side}
use Rattle.dex_types.specs.declared.terms.Side.TheVariants.{Bid, Ask}
use Rattle.dex_types.specs.Addresses.{is_same}
use Rattle.dex_types.specs.Market.{Market, events_counted, orders, with_sides}
use Rattle.dex_types.specs.Meeting.{releasing_out}
use Rattle.dex_types.specs.Side.{by_side, opposite, sequence_of}
use Rattle.dex_types.specs.Tokens.{is_same_side}

-- an order that rests, with its side
pub record RestingOrder : Type 0 where
  pub side : Side
  pub order : Order

-- the first order with this id, if one of these has it
abbrev pub order_with : ℕ → List Order → Option Order
order_with id [] = None
order_with id (order ∷ others) = if order.id == id then Some order else order_with id others

-- the orders without the first with this id
abbrev pub without_order : ℕ → List Order → List Order
without_order id [] = []
without_order id (order ∷ others) = if order.id == id then others else order ∷ without_order id others

-- the resting orders of an owner on a side, in book order
abbrev pub orders_of : Address → Side → List Order → List RestingOrder
orders_of owner side [] = []
orders_of owner side (order ∷ others) =
    if is_same owner order.owner then record { side = side; order = order } ∷ orders_of owner side others
    else orders_of owner side others

-- the resting orders of an owner: its bids in book order, and then its asks in book order
abbrev pub all_orders_of : Address → List Order → List Order → List RestingOrder
all_orders_of owner bids asks = orders_of owner Bid bids ++ orders_of owner Ask asks

-- the sequence number of a resting order
abbrev pub age_of : RestingOrder → ℕ
age_of resting = sequence_of resting.side resting.order.id

-- the older of two orders, or the first where there is no other
abbrev pub older : RestingOrder → Option RestingOrder → RestingOrder
older first None = first
older first (Some other) = if nat_le (age_of first) (age_of other) then first else other

-- the order with this client id that has the least sequence number, if one of these has the client id
abbrev pub oldest : ℕ → List RestingOrder → Option RestingOrder
oldest client [] = None
oldest client (first ∷ others) =
    if first.order.client == client then Some (older first (oldest client others)) else oldest client others

-- the two are one order, by side and id
abbrev pub is_same_order : RestingOrder → RestingOrder → Bool
is_same_order first other = is_same_side first.side other.side && (first.order.id == other.order.id)

-- the resting orders without the one just taken, if one was
abbrev pub without_taken : Option RestingOrder → List RestingOrder → List RestingOrder
without_taken None resting = resting
without_taken (Some gone) [] = []
without_taken (Some gone) (first ∷ others) =
    if is_same_order gone first then others else first ∷ without_taken (Some gone) others

-- an order that may be there, as a list
abbrev pub at_most_one : Option RestingOrder → List RestingOrder
at_most_one None = []
at_most_one (Some resting) = resting ∷ []

-- the order that one client id of a list takes: the oldest one that has it; 0 takes none
abbrev pub taken_by : ℕ → List RestingOrder → Option RestingOrder
taken_by client resting = if client == 0 then None else oldest client resting

-- the orders that the client ids of a list take, one after the other
abbrev pub taken_by_all : List ℕ → List RestingOrder → List RestingOrder
taken_by_all [] resting = []
taken_by_all (client ∷ clients) resting =
    at_most_one (taken_by client resting) ++ taken_by_all clients (without_taken (taken_by client resting) resting)

-- how a cancel names orders: by side and id, by a client id, by a list of client ids, or the first n of the account
pub data CancelBy : Type 0 where
  ById : Side → ℕ → CancelBy
  ByClient : ℕ → CancelBy
  ByClients : List ℕ → CancelBy
  First : ℕ → CancelBy

-- an order of this side that may be there
abbrev pub on_side : Side → Option Order → List RestingOrder
on_side side None = []
on_side side (Some order) = record { side = side; order = order } ∷ []

-- the orders that a cancel for an owner takes, in this order; it is refused where an id names no order of the owner
abbrev pub cancelled : CancelBy → Address → List Order → List Order → List RestingOrder
cancelled (ById side id) owner bids asks = on_side side (order_with id (by_side side bids asks))
cancelled (ByClient client) owner bids asks = at_most_one (oldest client (all_orders_of owner bids asks))
cancelled (ByClients clients) owner bids asks = taken_by_all clients (all_orders_of owner bids asks)
cancelled (First count) owner bids asks = take count (all_orders_of owner bids asks)

-- the market after an order left the book: an out that releases all of its lock waits for its owner
abbrev pub cancel_one : RestingOrder → Market → Market
cancel_one gone m =
    record (with_sides gone.side (without_order gone.order.id (orders gone.side m)) (orders (opposite gone.side) m) m) {
      events = m.events ++ (releasing_out gone.side m.listing.sizes gone.order gone.order.lots ∷ []);
      events_appended = events_counted m.events_appended 1;
    }

-- the market after these orders left, one after the other
abbrev pub after_cancels : List RestingOrder → Market → Market
after_cancels [] m = m
after_cancels (gone ∷ others) m = after_cancels others (cancel_one gone m)
