-- What a new order is handed of a market, and what it reads of that.
use Rattle.std.specs.Prelude.{◌≡◌, ℕ, List}
use Rattle.dex_types.specs.declared.addresses.Address.{Address}
use Rattle.dex_types.specs.declared.orders.Order.{Order}
use Rattle.dex_types.specs.declared.terms.Side.{Side}
use Rattle.dex_types.specs.NewOrder.{Standing}
use Rattle.dex_types.specs.Side.{opposite}
use Rattle.dex_types.specs.Trader.{Account}
use Rattle.dex_accounts.specs.Parts.{AreSoundParts, HasOpen, MarketParts, side_orders, side_room}
use Rattle.dex_market.specs.MarketAccount.{MarketWords, market_words, sizes_of}
use Rattle.dex_market.specs.RequestQueue.{next_sequence}
use Rattle.dex_orders.specs.OrdersAccount.{account_of}
use Rattle.dex_ring.specs.Ring.{Ring, ring_of}

-- the accounts' bytes, the orders of both sides, and the room of the order's own side
pub record OrderGiven : Type 0 where
  pub market : List ℕ
  pub requests : List ℕ
  pub events : List ℕ
  pub account : List ℕ
  pub own : List Order
  pub own_room : ℕ
  pub opposing : List Order

-- what is handed one by one, as one record
abbrev pub given_by : List ℕ → List ℕ → List ℕ → List ℕ → List Order → ℕ → List Order → OrderGiven
given_by market requests events account own own_room opposing = record {
  market = market;
  requests = requests;
  events = events;
  account = account;
  own = own;
  own_room = own_room;
  opposing = opposing;
}

-- what a new order reads of them
pub record OrderParts : Type 0 where
  pub words : MarketWords
  pub next_sequence : ℕ
  pub ring : Ring
  pub account : Account
  pub own : List Order
  pub own_room : ℕ
  pub opposing : List Order

-- what an order reads of what it is handed
abbrev pub parts_of : OrderGiven → OrderParts
parts_of given = record {
  words = market_words given.market;
  next_sequence = next_sequence given.requests;
  ring = ring_of given.events;
  account = account_of given.account;
  own = given.own;
  own_room = given.own_room;
  opposing = given.opposing;
}

-- where the order stands
abbrev pub standing_in : OrderParts → Standing
standing_in parts = record {
  sizes = sizes_of parts.words;
  next_sequence = parts.next_sequence;
  own = parts.own;
  own_capacity = parts.own_room;
  opposing = parts.opposing;
}

-- what an order of the side is handed of a market's parts, with these bytes of its account
abbrev pub order_given : Side → List ℕ → MarketParts → OrderGiven
order_given side account parts = record {
  market = parts.market;
  requests = parts.requests;
  events = parts.events;
  account = account;
  own = side_orders side parts;
  own_room = side_room side parts;
  opposing = side_orders (opposite side) parts;
}

-- what is handed is of one sound market, whose open account of the owner is among it
pub record IsGiven (side : Side) (owner : Address) (given : OrderGiven) : Type 0 where
  pub whole : MarketParts
  pub sound : AreSoundParts whole
  pub has : HasOpen owner given.account whole
  pub is : order_given side given.account whole ≡ given
