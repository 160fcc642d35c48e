-- What the rules of a market read, and which market that is of.
use Rattle.std.specs.Prelude.{◌≡◌, ◌<◌, ◌^◌, List, length, map}
use Rattle.dex_types.specs.declared.orders.Order.{Order}
use Rattle.dex_types.specs.declared.terms.Side.TheVariants.{Bid, Ask}
use Rattle.dex_types.specs.Accounts.{PlainMarketAccounts}
use Rattle.dex_types.specs.Market.{Market}
use Rattle.dex_types.specs.QueuedEvent.{QueuedEvent, decoded_event}
use Rattle.dex_accounts.specs.Accepted.{IsAccepted}
use Rattle.dex_accounts.specs.Decoded.{market_in}
use Rattle.dex_ring.specs.Ring.{ring_of}
use Rattle.dex_slab.specs.Slab.{resting}
use Rattle.dex_audit_rules.specs.declared.book.Book.{Book}
use Rattle.dex_audit_rules.specs.declared.gathered.Gathered.{Gathered}
use Rattle.dex_totals.specs.Reading.{AreOrders, traders}

-- the accounts of the book are accepted, and its numbers of orders and events are below 2^32
pub record IsBook (book : Book) : Type 0 where
  pub accounts : AreOrders book.accounts.now
  pub events : length book.events.now < 2 ^ 32
  pub bids : length book.bids.now < 2 ^ 32
  pub asks : length book.asks.now < 2 ^ 32

-- the book is of this market
pub record IsOf (book : Book) (m : Market) : Type 0 where
  pub bids : book.bids.now ≡ m.bids
  pub asks : book.asks.now ≡ m.asks
  pub events : map decoded_event book.events.now ≡ m.events
  pub traders : traders book.accounts.now ≡ m.traders
  pub sizes : book.sizes ≡ m.listing.sizes

-- the book is that of these accounts, which are accepted
pub record IsBookOf (read : Book) (accounts : PlainMarketAccounts) : Type 0 where
  pub accepted : IsAccepted accounts
  pub book : IsBook read
  pub of : IsOf read (market_in accounts)

-- the orders and events of a market, as lists
pub record PlainGathered : Type 0 where
  pub bids : List Order
  pub asks : List Order
  pub events : List QueuedEvent

-- the orders and events that were gathered, as lists
abbrev pub plain_gathered : Gathered → PlainGathered
plain_gathered gathered = record { bids = gathered.bids.items; asks = gathered.asks.items; events = map decoded_event gathered.events.items }

-- those of these accounts
abbrev pub gathered_in : PlainMarketAccounts → PlainGathered
gathered_in accounts = record { bids = resting Bid accounts.bids; asks = resting Ask accounts.asks; events = (ring_of accounts.events).events }
