-- What a take is handed of a market, of which parts of a market that is, and what it puts back.
use Rattle.std.specs.Prelude.{◌≡◌, ℕ, List}
use Rattle.dex_types.specs.declared.orders.Order.{Order}
use Rattle.dex_types.specs.declared.terms.Side.{Side}
use Rattle.dex_types.specs.Side.{opposite}
use Rattle.dex_market.specs.declared.market_ref.MarketRef.{MarketRef}
use Rattle.dex_market.specs.declared.market_view.MarketView.{MarketView}
use Rattle.dex_market.specs.MarketAccount.{MarketWords, market_words}
use Rattle.dex_ring.specs.Ring.{Ring, ring_of}
use Rattle.dex_ring.specs.declared.ring_ref.RingRef.{RingRef}
use Rattle.dex_ring.specs.declared.ring_view.RingView.{RingView}
use Rattle.dex_take.specs.declared.take_input.TakeInput.{TakeInput}
use Rattle.dex_accounts.specs.Parts.{AreSoundParts, MarketParts, side_orders, with_side}

-- the bytes of the market account and of the event queue, and the orders of the side that is met
pub record TakeGiven : Type 0 where
  pub market : List ℕ
  pub events : List ℕ
  pub opposing : List Order

-- what a take is handed, of these
abbrev pub given : List ℕ → List ℕ → List Order → TakeGiven
given market events opposing = record { market = market; events = events; opposing = opposing }

-- what a take reads of them
pub record TakeRead : Type 0 where
  pub words : MarketWords
  pub ring : Ring
  pub opposing : List Order

-- what a take reads of what it is handed
abbrev pub read_of : TakeGiven → TakeRead
read_of given = record { words = market_words given.market; ring = ring_of given.events; opposing = given.opposing }

-- what a call that does a take is handed
abbrev pub handed : {B : Type 0} → (B → List Order) → MarketView → B → RingView → TakeGiven
handed orders market opposite ring = given market.bytes.now ring.bytes.now (orders opposite)

-- what a call that decides a take is shown
abbrev pub shown : {B : Type 0} → (B → List Order) → MarketRef → B → RingRef → TakeGiven
shown orders market opposite ring = given market.bytes.now ring.bytes.now (orders opposite)

-- what a call that decides a take is shown in one value
abbrev pub shown_in : {B : Type 0} → (B → List Order) → TakeInput B → TakeGiven
shown_in orders input = shown orders input.market input.opposite.now input.ring

-- what a take of the side is given of the parts of a market
abbrev pub take_given : Side → MarketParts → TakeGiven
take_given side parts = given parts.market parts.events (side_orders (opposite side) parts)

-- the parts of a market with that put back
abbrev pub with_taken : Side → TakeGiven → MarketParts → MarketParts
with_taken side left parts = record (with_side (opposite side) left.opposing parts) { market = left.market; events = left.events }

-- what is given is of the parts of a sound market
pub record IsOfSound (side : Side) (given : TakeGiven) : Type 0 where
  pub whole : MarketParts
  pub sound : AreSoundParts whole
  pub is : take_given side whole ≡ given
