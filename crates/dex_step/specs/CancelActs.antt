-- What cancels are given of the bytes of a market's accounts, what they leave of them, and their step.
use Rattle.std.specs.Prelude.{◌≡◌, ℕ, List, Some, None, IsOk, length}
use Rattle.dex_types.specs.declared.addresses.Address.{Address}
use Rattle.dex_types.specs.declared.terms.Lots.{Lots}
use Rattle.dex_types.specs.declared.terms.Side.TheVariants.{Bid, Ask}
use Rattle.dex_types.specs.Accounts.{PlainMarketAccounts}
use Rattle.dex_types.specs.Cancel.{CancelBy, cancelled}
use Rattle.dex_types.specs.Market.{Market}
use Rattle.dex_types.specs.Soundness.{IsSound}
use Rattle.dex_types.specs.Steps.{Step, cancelled_all}
use Rattle.dex_types.specs.Trader.{Account, Open, trader_at}
use Rattle.dex_types.specs.Why.{why_cancelled}
use Rattle.dex_cancel.specs.Cancelling.{decided}
use Rattle.dex_cancel.specs.TakenOff.{CancelGiven, queue_of, with_outs}
use Rattle.dex_cancel.specs.Parts.{cancel_given, left_by, named_in}
use Rattle.dex_cancel_slots.specs.Given.{IsGiven}
use Rattle.dex_market.specs.MarketAccount.{market_words, sizes_of}
use Rattle.dex_ring.specs.Ring.{IsEventQueue, ring_of, room_of}
use Rattle.dex_slab.specs.Slab.{resting, room_in}
use Rattle.dex_slab.specs.StandsFor.{IsSideAccount}

-- the lot sizes, and the bytes that a cancel reads and writes: of the two sides and of the event queue
pub record CancelBytes : Type 0 where
  pub sizes : Lots
  pub bids : List ℕ
  pub asks : List ℕ
  pub events : List ℕ

-- what a cancel reads and writes, of these
abbrev pub cancel_bytes : Lots → List ℕ → List ℕ → List ℕ → CancelBytes
cancel_bytes sizes bids asks events = record { sizes = sizes; bids = bids; asks = asks; events = events }

-- those of a market's accounts
abbrev pub cancel_bytes_of : PlainMarketAccounts → CancelBytes
cancel_bytes_of accounts = cancel_bytes (sizes_of (market_words accounts.market)) accounts.bids accounts.asks accounts.events

-- what a cancel is given by them
abbrev pub cancel_of : CancelBytes → CancelGiven
cancel_of bytes = record { sizes = bytes.sizes; bids = resting Bid bytes.bids; asks = resting Ask bytes.asks; queue = bytes.events }

-- a cancel can be done: both sides are accepted, the bytes are of one sound market, in which the owner's account is
-- open with these bytes, and it is not refused by them
pub record CanCancel (by : CancelBy) (owner : Address) (account : List ℕ) (bytes : CancelBytes) : Type 0 where
  pub bids : IsSideAccount Bid bytes.bids
  pub asks : IsSideAccount Ask bytes.asks
  pub market : IsGiven cancel_given (cancel_of bytes) owner account
  pub decided_is : IsOk (decided by owner (resting Bid bytes.bids) (resting Ask bytes.asks) (room_of (ring_of bytes.events)))

-- it was done: so many orders left the sides, which are accepted and have their room, and their outs are in the queue
pub record HasCancelled (by : CancelBy) (owner : Address) (count : ℕ) (before after : CancelBytes) : Type 0 where
  pub count_is : count ≡ length (named_in by owner (cancel_of before))
  pub does : cancel_of after ≡ left_by (named_in by owner (cancel_of before)) (cancel_of before)
  pub list : ring_of after.events ≡ (with_outs before.sizes (named_in by owner (cancel_of before)) (queue_of before.events)).list
  pub queue : IsEventQueue after.events
  pub bids : IsSideAccount Bid after.bids
  pub asks : IsSideAccount Ask after.asks
  pub bid_room : room_in after.bids ≡ room_in before.bids
  pub ask_room : room_in after.asks ≡ room_in before.asks

-- the step of a cancel for an owner
abbrev pub cancel_step : CancelBy → Address → Market → Step
cancel_step by owner m = cancelled_all (cancelled by owner m.bids m.asks) m

-- the cancel was decided on the market: the owner's account is open, no reason holds against it, and the market after
-- it is sound
pub record IsCancelDecided (by : CancelBy) (owner : Address) (m : Market) : Type 0 where
  pub account : Account
  pub known : trader_at owner m.traders ≡ Some (Open account)
  pub accepted : why_cancelled by owner m ≡ None
  pub sound : IsSound (cancel_step by owner m).market
