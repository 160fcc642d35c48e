-- What takes are given of the bytes of a market's accounts, and what they leave of them.
use Rattle.std.specs.Prelude.{◌≡◌, ℕ, List}
use Rattle.dex_types.specs.declared.replies.Reply.{Reply}
use Rattle.dex_types.specs.declared.terms.Side.{Side}
use Rattle.dex_types.specs.Accounts.{PlainMarketAccounts}
use Rattle.dex_types.specs.Side.{opposite}
use Rattle.dex_market.specs.MarketAccount.{IsMarket}
use Rattle.dex_match.specs.declared.order_terms.Taker.{Taker}
use Rattle.dex_ring.specs.Appended.{appended}
use Rattle.dex_ring.specs.Ring.{IsEventQueue, ring_of}
use Rattle.dex_slab.specs.Slab.{resting, room_in}
use Rattle.dex_slab.specs.StandsFor.{IsSideAccount}
use Rattle.dex_take.specs.declared.plan.TakePlan.{TakePlan}
use Rattle.dex_take.specs.TakeGiven.{IsOfSound, TakeGiven, given, read_of}
use Rattle.dex_take.specs.Taken.{met_in, reply_in, taken}
use Rattle.dex_take.specs.Taking.{IsDecided}
use Rattle.dex_step.specs.Acting.{bytes_on}

-- the bytes that a take reads and writes: of the market account, the event queue, and the side that it meets
pub record TakeBytes : Type 0 where
  pub market : List ℕ
  pub events : List ℕ
  pub met : List ℕ

-- what a take reads and writes, of these bytes
abbrev pub take_bytes : List ℕ → List ℕ → List ℕ → TakeBytes
take_bytes market events met = record { market = market; events = events; met = met }

-- those of a market's accounts, for a take of the side
abbrev pub take_bytes_of : Side → PlainMarketAccounts → TakeBytes
take_bytes_of side accounts = take_bytes accounts.market accounts.events (bytes_on (opposite side) accounts)

-- what a take of the side is given by them
abbrev pub taken_of : Side → TakeBytes → TakeGiven
taken_of side bytes = given bytes.market bytes.events (resting (opposite side) bytes.met)

-- a take can be done as it was decided: the side is accepted, the bytes are of one sound market, and it was decided on
-- them
pub record CanTake (plan : TakePlan) (taker : Taker) (bytes : TakeBytes) : Type 0 where
  pub met : IsSideAccount (opposite taker.id_side) bytes.met
  pub given_is : IsOfSound taker.id_side (taken_of taker.id_side bytes)
  pub decided : IsDecided plan taker (read_of (taken_of taker.id_side bytes))

-- it was done: what it made of what it was given stands in the bytes, which are accepted, and the side that it met has
-- its room
pub record HasTaken (taker : Taker) (reply : Reply) (before after : TakeBytes) : Type 0 where
  pub reply_is : reply ≡ reply_in taker (taken_of taker.id_side before)
  pub does : taken_of taker.id_side after ≡ taken taker (taken_of taker.id_side before)
  pub list : ring_of after.events ≡ appended (met_in taker (taken_of taker.id_side before)).events (ring_of before.events)
  pub market : IsMarket after.market
  pub queue : IsEventQueue after.events
  pub met : IsSideAccount (opposite taker.id_side) after.met
  pub room : room_in after.met ≡ room_in before.met

-- what a take leaves of a market's accounts beside these bytes and the vaults: the request queue, its own side, and the
-- open-orders accounts
pub record KeepsRest (side : Side) (before after : PlainMarketAccounts) : Type 0 where
  pub requests : after.requests ≡ before.requests
  pub own : bytes_on side after ≡ bytes_on side before
  pub orders : after.orders ≡ before.orders
