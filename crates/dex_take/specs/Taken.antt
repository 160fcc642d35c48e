-- What a take leaves of the parts that it is handed, and its reply.
use Rattle.std.specs.Prelude.{◌≡◌}
use Rattle.dex_types.specs.declared.replies.Reply.{Reply}
use Rattle.dex_types.specs.Meeting.{Meeting}
use Rattle.dex_types.specs.Take.{take_reply}
use Rattle.dex_market.specs.MarketAccount.{IsMarket}
use Rattle.dex_match.specs.declared.order_terms.Taker.{Taker}
use Rattle.dex_ring.specs.Appended.{appended, pushed_all}
use Rattle.dex_ring.specs.Ring.{IsEventQueue, ring_of}
use Rattle.dex_take.specs.declared.plan.TakePlan.{TakePlan}
use Rattle.dex_take.specs.Exchanging.{bytes_after, kept_of}
use Rattle.dex_take.specs.TakeGiven.{TakeGiven, read_of}
use Rattle.dex_take.specs.TakeTerms.{bare_take}
use Rattle.dex_take.specs.Taking.{IsDecided, meeting_in, moved_in}

-- what the take meets; its least fill decides only whether it is refused
abbrev pub met_in : Taker → TakeGiven → Meeting
met_in taker given = meeting_in taker.id_side (bare_take taker) (read_of given)

-- what is left: the market's funds are written, the makers' events are appended, and the orders that were met are gone
-- or smaller
abbrev pub taken : Taker → TakeGiven → TakeGiven
taken taker given = record {
  market = bytes_after (moved_in taker.id_side (bare_take taker) (read_of given)) (kept_of (bare_take taker) (met_in taker given)) given.market;
  events = pushed_all (met_in taker given).events given.events;
  opposing = (met_in taker given).left;
}

-- the reply to the take
abbrev pub reply_in : Taker → TakeGiven → Reply
reply_in taker given = take_reply (bare_take taker) (met_in taker given)

-- a take as it was decided left this of what it was given: all that the call which does it tells
pub record IsDone (plan : TakePlan) (taker : Taker) (before after : TakeGiven) : Type 0 where
  pub decided : IsDecided plan taker (read_of before)
  pub does : after ≡ taken taker before
  pub list : ring_of after.events ≡ appended (met_in taker before).events (ring_of before.events)
  pub market_accepted : IsMarket after.market
  pub events_accepted : IsEventQueue after.events
