-- What deciding a new order is given, and what it decides, part by part.
use Rattle.std.specs.Prelude.{ℕ, ◌≡◌, ◌*◌, ◌^◌, ◌<◌, ◌≤◌, List}
use Rattle.dex_types.specs.declared.orders.Order.{Order}
use Rattle.dex_types.specs.declared.terms.Lots.{Lots}
use Rattle.dex_types.specs.NewOrder.{Ordering, Standing, meeting_of, ordering_of}
use Rattle.dex_ring.specs.declared.pending_fills.PendingFills.{PendingFills}
use Rattle.dex_types.specs.QueuedEvent.{QueuedEvent}
use Rattle.dex_types.specs.Side.{Coin, Pc}
use Rattle.dex_types.specs.Solvency.{all_leaving}
use Rattle.dex_types.specs.Trader.{Account}
use Rattle.dex_match.specs.declared.foreseeing.OrderProspect.{OrderProspect}
use Rattle.dex_match.specs.declared.order_terms.Taker.{Taker}
use Rattle.dex_match.specs.Ordering.{plan_by}
use Rattle.dex_match.specs.OrderTerms.{order_of}

-- where a new order with this sequence number stands
abbrev pub standing_at : Lots → ℕ → List Order → ℕ → List Order → Standing
standing_at sizes sequence own own_room opposing = record {
  sizes = sizes;
  next_sequence = sequence;
  own = own;
  own_capacity = own_room;
  opposing = opposing;
}

-- what a new order of an account decides there
abbrev pub ordering_at : Standing → Account → Taker → Ordering
ordering_at s account taker =
    ordering_of taker.id_side s account (order_of taker) (meeting_of taker.id_side s (order_of taker))

-- what was foreseen of an order at this standing is what it would do; the base of its fills fits 64 bits, and the
-- rebates are at most the quote
pub record Foretells (foreseen : OrderProspect) (s : Standing) (account : Account) (taker : Taker) : Type 0 where
  pub plan : foreseen.plan ≡ plan_by (order_of taker) (ordering_at s account taker)
  pub aborts : foreseen.aborts ≡ (meeting_of taker.id_side s (order_of taker)).aborts
  pub lots : foreseen.sums.lots ≡ (meeting_of taker.id_side s (order_of taker)).lots
  pub pc : foreseen.sums.pc ≡ (meeting_of taker.id_side s (order_of taker)).pc
  pub rebates : foreseen.sums.rebates ≡ (meeting_of taker.id_side s (order_of taker)).rebates
  pub base_fits : foreseen.sums.lots * s.sizes.coin < 2 ^ 64
  pub rebates_within : foreseen.sums.rebates ≤ foreseen.sums.pc

-- the sums are what makers' fills among these events are to take off totals, and are below 2^80, so that adding to them
-- fits
pub record IsKnown (sums : PendingFills) (events : List QueuedEvent) : Type 0 where
  pub coin : sums.coin ≡ all_leaving Coin events
  pub pc : sums.pc ≡ all_leaving Pc events
  pub coin_small : sums.coin < 2 ^ 80
  pub pc_small : sums.pc < 2 ^ 80
