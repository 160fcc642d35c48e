-- Why a new order is refused, or else what it does, read from the parts that it is handed.
use Rattle.std.specs.Prelude.{◌≡◌, ℕ, ◌+◌, ◌++◌, Option, Some, None, Result, length}
use Rattle.dex_types.specs.declared.refusals.Refusal.{Refusal}
use Rattle.dex_types.specs.declared.terms.Side.{Side}
use Rattle.dex_types.specs.NewOrder.{NewOrder, Ordering, fee_of, meeting_of, ordering_of}
use Rattle.dex_types.specs.Reasons.{answered}
use Rattle.dex_types.specs.Side.{Token, Coin, Pc, by_side, by_token}
use Rattle.dex_types.specs.Solvency.{all_leaving}
use Rattle.dex_types.specs.Why.{Limits, OrderReading, why_ordering}
use Rattle.dex_market.specs.MarketAccount.{sizes_of, vault_of}
use Rattle.dex_ring.specs.Ring.{room_of}
use Rattle.dex_ring.specs.declared.pending_fills.PendingFills.{PendingFills}
use Rattle.dex_ring.specs.PendingFills.{pending_fills_of}
use Rattle.dex_match.specs.declared.order_plan.Decided.{Decided}
use Rattle.dex_match.specs.declared.order_plan.OrderPlan.{OrderPlan}
use Rattle.dex_match.specs.OrderParts.{OrderParts, standing_in}

-- what a new order decides
abbrev pub ordering_in : Side → NewOrder → OrderParts → Ordering
ordering_in side n parts = ordering_of side (standing_in parts) parts.account n (meeting_of side (standing_in parts) n)

-- the plan with the numbers of what an order would do
abbrev pub plan_by : NewOrder → Ordering → OrderPlan
plan_by n o = record {
  deposit = o.deposit;
  needed = length o.events;
  lots = o.met.lots;
  pc = o.met.pc;
  fee = fee_of n o.met;
  rested = o.order.lots;
  slot = o.order.slot;
  id = o.order.id;
}

-- what a vault holds after an order's deposit, in native units: a bid deposits quote, an ask base
abbrev pub vault_after : Token → Side → OrderParts → Ordering → ℕ
vault_after token side parts o = vault_of token parts.words + by_token token (by_side side 0 o.deposit) (by_side side o.deposit 0)

-- what pending makers' fills are to take off totals of a token after the order
abbrev pub leaving_after : Token → OrderParts → Ordering → ℕ
leaving_after token parts o = all_leaving token (parts.ring.events ++ o.events)

-- the limits of what an order would do, by the balance of the wallet that pays, a native amount
abbrev pub limits_in : Side → OrderParts → Ordering → ℕ → Limits
limits_in side parts o balance = record {
  room = room_of parts.ring;
  balance = Some balance;
  coin = record { vault = vault_after Coin side parts o; leaving = leaving_after Coin parts o };
  pc = record { vault = vault_after Pc side parts o; leaving = leaving_after Pc parts o };
}

-- what the reasons read of the parts
abbrev pub reading_in : Side → NewOrder → OrderParts → ℕ → OrderReading
reading_in side n parts balance = record {
  sizes = sizes_of parts.words;
  next_sequence = parts.next_sequence;
  account = parts.account;
  ordering = ordering_in side n parts;
  limits = limits_in side parts (ordering_in side n parts) balance;
}

-- why the order is refused
abbrev pub order_reason : Side → NewOrder → OrderParts → ℕ → Option Refusal
order_reason side n parts balance = why_ordering side n (reading_in side n parts balance)

-- what deciding answers
abbrev pub order_answer : Side → NewOrder → OrderParts → ℕ → Result OrderPlan Refusal
order_answer side n parts balance = answered (order_reason side n parts balance) (plan_by n (ordering_in side n parts))

-- what pending makers' fills are to take off totals after it
abbrev pub sums_after : OrderParts → Ordering → PendingFills
sums_after parts o = pending_fills_of (parts.ring.events ++ o.events)

-- what deciding answers, with the sums after the order beside the plan
abbrev pub order_outcome : Side → NewOrder → OrderParts → ℕ → Result Decided Refusal
order_outcome side n parts balance =
    let o = ordering_in side n parts in
    answered (order_reason side n parts balance) (record { plan = plan_by n o; pending = sums_after parts o })

-- the plan was decided on these parts, with some balance
pub record IsDecided (plan : OrderPlan) (side : Side) (n : NewOrder) (parts : OrderParts) : Type 0 where
  pub balance : ℕ
  pub accepted : order_reason side n parts balance ≡ None
  pub planned : plan ≡ plan_by n (ordering_in side n parts)
