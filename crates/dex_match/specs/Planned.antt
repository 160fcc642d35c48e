-- What a plan asks of what it is handed, and what it leaves of that.
use Rattle.std.specs.Prelude.{◌≡◌, ◌+◌, ◌-◌, ◌<◌, ◌≤◌, ◌^◌, None, slice_index_or}
use Rattle.dex_types.specs.Fees.{referrer_part}
use Rattle.dex_types.specs.Meeting.{Meeting}
use Rattle.dex_types.specs.Posting.{Posting}
use Rattle.dex_types.specs.declared.terms.Side.{Side}
use Rattle.dex_types.specs.NewOrder.{NewOrder}
use Rattle.dex_market.specs.MarketAccount.{sizes_of}
use Rattle.dex_orders.specs.OrdersAccount.{HasNoOrder, added, funded, funds_of}
use Rattle.dex_ring.specs.Appended.{appended, pushed_all}
use Rattle.dex_ring.specs.Ring.{Ring}
use Rattle.dex_match.specs.declared.order_plan.OrderPlan.{OrderPlan}
use Rattle.dex_match.specs.declared.intake.Intake.{Intake}
use Rattle.dex_match.specs.Applying.{CanPay, CanTakeIn, CanTrade, bytes_with, events_by, funds_with, intake_by, met_with, moves_by, posted_by, requests_after}
use Rattle.dex_match.specs.OrderParts.{OrderGiven, OrderParts, parts_of}

-- a plan can be done on what is read: a sequence number is left, the book, the queue and the market's words have room,
-- the fee covers the referrer's part and the rebates, the slot is free, no slot holds its id, and the trader's funds
-- pay
pub record CanApply (side : Side) (n : NewOrder) (plan : OrderPlan) (parts : OrderParts) : Type 0 where
  pub left : parts.next_sequence < 2 ^ 64 - 1
  pub trades : CanTrade side (sizes_of parts.words) n plan parts.own_room parts.own parts.opposing parts.ring
  pub covers : referrer_part plan.fee + (met_with side (sizes_of parts.words) n parts.opposing).rebates ≤ plan.fee
  pub takes_in : CanTakeIn (intake_by side plan.deposit plan.fee (met_with side (sizes_of parts.words) n parts.opposing).rebates) parts.words
  pub free : slice_index_or parts.account.slots plan.slot None ≡ None
  pub fresh : HasNoOrder plan.id side parts.account.slots
  pub pays : CanPay side (moves_by side (sizes_of parts.words) n plan) (funds_of parts.account)

-- what an order meets of the orders of the opposite side, as these are read
abbrev pub met_in : Side → NewOrder → OrderParts → Meeting
met_in side n parts = met_with side (sizes_of parts.words) n parts.opposing

-- how the rest of a plan's order is posted on its own side, as that is read
abbrev pub posted_in : Side → NewOrder → OrderPlan → OrderParts → Posting
posted_in side n plan parts = posted_by side n plan parts.own_room parts.own

-- what a plan's order brings to the market: its deposit, fee and the makers' rebates
abbrev pub intake_in : Side → NewOrder → OrderPlan → OrderParts → Intake
intake_in side n plan parts = intake_by side plan.deposit plan.fee (met_in side n parts).rebates

-- what a plan leaves of accounts and sides: four words of the market and the sequence number are written, its events
-- appended, its slot taken and the funds paid; what it met has left the opposite side, what is left of it rests on its
-- own
abbrev pub planned : Side → NewOrder → OrderPlan → OrderGiven → OrderGiven
planned side n plan given =
    let parts = parts_of given in
    record {
      market = bytes_with (intake_in side n plan parts) given.market;
      requests = requests_after given.requests;
      events = pushed_all (events_by side (sizes_of parts.words) n plan (met_in side n parts) (posted_in side n plan parts)) given.events;
      account =
          funded (added given.account plan.slot plan.id side n.client) (funds_with side (moves_by side (sizes_of parts.words) n plan) (funds_of parts.account));
      own = (posted_in side n plan parts).side;
      own_room = given.own_room;
      opposing = (met_in side n parts).left;
    }

-- the queue, as it is read, with a plan's events after those that wait
abbrev pub planned_list : Side → NewOrder → OrderPlan → OrderParts → Ring
planned_list side n plan parts = appended (events_by side (sizes_of parts.words) n plan (met_in side n parts) (posted_in side n plan parts)) parts.ring
