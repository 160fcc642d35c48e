-- A market that pays at once: fills alone move worth. It has no events, slots, free funds or wallets.
use Rattle.std.specs.Prelude.{ℕ, ◌+◌, ◌-◌, ◌*◌, ◌^◌, List, [], ◌∷◌, Option, Some, None, Bool, false, ◌||◌, nat_le, ◌==◌, is_some, map, take, if◌then◌else◌, Result, Ok, Err}
use Rattle.dex_types.specs.declared.addresses.Address.{Address}
use Rattle.dex_types.specs.declared.instructions.BadData.{BadData}
use Rattle.dex_types.specs.declared.instructions.Ix.{Ix}
use Rattle.dex_types.specs.declared.instructions.Ix.TheVariants.{NewOrderV3, CancelOrderV2, CancelOrderByClientIdV2, SendTake, Prune, CancelOrdersByClientIds}
use Rattle.dex_types.specs.declared.orders.Order.{Order}
use Rattle.dex_types.specs.declared.rows.Seen.{Seen}
use Rattle.dex_types.specs.declared.terms.Lots.{Lots}
use Rattle.dex_types.specs.declared.terms.Side.{Side}
use Rattle.dex_types.specs.declared.terms.Side.TheVariants.{Bid, Ask}
use Rattle.dex_types.specs.Addresses.{is_same}
use Rattle.dex_types.specs.Cancel.{RestingOrder, CancelBy, ById, ByClient, ByClients, First, cancelled, without_order}
use Rattle.dex_types.specs.Market.{Market}
use Rattle.dex_types.specs.Meeting.{Meeting, meet}
use Rattle.dex_types.specs.NewOrder.{NewOrder, terms_of, demand_of, fee_of, rested, resting}
use Rattle.dex_types.specs.Owed.{leaving}
use Rattle.dex_types.specs.Posting.{Posting, post}
use Rattle.dex_types.specs.QueuedEvent.{QueuedEvent}
use Rattle.dex_types.specs.Requests.{Request}
use Rattle.dex_types.specs.Side.{by_side, opposite}
use Rattle.dex_types.specs.Take.{Take, take_meeting, take_fee}
use Rattle.dex_types.specs.Terms.{terms_order, terms_take}
use Rattle.dex_types.specs.Trader.{Trader}
use Rattle.dex_types.specs.Why.{why_unnamed}
use Rattle.dex_sound.specs.Exchange.{gained, taker_gets, taker_pays}
use Rattle.dex_eager.specs.Slots.{without_slots, maker_fills}
use Rattle.dex_eager.specs.Worth.{Worth, Ledger, net, plus, worth_of, takings_of}

-- the worth of each account of a market, in declared order
abbrev pub Worths : Type 0
Worths = List (Address × Worth)

-- a market that pays at once: its lot sizes, the two sides in book order with how many orders each can hold, the next
-- sequence number, the worth of each account, and what the market has taken of quote
pub record Eager : Type 0 where
  pub sizes : Lots
  pub bid_capacity : ℕ
  pub ask_capacity : ℕ
  pub bids : List Order
  pub asks : List Order
  pub next_sequence : ℕ
  pub worths : Worths
  pub takings : ℕ

-- the eager market of a market at a place of its history
abbrev pub eager_at : Market → Ledger → Eager
eager_at m ledger = record {
  sizes = m.listing.sizes;
  bid_capacity = m.listing.bid_capacity;
  ask_capacity = m.listing.ask_capacity;
  bids = without_slots m.bids;
  asks = without_slots m.asks;
  next_sequence = m.next_sequence;
  worths = map (λ (entry : Address × Trader). (entry.0, worth_of entry.0 m ledger)) m.traders;
  takings = takings_of m ledger;
}

-- the orders of a side
abbrev pub orders_on : Side → Eager → List Order
orders_on side e = by_side side e.bids e.asks

-- how many orders a side can hold
abbrev pub room_on : Side → Eager → ℕ
room_on side e = by_side side e.bid_capacity e.ask_capacity

-- the market with these orders on a side and on the opposite one
abbrev pub with_orders : Side → List Order → List Order → Eager → Eager
with_orders side own opposing e = record e { bids = by_side side own opposing; asks = by_side side opposing own }

-- the address is that of an account
abbrev pub has_account : Address → Worths → Bool
has_account owner [] = false
has_account owner (entry ∷ others) = is_same owner entry.0 || has_account owner others

-- the worth of the account of this address, if there is one
abbrev pub worth_at : Address → Worths → Option Worth
worth_at owner [] = None
worth_at owner (entry ∷ others) = if is_same owner entry.0 then Some entry.1 else worth_at owner others

-- the accounts, where the worth of one changes
abbrev pub with_change : Address → Worth → Worths → Worths
with_change owner change worths =
    map (λ (entry : Address × Worth). (entry.0, if is_same entry.0 owner then plus entry.1 change else entry.1)) worths

-- the accounts after these fills, one after the other: a resting ask gave base and got quote and the rebate, a bid gave
-- quote less the rebate and got base
abbrev pub with_fills : List QueuedEvent → Worths → Worths
with_fills [] worths = worths
with_fills (fill ∷ fills) worths =
    with_fills fills (with_change fill.owner (net (λ token. gained token fill) (λ token. leaving token fill)) worths)

-- what a row leaves, and the fills of resting orders that it made, with slot 0
pub record EagerStep : Type 0 where
  pub market : Eager
  pub fills : List QueuedEvent

-- a row that changes nothing
abbrev pub unchanged : Eager → EagerStep
unchanged e = record { market = e; fills = [] }

-- the market after a meeting on the side opposite to this one: makers are paid, and the fee less their rebates is taken
abbrev pub after_meeting : Side → Meeting → ℕ → Eager → Eager
after_meeting side met fee e =
    with_orders side (orders_on side e) met.left (record e {
      worths = with_fills (maker_fills met.events) e.worths;
      takings = e.takings + (fee - met.rebates);
    })

-- the base of an ask is 2^64 or more, or the quote that it trades is
abbrev pub is_too_large : Side → Lots → ℕ → Meeting → Bool
is_too_large Bid sizes lots met = false
is_too_large Ask sizes lots met = nat_le (2 ^ 64) (lots * sizes.coin) || nat_le (2 ^ 64) met.pc

-- what a new order meets
abbrev pub order_meeting : Side → NewOrder → Eager → Meeting
order_meeting side n e = meet side (terms_of e.sizes n) (demand_of side e.sizes n) (orders_on (opposite side) e)

-- how what is left of a new order rests on its own side: in slot 0
abbrev pub order_posting : Side → NewOrder → Meeting → Eager → Posting
order_posting side n met e = post side (room_on side e) (resting side e.next_sequence 0 n (rested side e.sizes n met)) (orders_on side e)

-- the market after a new order: what it met, what rests, the next sequence number, and the worth that its fills brought
-- and took
abbrev pub after_new_order : Side → NewOrder → Meeting → Eager → Eager
after_new_order side n met e =
    let m : Eager = after_meeting side met (fee_of n met) e in
    with_orders side (order_posting side n met e).side met.left (record m {
      next_sequence = e.next_sequence + 1;
      worths = with_change n.owner (net (taker_gets side e.sizes met (fee_of n met)) (taker_pays side e.sizes met (fee_of n met))) m.worths;
    })

-- a new order changes nothing: it is too large, there is no sequence number for it, or it would have to abort
abbrev pub does_nothing : Side → NewOrder → Meeting → Eager → Bool
does_nothing side n met e = is_too_large side e.sizes n.lots met || (e.next_sequence == 2 ^ 64 - 1) || is_some met.aborts

-- the step of a new order, by what it met
abbrev pub order_by : Side → NewOrder → Meeting → Eager → EagerStep
order_by side n met e =
    if does_nothing side n met e then unchanged e else record { market = after_new_order side n met e; fills = maker_fills met.events }

-- a new order of an account
abbrev pub eager_order : Side → (Address → NewOrder) → Eager → Address → EagerStep
eager_order side order e owner = order_by side (order owner) (order_meeting side (order owner) e) e

-- the step of a take, by what it met
abbrev pub take_by : Side → Take → Meeting → Eager → EagerStep
take_by side t met e =
    if is_too_large side e.sizes t.lots met then unchanged e
    else record { market = after_meeting side met (take_fee t met) e; fills = maker_fills met.events }

-- a take: makers are paid, and the taker has no account
abbrev pub eager_take : Side → Take → Eager → EagerStep
eager_take side t e = take_by side t (take_meeting side e.sizes t (orders_on (opposite side) e)) e

-- the market without these orders, one after the other
abbrev pub without_all : List RestingOrder → Eager → Eager
without_all [] e = e
without_all (gone ∷ others) e =
    without_all others (with_orders gone.side (without_order gone.order.id (orders_on gone.side e)) (orders_on (opposite gone.side) e) e)

-- a cancel that takes these orders, unless it names no order of the account
abbrev pub cancel_by : CancelBy → Address → Eager → List RestingOrder → EagerStep
cancel_by by owner e gone = if is_some (why_unnamed by owner e.bids e.asks gone) then unchanged e else record { market = without_all gone e; fills = [] }

-- a cancel of an account's orders
abbrev pub eager_cancel : CancelBy → Eager → Address → EagerStep
eager_cancel by e owner = cancel_by by owner e (cancelled by owner e.bids e.asks)

-- what the account does that a row names first; without one, or where the market has no such account, nothing changes
abbrev pub by_account : (Address → EagerStep) → Eager → List Address → EagerStep
by_account act e [] = unchanged e
by_account act e (owner ∷ others) = if has_account owner e.worths then act owner else unchanged e

-- what an instruction does: orders, takes and cancels change the sides; all others change nothing
abbrev pub eager_act : Ix → Request → Seen → Eager → EagerStep
eager_act (NewOrderV3 side price lots max_pc self_trade order_type client limit latest) request seen e =
    by_account (eager_order side (terms_order request seen price lots max_pc self_trade order_type client limit latest) e) e request.named
eager_act (SendTake side price lots max_pc min_lots min_pc limit) request seen e =
    eager_take side (terms_take seen price lots max_pc min_lots min_pc limit) e
eager_act (CancelOrderV2 side id) request seen e = by_account (eager_cancel (ById side id) e) e request.named
eager_act (CancelOrderByClientIdV2 client) request seen e = by_account (eager_cancel (ByClient client) e) e request.named
eager_act (Prune limit) request seen e = by_account (eager_cancel (First limit) e) e request.named
eager_act (CancelOrdersByClientIds ids) request seen e = by_account (eager_cancel (ByClients (take ids.count ids.ids)) e) e request.named
eager_act ix request seen e = unchanged e

-- what data does, if it decodes
abbrev pub eager_decoded : Result Ix BadData → Request → Seen → Eager → EagerStep
eager_decoded (Err rule) request seen e = unchanged e
eager_decoded (Ok ix) request seen e = eager_act ix request seen e

-- the step of a row on an eager market
abbrev pub eager_step : Request → Seen → Eager → EagerStep
eager_step request seen e = eager_decoded request.instruction request seen e
