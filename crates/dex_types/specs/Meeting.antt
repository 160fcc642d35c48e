-- How a new order or a take meets the opposite side: which orders fill, which of its own leave, and the events of that.
use Rattle.std.specs.Prelude.{ℕ, ◌+◌, ◌-◌, ◌*◌, ◌/◌, List, [], ◌∷◌, ◌++◌, Option, Some, None, Bool, true, false, not, ◌&&◌, nat_lt, ◌==◌, min, if◌then◌else◌}
use Rattle.dex_types.specs.declared.addresses.Address.{Address}
use Rattle.dex_types.specs.declared.orders.Order.{Order}
use Rattle.dex_types.specs.declared.terms.Lots.{Lots}
use Rattle.dex_types.specs.declared.terms.OrderType.{OrderType}
use Rattle.dex_types.specs.declared.terms.OrderType.TheVariants.{PostOnly}
use Rattle.dex_types.specs.declared.terms.Program.{Program}
use Rattle.dex_types.specs.declared.terms.SelfTrade.{SelfTrade}
use Rattle.dex_types.specs.declared.terms.SelfTrade.TheVariants.{Decrement, CancelProvide, Abort}
use Rattle.dex_types.specs.declared.terms.Side.{Side}
use Rattle.dex_types.specs.declared.terms.Side.TheVariants.{Bid, Ask}
use Rattle.dex_types.specs.Addresses.{is_same}
use Rattle.dex_types.specs.Fees.{maker_rebate, tier_at}
use Rattle.dex_types.specs.QueuedEvent.{EventKind, MakerFill, PlainOut, ReleasingOut, QueuedEvent}
use Rattle.dex_types.specs.Side.{opposite, price_of, crosses, lock}

-- what a taker keeps to while it meets the opposite side. One without an owner has no orders of its own there
pub record TakerTerms : Type 0 where
  pub program : Program
  pub sizes : Lots
  pub limit_price : ℕ
  pub order_type : OrderType
  pub self_trade : SelfTrade
  pub owner : Option Address

-- what a taker still wants: base lots, the quote lots that a bid can still spend, and how many orders it may still meet
pub record Demand : Type 0 where
  pub lots : ℕ
  pub budget : ℕ
  pub matches : ℕ

-- what came of meeting the opposite side: the orders that are left there, the events, what the taker still wants, and
-- of its fills the base lots, the native quote and the makers' rebates; and the own order at which it has to abort
pub record Meeting : Type 0 where
  pub left : List Order
  pub events : List QueuedEvent
  pub demand : Demand
  pub lots : ℕ
  pub pc : ℕ
  pub rebates : ℕ
  pub aborts : Option ℕ

-- the order is one of the taker's own trader
abbrev pub is_own : Option Address → Order → Bool
is_own None order = false
is_own (Some owner) order = is_same owner order.owner

-- the order fills nothing
abbrev pub is_post_only : OrderType → Bool
is_post_only PostOnly = true
is_post_only _ = false

-- meeting an own order refuses the new one
abbrev pub is_abort : SelfTrade → Bool
is_abort Abort = true
is_abort _ = false

-- the taker meets the best opposite order: it still wants lots, may meet one more, crosses, and is not post-only
abbrev pub reaches : Side → TakerTerms → Demand → Order → Bool
reaches side t w order =
    nat_lt 0 w.matches && nat_lt 0 w.lots && crosses side t.limit_price (price_of order.id) && not (is_post_only t.order_type)

-- the lots of an own order that leave the book, by the self-trade rule
abbrev pub own_taken : SelfTrade → Demand → Order → ℕ
own_taken Decrement w order = min order.lots w.lots
own_taken CancelProvide w order = order.lots
own_taken Abort w order = 0

-- the lots that fill against another trader's order: a bid's budget bounds them too
abbrev pub filled : Side → Demand → Order → ℕ
filled Bid w order = min (min order.lots w.lots) (w.budget / price_of order.id)
filled Ask w order = min order.lots w.lots

-- the lots that the best opposite order loses. Orders have lots, so with 0 the meeting is over
unfoldable pub taken : Side → TakerTerms → Demand → Order → ℕ
taken side t w order =
    if reaches side t w order then (if is_own t.owner order then own_taken t.self_trade w order else filled side w order)
    else 0

-- what a bid can still spend after a fill; an ask spends no quote
abbrev pub budget_after : Side → Demand → Order → ℕ → ℕ
budget_after Bid w order lots = w.budget - lots * price_of order.id
budget_after Ask w order lots = w.budget

-- what a taker still wants after an own order: decrementing takes from both, cancelling from the resting order alone
abbrev pub demand_after_own : SelfTrade → Demand → ℕ → Demand
demand_after_own CancelProvide w lots = record w { matches = w.matches - 1 }
demand_after_own _ w lots = record w { lots = w.lots - lots; matches = w.matches - 1 }

-- what a taker still wants after the order lost these lots to it
unfoldable pub demand_after : Side → TakerTerms → Demand → Order → ℕ → Demand
demand_after side t w order lots =
    if is_own t.owner order then demand_after_own t.self_trade w lots
    else record { lots = w.lots - lots; budget = budget_after side w order lots; matches = w.matches - 1 }

-- the order with fewer lots
abbrev pub less : Order → ℕ → Order
less order lots = record order { lots = order.lots - lots }

-- an event of a resting order
abbrev pub event_of : EventKind → Order → ℕ → ℕ → ℕ → QueuedEvent
event_of kind order released paid fee_or_rebate = record {
  kind = kind;
  slot = order.slot;
  tier = order.tier;
  released = released;
  paid = paid;
  fee_or_rebate = fee_or_rebate;
  id = order.id;
  owner = order.owner;
  client = order.client;
}

-- the native quote of a fill
abbrev pub fill_pc : Lots → Order → ℕ → ℕ
fill_pc sizes order lots = price_of order.id * lots * sizes.pc

-- the maker's rebate of a fill, by the tier that is stored with the order
abbrev pub fill_rebate : TakerTerms → Order → ℕ → ℕ
fill_rebate t order lots = maker_rebate t.program (tier_at order.tier) (fill_pc t.sizes order lots)

-- the fill of a resting order of the side: an ask is owed quote and the rebate and pays base, a bid is owed base and
-- pays quote less the rebate
abbrev pub maker_fill : Side → TakerTerms → Order → ℕ → QueuedEvent
maker_fill Ask t order lots =
    event_of (MakerFill Ask) order (fill_pc t.sizes order lots + fill_rebate t order lots) (lots * t.sizes.coin) (fill_rebate t order lots)
maker_fill Bid t order lots =
    event_of (MakerFill Bid) order (lots * t.sizes.coin) (fill_pc t.sizes order lots - fill_rebate t order lots) (fill_rebate t order lots)

-- an order that is gone and releases nothing
abbrev pub plain_out : Side → Order → QueuedEvent
plain_out side order = event_of (PlainOut side) order 0 0 0

-- an order that loses lots and releases what they locked; with lots left, the rest stays locked
abbrev pub releasing_out : Side → Lots → Order → ℕ → QueuedEvent
releasing_out side sizes order lots =
    event_of (ReleasingOut side) order (lock side sizes (price_of order.id) lots) (lock side sizes (price_of order.id) (order.lots - lots)) 0

-- the events of one order that was met: what it releases, or its fill and, where that emptied it, its out
abbrev pub met_events : Side → TakerTerms → Order → ℕ → List QueuedEvent
met_events side t order lots =
    if is_own t.owner order then releasing_out (opposite side) t.sizes order lots ∷ []
    else maker_fill (opposite side) t order lots ∷ (if lots == order.lots then plain_out (opposite side) order ∷ [] else [])

-- the lots of one order that was met that filled
abbrev pub met_lots : TakerTerms → Order → ℕ → ℕ
met_lots t order lots = if is_own t.owner order then 0 else lots

-- the native quote of one order that was met that filled
abbrev pub met_pc : TakerTerms → Order → ℕ → ℕ
met_pc t order lots = if is_own t.owner order then 0 else fill_pc t.sizes order lots

-- the maker's rebate of one order that was met
abbrev pub met_rebate : TakerTerms → Order → ℕ → ℕ
met_rebate t order lots = if is_own t.owner order then 0 else fill_rebate t order lots

-- the own order at which the taker has to abort: the first that is left, where the taker meets it
abbrev pub aborts_at : Side → TakerTerms → Demand → List Order → Option ℕ
aborts_at side t w [] = None
aborts_at side t w (order ∷ others) =
    if reaches side t w order && is_own t.owner order && is_abort t.self_trade then Some order.id else None

-- the meeting is over, with these orders left
abbrev pub met_none : Side → TakerTerms → Demand → List Order → Meeting
met_none side t w left = record { left = left; events = []; demand = w; lots = 0; pc = 0; rebates = 0; aborts = aborts_at side t w left }

-- what the first order gives, before what the others give
abbrev pub met_first : Side → TakerTerms → Order → ℕ → Meeting → Meeting
met_first side t order lots rest = record {
  left = rest.left;
  events = met_events side t order lots ++ rest.events;
  demand = rest.demand;
  lots = met_lots t order lots + rest.lots;
  pc = met_pc t order lots + rest.pc;
  rebates = met_rebate t order lots + rest.rebates;
  aborts = rest.aborts;
}

-- a taker meets the opposite side from the best order on. Each order loses what the taker takes of it: with nothing
-- taken the meeting is over, and so it is where lots of the order are left, since then the lots or the budget are used
-- up
abbrev pub meet : Side → TakerTerms → Demand → List Order → Meeting
meet side t w [] = met_none side t w []
meet side t w (order ∷ others) =
    if taken side t w order == 0 then met_none side t w (order ∷ others)
    else (if nat_lt (taken side t w order) order.lots
    then met_first side t order (taken side t w order)
    (met_none side t (demand_after side t w order (taken side t w order)) (less order (taken side t w order) ∷ others))
    else met_first side t order (taken side t w order)
    (meet side t (demand_after side t w order (taken side t w order)) others))
