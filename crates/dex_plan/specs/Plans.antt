-- What a row is to do on a market, once it is decided.
use Rattle.std.specs.Prelude.{List, [], ◌∷◌, ◌++◌, Option, Some, None, Result, Ok, Err, is_some}
use Rattle.dex_types.specs.declared.addresses.Address.{Address}
use Rattle.dex_types.specs.declared.instructions.BadData.{BadData}
use Rattle.dex_types.specs.declared.instructions.Ix.{Ix}
use Rattle.dex_types.specs.declared.instructions.Ix.TheVariants.{InitializeMarket, MatchOrders, ConsumeEvents, SettleFunds, DisableMarket, SweepFees, NewOrderV3, CancelOrderV2, CancelOrderByClientIdV2, SendTake, CloseOpenOrders, InitOpenOrders, Prune, CancelOrdersByClientIds}
use Rattle.dex_types.specs.declared.refusals.Refusal.{Refusal}
use Rattle.dex_types.specs.declared.rows.Seen.{Seen}
use Rattle.dex_types.specs.declared.terms.OrderType.TheVariants.{Ioc}
use Rattle.dex_types.specs.declared.terms.SelfTrade.TheVariants.{Decrement}
use Rattle.dex_types.specs.declared.terms.Side.{Side}
use Rattle.dex_types.specs.Market.{Market, orders}
use Rattle.dex_types.specs.NewOrder.{NewOrder, order_on}
use Rattle.dex_types.specs.QueuedEvent.{QueuedEvent}
use Rattle.dex_types.specs.Reasons.{answered, disabled, first_of}
use Rattle.dex_types.specs.Requests.{Party, Request, party_of}
use Rattle.dex_types.specs.Settle.{settlement}
use Rattle.dex_types.specs.Side.{opposite}
use Rattle.dex_types.specs.Take.{Take, take_meeting}
use Rattle.dex_types.specs.Terms.{terms_order, terms_take}
use Rattle.dex_types.specs.Trader.{Account}
use Rattle.dex_types.specs.Why.{of_party, why, why_order, why_take}
use Rattle.dex_ring.specs.declared.pending_fills.PendingFills.{PendingFills}
use Rattle.dex_ring.specs.PendingFills.{pending_fills_of}
use Rattle.dex_cancel.specs.declared.what.CancelWhat.TheVariants as cancels
use Rattle.dex_match.specs.declared.order_terms.Taker.{Taker}
use Rattle.dex_match.specs.Ordering as ordering
use Rattle.dex_match.specs.OrderTerms.{order_of}
use Rattle.dex_settle.specs.PayingOut.{plan_of}
use Rattle.dex_take.specs.Taking as taking
use Rattle.dex_plan.specs.declared.plan.Plan.{Plan}
use Rattle.dex_plan.specs.declared.plan.Plan.TheVariants as plans

-- a new order as its trader states it
abbrev pub taker_of : Side → NewOrder → Taker
taker_of side n = record {
  id_side = side;
  price = n.price;
  lots = n.lots;
  lock = n.max_pc;
  self_trade = n.self_trade;
  order_type = n.order_type;
  client = n.client;
  limit = n.matches;
  tier = n.tier;
  account = n.owner;
  now = n.now;
  max_ts = n.latest;
  program = n.program;
}

-- a take as its taker states it, who has no account and no order that could rest; the signer stands in the account's
-- place
abbrev pub taker_of_take : Side → Request → Take → Taker
taker_of_take side request t = record {
  id_side = side;
  price = t.price;
  lots = t.lots;
  lock = t.max_pc;
  self_trade = Decrement;
  order_type = Ioc;
  client = 0;
  limit = t.matches;
  tier = t.tier;
  account = request.signer;
  now = request.now;
  max_ts = None;
  program = t.program;
}

-- the order of a taker, for another account
abbrev pub order_by : Taker → Address → NewOrder
order_by taker owner = record (order_of taker) { owner = owner }

-- what an open account is to do; without one nothing
abbrev pub by_party : (Party → Plan) → Option Party → Plan
by_party planned None = plans.Nothing
by_party planned (Some party) = planned party

-- what an open account is answered; without one the row is refused
abbrev pub answered_by : (Party → Option Refusal) → (Party → Plan) → Option Party → Result Plan Refusal
answered_by why planned party = answered (of_party why party) (by_party planned party)

-- the plan of settling an open account
abbrev pub settle_plan : Seen → Party → Plan
settle_plan seen party = plans.Settle (plan_of (settlement (is_some seen.referrer) party.account))

-- what makers' fills are to take off totals, once these events are pending after those of the market
abbrev pub sums_with : List QueuedEvent → Market → PendingFills
sums_with events m = pending_fills_of (m.events ++ events)

-- a new order of an account, what it does on the market, and what the sums are after it
abbrev pub order_planned : Side → NewOrder → Market → Account → Plan
order_planned side n m account =
    let o = order_on side m account n in
    plans.Order (taker_of side n) (ordering.plan_by n o) (sums_with o.events m)

-- the plan of a new order of an open account
abbrev pub order_plan : Side → (Address → NewOrder) → Market → Party → Plan
order_plan side order m party = order_planned side (order party.address) m party.account

-- what a new order is answered, for the account that the row names first
abbrev pub order_answer : Side → (Address → NewOrder) → Request → Seen → Market → Result Plan Refusal
order_answer side order request seen m = answered
    (first_of (disabled m ∷ of_party (why_order side order request seen m) (party_of request.named m.traders) ∷ []))
    (by_party (order_plan side order m) (party_of request.named m.traders))

-- a take, what it does on the market, and what the sums are after it
abbrev pub take_planned : Side → Taker → Take → Market → Plan
take_planned side taker t m =
    let met = take_meeting side m.listing.sizes t (orders (opposite side) m) in
    plans.Take taker (taking.plan_by side m.listing.sizes t met) (sums_with met.events m)

-- what a take is answered
abbrev pub take_answer : Taker → Take → Request → Seen → Market → Result Plan Refusal
take_answer taker t request seen m = answered (why_take taker.id_side t request seen m) (take_planned taker.id_side taker t m)

-- the plan of a take as a row asks for it
abbrev pub take_plan : Side → Take → Request → Market → Plan
take_plan side t request m = take_planned side (taker_of_take side request t) t m

-- what an instruction is to do
abbrev pub plan_on : Ix → Request → Seen → Market → Plan
plan_on (InitializeMarket coin_lot pc_lot fee_rate_bps nonce dust) request seen m = plans.Nothing
plan_on (MatchOrders limit) request seen m = plans.Nothing
plan_on (ConsumeEvents limit) request seen m = plans.Consume limit
plan_on SettleFunds request seen m = by_party (settle_plan seen) (party_of request.named m.traders)
plan_on DisableMarket request seen m = plans.Disable
plan_on SweepFees request seen m = plans.Sweep m.pc_fees
plan_on (NewOrderV3 side price lots max_pc self_trade order_type client limit latest) request seen m =
    by_party (order_plan side (terms_order request seen price lots max_pc self_trade order_type client limit latest) m) (party_of request.named m.traders)
plan_on (CancelOrderV2 side id) request seen m = plans.Cancel (cancels.ById side id)
plan_on (CancelOrderByClientIdV2 client) request seen m = plans.Cancel (cancels.ByClient client)
plan_on (SendTake side price lots max_pc min_lots min_pc limit) request seen m =
    take_plan side (terms_take seen price lots max_pc min_lots min_pc limit) request m
plan_on CloseOpenOrders request seen m = plans.Close
plan_on InitOpenOrders request seen m = plans.Init
plan_on (Prune limit) request seen m = plans.Cancel (cancels.Prune limit)
plan_on (CancelOrdersByClientIds ids) request seen m = plans.Cancel (cancels.ByClients ids)

-- the plan of what was decoded; nothing is done where nothing was
abbrev pub plan_decoded : Result Ix BadData → Request → Seen → Market → Plan
plan_decoded (Err rule) request seen m = plans.Nothing
plan_decoded (Ok ix) request seen m = plan_on ix request seen m

-- what deciding a row answers: why the market refuses it, else what it is to do there
abbrev pub decided : Request → Seen → Market → Result Plan Refusal
decided request seen m = answered (why request seen m) (plan_decoded request.instruction request seen m)
