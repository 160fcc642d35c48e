-- What a new order does: what it locks, may spend, meets and rests, its events, and the market after it.
use Rattle.std.specs.Prelude.{ℕ, ℤ, ◌+◌, ◌-◌, ◌*◌, ◌/◌, List, [], ◌∷◌, ◌++◌, Option, Some, None, ◌==◌, min, length, slice_set, if◌then◌else◌}
use Rattle.dex_types.specs.declared.addresses.Address.{Address}
use Rattle.dex_types.specs.declared.orders.Order.{Order}
use Rattle.dex_types.specs.declared.replies.Reply.{Reply}
use Rattle.dex_types.specs.declared.replies.Reply.TheVariants.{Ordered}
use Rattle.dex_types.specs.declared.terms.Lots.{Lots}
use Rattle.dex_types.specs.declared.terms.OrderType.{OrderType}
use Rattle.dex_types.specs.declared.terms.Program.{Program}
use Rattle.dex_types.specs.declared.terms.SelfTrade.{SelfTrade}
use Rattle.dex_types.specs.declared.terms.Side.{Side}
use Rattle.dex_types.specs.declared.terms.Side.TheVariants.{Bid, Ask}
use Rattle.dex_types.specs.declared.terms.Tier.{Tier}
use Rattle.dex_types.specs.Fees.{taker_fee, referrer_part, spendable, tier_number}
use Rattle.dex_types.specs.Market.{Market, events_counted, orders, with_sides, capacity, with_deposit}
use Rattle.dex_types.specs.Meeting.{TakerTerms, Demand, Meeting, meet, event_of, plain_out, releasing_out}
use Rattle.dex_types.specs.Posting.{Posting, post, rested_lots}
use Rattle.dex_types.specs.QueuedEvent.{QueuedEvent, TakerFill}
use Rattle.dex_types.specs.Side.{opposite, locked_token, gained_token, id_of, lock}
use Rattle.dex_types.specs.Trader.{Account, Balance, Holding, Open, balance, with_balance, free_slot, put_trader}

-- a new order of a trader, apart from its side. `max_pc` is the native quote that a bid may use, fee included;
-- `matches` is how many orders it may meet; `now` is the clock, and `latest` the last clock at which the order is taken
pub record NewOrder : Type 0 where
  pub program : Program
  pub tier : Tier
  pub owner : Address
  pub price : ℕ
  pub lots : ℕ
  pub max_pc : ℕ
  pub self_trade : SelfTrade
  pub order_type : OrderType
  pub client : ℕ
  pub matches : ℕ
  pub now : ℤ
  pub latest : Option ℤ

-- the native amount that a new order locks before it meets anything
abbrev pub full_lock : Side → Lots → NewOrder → ℕ
full_lock Bid sizes n = n.max_pc
full_lock Ask sizes n = n.lots * sizes.coin

-- the quote lots that a new bid can spend, with its fee covered; an ask spends no quote
abbrev pub budget : Side → Lots → NewOrder → ℕ
budget Bid sizes n = spendable n.program n.tier n.max_pc / sizes.pc
budget Ask sizes n = 0

-- what a new order keeps to while it meets the opposite side
abbrev pub terms_of : Lots → NewOrder → TakerTerms
terms_of sizes n = record {
  program = n.program;
  sizes = sizes;
  limit_price = n.price;
  order_type = n.order_type;
  self_trade = n.self_trade;
  owner = Some n.owner;
}

-- what a new order wants before it meets anything
abbrev pub demand_of : Side → Lots → NewOrder → Demand
demand_of side sizes n = record { lots = n.lots; budget = budget side sizes n; matches = n.matches }

-- what a new order looks at of a market: the lot sizes, the next sequence number, its own side with its capacity, and
-- the side that it meets
pub record Standing : Type 0 where
  pub sizes : Lots
  pub next_sequence : ℕ
  pub own : List Order
  pub own_capacity : ℕ
  pub opposing : List Order

-- what a new order of the side looks at of this market
abbrev pub standing_of : Side → Market → Standing
standing_of side m = record {
  sizes = m.listing.sizes;
  next_sequence = m.next_sequence;
  own = orders side m;
  own_capacity = capacity side m;
  opposing = orders (opposite side) m;
}

-- what a new order of the side meets
abbrev pub meeting_of : Side → Standing → NewOrder → Meeting
meeting_of side s n = meet side (terms_of s.sizes n) (demand_of side s.sizes n) s.opposing

-- the taker's fee, on the sum of its fills
abbrev pub fee_of : NewOrder → Meeting → ℕ
fee_of n met = taker_fee n.program n.tier met.pc

-- the native amount that the fills take from the lock: a bid pays quote and the fee, an ask pays base
abbrev pub spent : Side → Lots → NewOrder → Meeting → ℕ
spent Bid sizes n met = met.pc + fee_of n met
spent Ask sizes n met = met.lots * sizes.coin

-- the native amount that the fills bring in: a bid gets base, an ask gets quote less the fee
abbrev pub got : Side → Lots → NewOrder → Meeting → ℕ
got Bid sizes n met = met.lots * sizes.coin
got Ask sizes n met = met.pc - fee_of n met

-- the lots of a new order that rest after the meeting
abbrev pub rested : Side → Lots → NewOrder → Meeting → ℕ
rested side sizes n met =
    rested_lots side n.order_type sizes n.price met.left met.demand.lots (full_lock side sizes n - spent side sizes n met)

-- the new order as it rests, with these lots
abbrev pub resting : Side → ℕ → ℕ → NewOrder → ℕ → Order
resting side sequence slot n lots = record {
  id = id_of side n.price sequence;
  owner = n.owner;
  slot = slot;
  tier = tier_number n.tier;
  lots = lots;
  client = n.client;
}

-- the one event of all the taker's fills, where there are any
abbrev pub taker_events : Side → Lots → NewOrder → Meeting → Order → List QueuedEvent
taker_events side sizes n met order =
    if met.pc == 0 then [] else event_of (TakerFill side) order (got side sizes n met) (spent side sizes n met) (fee_of n met) ∷ []

-- the last event of a new order: that it is gone, where it does not rest, or that another had to leave for it
abbrev pub last_events : Side → Lots → Order → Option Order → List QueuedEvent
last_events side sizes order None = if order.lots == 0 then plain_out side order ∷ [] else []
last_events side sizes order (Some booted) = releasing_out side sizes booted booted.lots ∷ []

-- all that a new order does, as it was decided, unless it is refused (as it is where it has to abort): the amount from
-- the trader's wallet, what it met, how it rests, and the events, in the order in which they are appended
pub record Ordering : Type 0 where
  pub deposit : ℕ
  pub met : Meeting
  pub order : Order
  pub posting : Posting
  pub events : List QueuedEvent

-- the amount from the trader's wallet: the lock less what the trader has free
abbrev pub deposit_of : Side → Lots → Account → NewOrder → ℕ
deposit_of side sizes account n = full_lock side sizes n - min (balance (locked_token side) account).free (full_lock side sizes n)

-- what a new order decides, from its meeting, its resting order and its posting
abbrev pub ordering_by : Side → Lots → Account → NewOrder → Meeting → Order → Posting → Ordering
ordering_by side sizes account n met order posting = record {
  deposit = deposit_of side sizes account n;
  met = met;
  order = order;
  posting = posting;
  events = met.events ++ taker_events side sizes n met order ++ last_events side sizes order posting.booted;
}

-- what a new order does, from its meeting
abbrev pub ordering_of : Side → Standing → Account → NewOrder → Meeting → Ordering
ordering_of side s account n met =
    let order = resting side s.next_sequence (free_slot account.slots) n (rested side s.sizes n met) in
    ordering_by side s.sizes account n met order (post side s.own_capacity order s.own)

-- what a new order of an open account decides on the market; the account is the one at the order's owner
abbrev pub order_on : Side → Market → Account → NewOrder → Ordering
order_on side m account n = ordering_of side (standing_of side m) account n (meeting_of side (standing_of side m) n)

-- the locked token's funds: the lock is taken from them and from the deposit, the fills are paid, and all that neither
-- fills nor rests is free again
abbrev pub payer_after : Side → Lots → NewOrder → Ordering → Balance → Balance
payer_after side sizes n o funds = record {
  free = funds.free - min funds.free (full_lock side sizes n) + full_lock side sizes n - spent side sizes n o.met - lock side sizes n.price o.order.lots;
  total = funds.total + o.deposit - spent side sizes n o.met;
}

-- the other token's funds, which get what the fills bring in
abbrev pub payee_after : Side → Lots → NewOrder → Ordering → Balance → Balance
payee_after side sizes n o funds = record {
  free = funds.free + got side sizes n o.met;
  total = funds.total + got side sizes n o.met;
}

-- what the order's slot holds
abbrev pub held : Side → Ordering → Holding
held side o = record { id = o.order.id; side = side; client = o.order.client }

-- the trader's account after the order: paid at once, with the slot taken
abbrev pub account_after : Side → Lots → NewOrder → Ordering → Account → Account
account_after side sizes n o account =
    with_balance (gained_token side) (payee_after side sizes n o (balance (gained_token side) account))
    (with_balance (locked_token side) (payer_after side sizes n o (balance (locked_token side) account))
    (record account { slots = slice_set account.slots o.order.slot (Some (held side o)) }))

-- what the market keeps of the fee: neither the referrer's part nor the makers' rebates
abbrev pub fees_kept : NewOrder → Meeting → ℕ
fees_kept n met = fee_of n met - referrer_part (fee_of n met) - met.rebates

-- the market after the order, apart from its sides and its traders
abbrev pub words_after : Side → NewOrder → Ordering → Market → Market
words_after side n o m =
    with_deposit (locked_token side) o.deposit (record m {
      events = m.events ++ o.events;
      pc_fees = m.pc_fees + fees_kept n o.met;
      referrer_rebates = m.referrer_rebates + referrer_part (fee_of n o.met);
      next_sequence = m.next_sequence + 1;
      events_appended = events_counted m.events_appended (length o.events);
    })

-- the market after a new order of an open account
abbrev pub after_order : Side → Account → NewOrder → Ordering → Market → Market
after_order side account n o m =
    with_sides side o.posting.side o.met.left (record (words_after side n o m) {
      traders = put_trader n.owner (Open (account_after side m.listing.sizes n o account)) m.traders;
    })

-- what a new order is answered
abbrev pub order_reply : NewOrder → Ordering → Reply
order_reply n o = Ordered o.order.slot o.order.id o.met.lots o.met.pc (fee_of n o.met) o.order.lots
