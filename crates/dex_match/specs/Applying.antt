-- What a new order leaves of the accounts: the market's words, the trader's funds, and the bytes that say so.
use Rattle.std.specs.Prelude.{ℕ, ◌+◌, ◌-◌, ◌*◌, ◌^◌, ◌<◌, ◌≤◌, ◌==◌, List, [], ◌∷◌, ◌++◌, length, if◌then◌else◌}
use Rattle.std.specs.List.{All}
use Rattle.dex_fields.specs.declared.request_queue.TheConstants.{NEXT_SEQ_NUM}
use Rattle.dex_fields.specs.Bytes.{with_number}
use Rattle.dex_laws.specs.Locks.{locked}
use Rattle.dex_types.specs.declared.orders.Order.{Order}
use Rattle.dex_types.specs.declared.terms.Lots.{Lots}
use Rattle.dex_types.specs.declared.terms.Side.{Side}
use Rattle.dex_types.specs.declared.terms.Side.TheVariants.{Bid, Ask}
use Rattle.dex_types.specs.BookSide.{IsNewId}
use Rattle.dex_types.specs.Fees.{referrer_part, tier_number}
use Rattle.dex_types.specs.Meeting.{Meeting, event_of, meet}
use Rattle.dex_types.specs.NewOrder.{NewOrder, Ordering, account_after, fee_of, demand_of, full_lock, last_events, terms_of}
use Rattle.dex_types.specs.Owed.{order_lock}
use Rattle.dex_types.specs.Posting.{Posting, post}
use Rattle.dex_types.specs.QueuedEvent.{QueuedEvent, TakerFill}
use Rattle.dex_types.specs.Side.{by_side, lock, opposite, price_of}
use Rattle.dex_market.specs.declared.funds.MarketFunds.{MarketFunds}
use Rattle.dex_market.specs.MarketAccount.{MarketWords, market_words}
use Rattle.dex_market.specs.MarketFunds.{with_funds, words_with_funds}
use Rattle.dex_market.specs.RequestQueue.{next_sequence}
use Rattle.dex_fills.specs.declared.event_kinds.EventAmounts.{EventAmounts}
use Rattle.dex_fills.specs.Prospects.{FitsSums}
use Rattle.dex_ring.specs.Appended.{HasRoom}
use Rattle.dex_orders.specs.declared.amounts.Funds.{Funds}
use Rattle.dex_orders.specs.OrdersAccount.{account_of, added, funded, funds_of}
use Rattle.dex_ring.specs.Ring.{Ring}
use Rattle.dex_match.specs.declared.intake.Intake.{Intake}
use Rattle.dex_match.specs.declared.order_plan.OrderPlan.{OrderPlan}
use Rattle.dex_match.specs.declared.payment.Moves.{Moves}
use Rattle.dex_match.specs.OrderParts.{OrderGiven, parts_of}
use Rattle.dex_match.specs.Ordering.{ordering_in}

-- what a new order decides over them
abbrev pub ordering_over : Side → NewOrder → OrderGiven → Ordering
ordering_over side n given = ordering_in side n (parts_of given)

-- ---- the market's words

-- what a deposit and a fee bring to a market, where the makers get rebates of the fee
abbrev pub intake_by : Side → ℕ → ℕ → ℕ → Intake
intake_by side deposit fee rebates = record {
  coin = by_side side 0 deposit;
  pc = by_side side deposit 0;
  fees = fee - referrer_part fee - rebates;
  referrer = referrer_part fee;
}

-- what a new order brings to a market
abbrev pub intake_of : Side → NewOrder → Ordering → Intake
intake_of side n o = intake_by side o.deposit (fee_of n o.met) o.met.rebates

-- the market's funds with an intake: what it earns of the fee leaves the deposits
abbrev pub funds_by : Intake → MarketWords → MarketFunds
funds_by intake words = record {
  coin_deposits = words.coin_deposits_total + intake.coin;
  pc_deposits = words.pc_deposits_total + intake.pc - (intake.fees + intake.referrer);
  pc_fees = words.pc_fees_accrued + intake.fees;
  referrer_rebates = words.referrer_rebates_accrued + intake.referrer;
}

-- the words of a market with an intake
abbrev pub words_with : Intake → MarketWords → MarketWords
words_with intake words = words_with_funds (funds_by intake words) words

-- the bytes of a market account with an intake
abbrev pub bytes_with : Intake → List ℕ → List ℕ
bytes_with intake bytes = with_funds (funds_by intake (market_words bytes)) bytes

-- the words have room for an intake, and what is earned is in the deposits
pub record CanTakeIn (intake : Intake) (words : MarketWords) : Type 0 where
  pub coin : words.coin_deposits_total + intake.coin < 2 ^ 64
  pub pc : words.pc_deposits_total + intake.pc < 2 ^ 64
  pub earned : intake.fees + intake.referrer ≤ words.pc_deposits_total + intake.pc
  pub fees : words.pc_fees_accrued + intake.fees < 2 ^ 64
  pub referrer : words.referrer_rebates_accrued + intake.referrer < 2 ^ 64

-- the request queue's bytes with one more sequence number given out
abbrev pub requests_after : List ℕ → List ℕ
requests_after bytes = with_number bytes NEXT_SEQ_NUM (next_sequence bytes + 1)

-- ---- the trader's account

-- the native amount that the fills take from the lock, by a plan's numbers
abbrev pub spent_by : Side → Lots → OrderPlan → ℕ
spent_by Bid sizes plan = plan.pc + plan.fee
spent_by Ask sizes plan = plan.lots * sizes.coin

-- the native amount that the fills bring in, by a plan's numbers
abbrev pub got_by : Side → Lots → OrderPlan → ℕ
got_by Bid sizes plan = plan.lots * sizes.coin
got_by Ask sizes plan = plan.pc - plan.fee

-- what a plan moves of its trader's funds
abbrev pub moves_by : Side → Lots → NewOrder → OrderPlan → Moves
moves_by side sizes n plan = record {
  from_free = full_lock side sizes n - plan.deposit;
  left = full_lock side sizes n - spent_by side sizes plan;
  locked = lock side sizes n.price plan.rested;
  got = got_by side sizes plan;
}

-- the lock of an order fits 64 bits, and pays for the deposit, for the fills and for what rests
pub record CanMove (side : Side) (sizes : Lots) (n : NewOrder) (plan : OrderPlan) : Type 0 where
  pub fits : full_lock side sizes n < 2 ^ 64
  pub deposit : plan.deposit ≤ full_lock side sizes n
  pub spent : spent_by side sizes plan + lock side sizes n.price plan.rested ≤ full_lock side sizes n
  pub fee : plan.fee ≤ plan.pc
  pub got : got_by side sizes plan < 2 ^ 64

-- funds of which this was moved
abbrev pub funds_with : Side → Moves → Funds → Funds
funds_with Bid moves funds = record {
  coin_free = funds.coin_free + moves.got;
  coin_total = funds.coin_total + moves.got;
  pc_free = funds.pc_free - moves.from_free + (moves.left - moves.locked);
  pc_total = funds.pc_total - moves.from_free + moves.left;
  referrer = funds.referrer;
}
funds_with Ask moves funds = record {
  coin_free = funds.coin_free - moves.from_free + (moves.left - moves.locked);
  coin_total = funds.coin_total - moves.from_free + moves.left;
  pc_free = funds.pc_free + moves.got;
  pc_total = funds.pc_total + moves.got;
  referrer = funds.referrer;
}

-- funds in order: what is free is part of the total, and totals fit 64 bits
pub record AreFunds (funds : Funds) : Type 0 where
  pub coin : funds.coin_free ≤ funds.coin_total
  pub pc : funds.pc_free ≤ funds.pc_total
  pub coin_fits : funds.coin_total < 2 ^ 64
  pub pc_fits : funds.pc_total < 2 ^ 64

-- so much can be moved of funds: it is there, no more stays locked than is left, and what comes of it are funds
pub record CanPay (side : Side) (moves : Moves) (funds : Funds) : Type 0 where
  pub from_free : moves.from_free ≤ by_side side funds.pc_free funds.coin_free
  pub from_total : moves.from_free ≤ by_side side funds.pc_total funds.coin_total
  pub locked : moves.locked ≤ moves.left
  pub after : AreFunds (funds_with side moves funds)

-- the bytes of the trader's account after an order: the slot is taken, and the funds are written
abbrev pub account_bytes_after : Side → Lots → NewOrder → Ordering → List ℕ → List ℕ
account_bytes_after side sizes n o bytes =
    funded (added bytes o.order.slot o.order.id side n.client) (funds_of (account_after side sizes n o (account_of bytes)))

-- ---- the book and the events

-- the order of a plan as it rests
abbrev pub order_by : OrderPlan → NewOrder → Order
order_by plan n = record {
  id = plan.id;
  owner = n.owner;
  slot = plan.slot;
  tier = tier_number n.tier;
  lots = plan.rested;
  client = n.client;
}

-- the one event of all the fills of an order, where they have quote
abbrev pub fill_events : Side → Order → ℕ → EventAmounts → List QueuedEvent
fill_events side order pc amounts =
    if pc == 0 then []
    else event_of (TakerFill side) order amounts.released amounts.paid amounts.fee_or_rebate ∷ []

-- the taker's fill event, where the plan has quote, with the amounts that the plan states
abbrev pub fill_events_by : Side → Lots → OrderPlan → Order → List QueuedEvent
fill_events_by side sizes plan order =
    fill_events side order plan.pc (record { released = got_by side sizes plan; paid = spent_by side sizes plan; fee_or_rebate = plan.fee })

-- the last events of an order that is posted on a side with this room
abbrev pub end_events : Side → Lots → Order → ℕ → List Order → List QueuedEvent
end_events side sizes order room own = last_events side sizes order (post side room order own).booted

-- all events of a plan, from what it meets and from its posting
abbrev pub events_by : Side → Lots → NewOrder → OrderPlan → Meeting → Posting → List QueuedEvent
events_by side sizes n plan met posting =
    met.events ++ fill_events_by side sizes plan (order_by plan n) ++ last_events side sizes (order_by plan n) posting.booted

-- an order can be put on its side, and the one that may have to leave for it can be told
pub record CanPost (side : Side) (sizes : Lots) (order : Order) (room : ℕ) (orders : List Order) : Type 0 where
  pub new : IsNewId order.id orders
  pub price : 1 ≤ price_of order.id
  pub slot : order.slot < 128
  pub tier : order.tier < 7
  pub locks : All (λ (other : Order). order_lock side sizes other < 2 ^ 64) orders
  pub capacity : 1 ≤ room

-- an order that has to leave its side can be told
pub record CanLeave (side : Side) (sizes : Lots) (order : Order) : Type 0 where
  pub slot : order.slot < 128
  pub tier : order.tier < 7
  pub lock : order_lock side sizes order < 2 ^ 64

-- what an order meets of the orders of the other side
abbrev pub met_with : Side → Lots → NewOrder → List Order → Meeting
met_with side sizes n opposing = meet side (terms_of sizes n) (demand_of side sizes n) opposing

-- the posting of an order, by a plan's numbers, among the orders of its own side
abbrev pub posted_by : Side → NewOrder → OrderPlan → ℕ → List Order → Posting
posted_by side n plan room own = post side room (order_by plan n) own

-- all events of a plan that trades over these orders of its own side, which has this room, and of the other one
abbrev pub trade_events : Side → Lots → NewOrder → OrderPlan → ℕ → List Order → List Order → List QueuedEvent
trade_events side sizes n plan room own opposing = events_by side sizes n plan (met_with side sizes n opposing) (posted_by side n plan room own)

-- an order can meet the other side and rest on its own, and the queue has room for its events
pub record CanTrade (side : Side) (sizes : Lots) (n : NewOrder) (plan : OrderPlan) (room : ℕ) (own opposing : List Order) (ring : Ring) : Type 0 where
  pub sums : FitsSums side sizes (met_with side sizes n opposing)
  pub locks : locked (opposite side) sizes opposing < 2 ^ 64
  pub moves : CanMove side sizes n plan
  pub posts : CanPost side sizes (order_by plan n) room own
  pub counted : ring.seq_num < 2 ^ 64
  pub queue : HasRoom (length (trade_events side sizes n plan room own opposing)) ring
