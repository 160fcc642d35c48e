-- The take: an immediate order straight from and to wallets, without an account, a slot or a place in the book.
use Rattle.std.specs.Prelude.{ℕ, ◌+◌, ◌-◌, ◌*◌, ◌/◌, ◌++◌, List, Option, Some, None, nat_lt, length, if◌then◌else◌}
use Rattle.dex_types.specs.declared.orders.Order.{Order}
use Rattle.dex_types.specs.declared.replies.Reply.{Reply}
use Rattle.dex_types.specs.declared.replies.Reply.TheVariants.{Took}
use Rattle.dex_types.specs.declared.terms.Lots.{Lots}
use Rattle.dex_types.specs.declared.terms.OrderType.TheVariants.{Ioc}
use Rattle.dex_types.specs.declared.terms.Program.{Program}
use Rattle.dex_types.specs.declared.terms.SelfTrade.TheVariants.{Decrement}
use Rattle.dex_types.specs.declared.terms.Side.{Side}
use Rattle.dex_types.specs.declared.terms.Side.TheVariants.{Bid, Ask}
use Rattle.dex_types.specs.declared.terms.Tier.{Tier}
use Rattle.dex_types.specs.Fees.{taker_fee, spendable}
use Rattle.dex_types.specs.Market.{Market, events_counted, orders, with_sides}
use Rattle.dex_types.specs.Meeting.{TakerTerms, Demand, Meeting, meet}
use Rattle.dex_types.specs.Side.{locked_token}
use Rattle.dex_types.specs.Transfers.{Transfers, exchange, with_transfers}

-- a take, apart from its side. `max_pc` is the native quote that a bid may use, fee included; `min_lots` and `min_pc`
-- are what it has to fill at least, in base lots and in native quote
pub record Take : Type 0 where
  pub program : Program
  pub tier : Tier
  pub price : ℕ
  pub lots : ℕ
  pub max_pc : ℕ
  pub matches : ℕ
  pub min_lots : ℕ
  pub min_pc : ℕ

-- the native amount that a take may use at most
abbrev pub take_lock : Side → Lots → Take → ℕ
take_lock Bid sizes t = t.max_pc
take_lock Ask sizes t = t.lots * sizes.coin

-- the quote lots that a bid can spend, with its fee covered; an ask spends no quote
abbrev pub take_budget : Side → Lots → Take → ℕ
take_budget Bid sizes t = spendable t.program t.tier t.max_pc / sizes.pc
take_budget Ask sizes t = 0

-- a take has no owner, so no order is its own and the self-trade rule decides nothing
abbrev pub take_terms : Lots → Take → TakerTerms
take_terms sizes t = record {
  program = t.program;
  sizes = sizes;
  limit_price = t.price;
  order_type = Ioc;
  self_trade = Decrement;
  owner = None;
}

-- what a take wants before it meets anything
abbrev pub take_demand : Side → Lots → Take → Demand
take_demand side sizes t = record { lots = t.lots; budget = take_budget side sizes t; matches = t.matches }

-- what a take meets on the opposite side
abbrev pub take_meeting : Side → Lots → Take → List Order → Meeting
take_meeting side sizes t opposing = meet side (take_terms sizes t) (take_demand side sizes t) opposing

-- the fee, on the sum of its fills
abbrev pub take_fee : Take → Meeting → ℕ
take_fee t met = taker_fee t.program t.tier met.pc

-- the native amount that a take pays: a bid quote and the fee, an ask base
abbrev pub take_paid : Side → Lots → Take → Meeting → ℕ
take_paid Bid sizes t met = met.pc + take_fee t met
take_paid Ask sizes t met = met.lots * sizes.coin

-- the native amount that a take gets: a bid base, an ask quote less the fee
abbrev pub take_got : Side → Lots → Take → Meeting → ℕ
take_got Bid sizes t met = met.lots * sizes.coin
take_got Ask sizes t met = met.pc - take_fee t met

-- the native quote that a take pays or gets, with its fee
abbrev pub take_quote : Side → Take → Meeting → ℕ
take_quote Bid t met = met.pc + take_fee t met
take_quote Ask t met = met.pc - take_fee t met

-- where a take filled too little, what it filled: the lots where they are too few, else the quote
abbrev pub too_little : Side → Take → Meeting → Option ℕ
too_little side t met =
    if nat_lt met.lots t.min_lots then Some met.lots
    else (if nat_lt (take_quote side t met) t.min_pc then Some (take_quote side t met) else None)

-- what moves between wallets and vaults
abbrev pub take_transfers : Side → Lots → Take → Meeting → Transfers
take_transfers side sizes t met = exchange (locked_token side) (take_paid side sizes t met) (take_got side sizes t met)

-- the market after a take: the makers' events wait, and the fee less their rebates is the market's
abbrev pub after_take : Side → Take → Meeting → Market → Market
after_take side t met m =
    with_sides side (orders side m) met.left (record (with_transfers (take_transfers side m.listing.sizes t met) m) {
      events = m.events ++ met.events;
      events_appended = events_counted m.events_appended (length met.events);
      pc_fees = m.pc_fees + (take_fee t met - met.rebates);
    })

-- what a take is answered
abbrev pub take_reply : Take → Meeting → Reply
take_reply t met = Took met.lots met.pc (take_fee t met)
