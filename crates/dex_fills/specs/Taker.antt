-- What the code's taker is in the definitions: its terms, what it wants, and what it meets.
use Rattle.dex_fills.specs.declared.wants.MeetingTerms.{MeetingTerms}
use Rattle.dex_fills.specs.declared.wants.Want.{Want}
use Rattle.std.specs.Prelude.{ℕ, ◌*◌, List}
use Rattle.dex_fills.specs.declared.fills.Fill.{Fill}
use Rattle.dex_types.specs.declared.orders.Order.{Order}
use Rattle.dex_types.specs.declared.terms.Side.{Side}
use Rattle.dex_types.specs.Meeting.{TakerTerms, Demand, Meeting, meet, met_lots, met_pc, met_rebate}

-- the code's terms of a taker as the definitions have them
abbrev pub taking : MeetingTerms → TakerTerms
taking taker = record {
  program = taker.program;
  sizes = taker.sizes;
  limit_price = taker.limit_price;
  order_type = taker.order_type;
  self_trade = taker.self_trade;
  owner = taker.owner;
}

-- what it still wants
abbrev pub demand : Want → Demand
demand want = record { lots = want.lots; budget = want.budget; matches = want.matches }

-- the lots, base, quote and rebate that move where a met order loses so many lots
abbrev pub fill_met : MeetingTerms → Order → ℕ → Fill
fill_met taker order lots = record {
  lots = met_lots (taking taker) order lots;
  base = met_lots (taking taker) order lots * taker.sizes.coin;
  pc = met_pc (taking taker) order lots;
  rebate = met_rebate (taking taker) order lots;
}

-- the taker's meeting with these orders of the opposite side
abbrev pub met_by : Side → MeetingTerms → Want → List Order → Meeting
met_by side taker want opposing = meet side (taking taker) (demand want) opposing
