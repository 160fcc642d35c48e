-- A take as its taker states it, and what it meets.
use Rattle.std.specs.Prelude.{ℕ, List}
use Rattle.dex_types.specs.declared.orders.Order.{Order}
use Rattle.dex_types.specs.declared.terms.Lots.{Lots}
use Rattle.dex_types.specs.Meeting.{Meeting}
use Rattle.dex_types.specs.Take.{Take, take_meeting}
use Rattle.dex_match.specs.declared.order_terms.Taker.{Taker}

-- the take, with what it has to fill at least, in base lots and in native quote
abbrev pub take_of : Taker → ℕ → ℕ → Take
take_of taker min_lots min_pc = record {
  program = taker.program;
  tier = taker.tier;
  price = taker.price;
  lots = taker.lots;
  max_pc = taker.lock;
  matches = taker.limit;
  min_lots = min_lots;
  min_pc = min_pc;
}

-- the take without a least fill, which decides only whether it is refused
abbrev pub bare_take : Taker → Take
bare_take taker = take_of taker 0 0

-- the taker's meeting with these orders of the opposite side
abbrev pub meeting_with : Lots → Taker → List Order → Meeting
meeting_with sizes taker opposing = take_meeting taker.id_side sizes (bare_take taker) opposing
