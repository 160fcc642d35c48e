-- A new order as its trader states it, and what it meets.
use Rattle.std.specs.Prelude.{List}
use Rattle.dex_types.specs.declared.orders.Order.{Order}
use Rattle.dex_types.specs.declared.terms.Lots.{Lots}
use Rattle.dex_types.specs.Meeting.{Meeting, meet}
use Rattle.dex_types.specs.NewOrder.{NewOrder, terms_of, demand_of}
use Rattle.dex_match.specs.declared.order_terms.Taker.{Taker}

-- the new order
abbrev pub order_of : Taker → NewOrder
order_of taker = record {
  program = taker.program;
  tier = taker.tier;
  owner = taker.account;
  price = taker.price;
  lots = taker.lots;
  max_pc = taker.lock;
  self_trade = taker.self_trade;
  order_type = taker.order_type;
  client = taker.client;
  matches = taker.limit;
  now = taker.now;
  latest = taker.max_ts;
}

-- the taker's meeting with these orders of the opposite side
abbrev pub meeting_with : Lots → Taker → List Order → Meeting
meeting_with sizes taker opposing =
    meet taker.id_side (terms_of sizes (order_of taker)) (demand_of taker.id_side sizes (order_of taker)) opposing
