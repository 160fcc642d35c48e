-- What a market holds for accounts, of both tokens at once.
use Rattle.std.specs.Prelude.{List}
use Rattle.dex_types.specs.declared.addresses.Address.{Address}
use Rattle.dex_types.specs.declared.orders.Order.{Order}
use Rattle.dex_types.specs.declared.terms.Lots.{Lots}
use Rattle.dex_types.specs.declared.terms.Side.{Side}
use Rattle.dex_types.specs.declared.terms.Side.TheVariants.{Bid, Ask}
use Rattle.dex_types.specs.Market.{Market}
use Rattle.dex_types.specs.Owed.{is_order_of, order_lock, owed}
use Rattle.dex_types.specs.QueuedEvent.{QueuedEvent}
use Rattle.dex_types.specs.Side.{Coin, Pc}
use Rattle.dex_types.specs.Solvency.{free_of}
use Rattle.dex_types.specs.Totals.{total, weighed_where}
use Rattle.dex_types.specs.Trader.{Trader, Traders, trader_at}
use Rattle.dex_audit_rules.specs.Books.{PlainGathered}
use Rattle.dex_eager.specs.Worth.{free_in, held_for, own_owed}
use Rattle.dex_worth.specs.declared.amounts.TokenAmounts.{TokenAmounts}
use Rattle.dex_worth.specs.Amounts.{both, on_side}

-- what a trader has free
abbrev pub free_amounts : Trader → TokenAmounts
free_amounts trader = record { coin = free_of Coin trader; pc = free_of Pc trader }

-- what the trader of an address has free, if there is one
abbrev pub free_at : Traders → Address → TokenAmounts
free_at traders owner = record { coin = free_in Coin (trader_at owner traders); pc = free_in Pc (trader_at owner traders) }

-- what an owner's orders of a side lock
abbrev pub locks_of : Side → Lots → List Order → Address → TokenAmounts
locks_of side sizes orders owner = on_side side (total (weighed_where (is_order_of owner) (order_lock side sizes)) orders)

-- what a pending event owes
abbrev pub owed_amounts : QueuedEvent → TokenAmounts
owed_amounts event = record { coin = owed Coin event; pc = owed Pc event }

-- what pending events owe an owner
abbrev pub owed_of : List QueuedEvent → Address → TokenAmounts
owed_of events owner = record { coin = own_owed Coin owner events; pc = own_owed Pc owner events }

-- what a market holds for an owner
abbrev pub held_amounts : Market → Address → TokenAmounts
held_amounts m owner = record { coin = held_for Coin owner m; pc = held_for Pc owner m }

-- with what orders and events that were gathered lock and owe
abbrev pub with_gathered : (Address → TokenAmounts) → Lots → PlainGathered → Address → TokenAmounts
with_gathered before sizes gathered owner =
    both (both (both (before owner) (locks_of Bid sizes gathered.bids owner)) (locks_of Ask sizes gathered.asks owner)) (owed_of gathered.events owner)
