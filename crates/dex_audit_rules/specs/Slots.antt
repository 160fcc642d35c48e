-- What an audit finds of orders, events and the slots that they stand for: the rules 1 to 6.
use Rattle.std.specs.Prelude.{◌≡◌, ◌<◌, ℕ, ◌+◌, List, [], ◌∷◌, ◌++◌, Option, Some, None, Bool, true, false, ◌&&◌, ◌==◌, not, nat_lt, take, slice_index_or, if◌then◌else◌}
use Rattle.std.specs.List.{flat_map}
use Rattle.dex_types.specs.declared.addresses.Address.{Address}
use Rattle.dex_types.specs.declared.orders.Order.{Order}
use Rattle.dex_types.specs.declared.terms.Side.{Side}
use Rattle.dex_types.specs.declared.terms.Side.TheVariants.{Bid, Ask}
use Rattle.dex_types.specs.Market.{Market}
use Rattle.dex_types.specs.QueuedEvent.{QueuedEvent}
use Rattle.dex_types.specs.Side.{by_side, sequence_of}
use Rattle.dex_types.specs.Soundness.{counts_order, event_holding, finals_of, held_at, order_holding}
use Rattle.dex_types.specs.Totals.{total}
use Rattle.dex_types.specs.Trader.{Account, Holding, Trader, Open, Traders, trader_at}
use Rattle.dex_laws.specs.Places.{is_order_at}
use Rattle.dex_totals.specs.Held.{id_held, is_held}
use Rattle.dex_totals.specs.Reading.{is_opened}
use Rattle.dex_audit_rules.specs.declared.finding.Finding.{Finding}
use Rattle.dex_audit_rules.specs.declared.taken.Taken.{Taken}
use Rattle.dex_audit_rules.specs.Lists.{numbered, unless}

-- what an open account gives; a blank or closed one gives nothing
abbrev pub of_open : {Y : Type 0} → (Account → List Y) → Trader → List Y
of_open give (Open account) = give account
of_open give _ = []

-- what each slot of each open account gives, by the account's address, the slot and what it holds
abbrev pub each_slot : {Y : Type 0} → (Address → ℕ → Option Holding → List Y) → Traders → List Y
each_slot give traders = flat_map (λ (entry : Address × Trader). of_open (λ account. numbered (give entry.0) 0 account.slots) entry.1) traders

-- ---- 1: a resting order's owner is an open account of its market

-- rule 1 for one order, at its place on the side with this account: its owner is no open account
abbrev pub homeless : Traders → Address → ℕ → Order → List Finding
homeless traders side place order =
    unless (is_opened (trader_at order.owner traders)) (record { kind = 1; account = side; place = place; found = 0; wanted = order.id })

-- the orders of nobody, by side and place in book order
abbrev pub homeless_in : Market → List Finding
homeless_in m = numbered (homeless m.traders m.listing.bids) 0 m.bids ++ numbered (homeless m.traders m.listing.asks) 0 m.asks

-- ---- 2: the owner's slot holds a resting order's id, side and client id

-- the id of the first order of a side for this place that its slot does not hold
abbrev pub unheld : Address → ℕ → Option Holding → Side → List Order → Option ℕ
unheld owner slot held side [] = None
unheld owner slot held side (order ∷ others) =
    if is_order_at owner slot order && not (is_held held (order_holding side order)) then Some order.id else unheld owner slot held side others

-- the id of the first order of a side for this slot of an account that the slot does not hold
abbrev pub unheld_in : Address → Account → Side → ℕ → List Order → Option ℕ
unheld_in owner account side slot orders = unheld owner slot (slice_index_or account.slots slot None) side orders

-- the first of two, if there is one, else the second
abbrev pub or_else : Option ℕ → Option ℕ → Option ℕ
or_else None second = second
or_else (Some first) second = Some first

-- after a side was walked, what is noted of each slot: what was noted before, or else the id of the side's first order
-- for the slot that the slot does not hold
abbrev pub AreNoted : Address → Account → Side → List Order → List (Option ℕ) → List (Option ℕ) → Type 0
AreNoted owner account side orders before after =
    (slot : ℕ) → slot < 128 → slice_index_or after slot None ≡ or_else (slice_index_or before slot None) (unheld_in owner account side slot orders)

-- the finding of rule 2 for a slot, if an order with this id was noted that it does not hold
abbrev pub unheld_finding : Address → ℕ → Option Holding → Option ℕ → List Finding
unheld_finding owner slot held None = []
unheld_finding owner slot held (Some id) = record { kind = 2; account = owner; place = slot; found = id_held held; wanted = id } ∷ []

-- of the two sides' orders, bids before asks
abbrev pub misheld : List Order → List Order → Address → ℕ → Option Holding → List Finding
misheld bids asks owner slot held = unheld_finding owner slot held (or_else (unheld owner slot held Bid bids) (unheld owner slot held Ask asks))

-- the slots that do not hold an order that rests for them, with the first such order, bids before asks
abbrev pub misheld_in : Market → List Finding
misheld_in m = each_slot (misheld m.bids m.asks) m.traders

-- ---- taken slots

-- the slot, where it is taken
abbrev pub taken_here : Address → ℕ → Option Holding → List Taken
taken_here owner slot None = []
taken_here owner slot (Some held) = record { owner = owner; slot = slot; id = held.id; side = held.side; client = held.client } ∷ []

-- the taken slots of open accounts, in the accounts' order
abbrev pub taken_in : Traders → List Taken
taken_in traders = each_slot taken_here traders

-- what a taken slot holds
abbrev pub holding : Taken → Holding
holding taken = record { id = taken.id; side = taken.side; client = taken.client }

-- the sequence number of a taken slot's order
abbrev pub number_of : Taken → ℕ
number_of taken = sequence_of taken.side taken.id

-- ---- 3: a taken slot's order rests and has no final out pending, or does not rest and has exactly one

-- how many resting orders and pending final outs are the slot's order
abbrev pub ends_of : List Order → List Order → List QueuedEvent → Taken → ℕ
ends_of bids asks events taken =
    total (counts_order taken.side (holding taken)) (by_side taken.side bids asks) + finals_of (holding taken) events

-- rule 3 for one taken slot: its order does not end exactly once
abbrev pub unpaired : List Order → List Order → List QueuedEvent → Taken → List Finding
unpaired bids asks events taken =
    unless
    (ends_of bids asks events taken == 1)
    (record { kind = 3; account = taken.owner; place = taken.slot; found = ends_of bids asks events taken; wanted = 1 })

-- rule 3 for each taken slot of a market
abbrev pub unpaired_in : Market → List Finding
unpaired_in m = flat_map (unpaired m.bids m.asks m.events) (taken_in m.traders)

-- ---- 4: a pending event's owner is an open account whose slot holds the event's id, side and client id, and no
-- earlier pending event is a final out of that order

-- the event is held, and none of these earlier ones is a final out of its order
abbrev pub is_placed : Traders → List QueuedEvent → QueuedEvent → Bool
is_placed traders earlier event = is_held (held_at event.owner event.slot traders) (event_holding event) && (finals_of (event_holding event) earlier == 0)

-- rule 4 for one event after these earlier ones: its slot does not hold its order, or one of them is a final out of it
abbrev pub astray_behind : Traders → List QueuedEvent → Address → ℕ → QueuedEvent → List Finding
astray_behind traders earlier queue number event =
    unless
    (is_placed traders earlier event)
    (record { kind = 4; account = queue; place = number; found = id_held (held_at event.owner event.slot traders); wanted = event.id })

-- rule 4 for the event of this number among the pending ones
abbrev pub astray : Traders → List QueuedEvent → Address → ℕ → QueuedEvent → List Finding
astray traders events queue number event = astray_behind traders (take number events) queue number event

-- rule 4 for each pending event of a market
abbrev pub astray_in : Market → List Finding
astray_in m = numbered (astray m.traders m.events m.listing.event_queue) 0 m.events

-- ---- 5: the sequence number of a taken slot's order is below the next one

-- rule 5 for one taken slot: the sequence number of its order is not below the next one
abbrev pub ungiven : ℕ → Taken → List Finding
ungiven next taken =
    unless (nat_lt (number_of taken) next) (record { kind = 5; account = taken.owner; place = taken.slot; found = number_of taken; wanted = next })

-- rule 5 for each taken slot of a market
abbrev pub ungiven_in : Market → List Finding
ungiven_in m = flat_map (ungiven m.next_sequence) (taken_in m.traders)

-- ---- 6: no two taken slots of a market have one sequence number

-- one of these slots' orders has the sequence number
abbrev pub is_number_of : ℕ → List Taken → Bool
is_number_of number [] = false
is_number_of number (taken ∷ others) = if number_of taken == number then true else is_number_of number others

-- a slot with the number of an earlier one
abbrev pub repeated : List Taken → ℕ → Taken → List Finding
repeated all at taken =
    unless (not (is_number_of (number_of taken) (take at all))) (record { kind = 6; account = taken.owner; place = taken.slot; found = 2; wanted = 1 })

-- rule 6 for each taken slot of a market: it has the sequence number of an earlier one
abbrev pub repeated_in : Market → List Finding
repeated_in m = numbered (repeated (taken_in m.traders)) 0 (taken_in m.traders)
