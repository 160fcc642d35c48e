-- worked examples of markets that are not sound, each by a rule that it breaks
use Rattle.std.proofs.Common.{◌≡◌, ◌≤◌, ◌<◌, ◌^◌, ◌++◌, ℕ, List, [], ◌∷◌, Option, Some, None, refl, sym, ap, arith, replicate, lit<}
use Rattle.std.proofs.lemmas.List.Elements.{All-head}
use Rattle.dex_types.specs.declared.orders.Order.{Order}
use Rattle.dex_types.specs.declared.terms.Side.TheVariants.{Bid, Ask}
use Rattle.dex_types.specs.Fees.{taker_rate, maker_rate}
use Rattle.dex_types.specs.Market.{Market}
use Rattle.dex_types.specs.Meeting.{taken, demand_after}
use Rattle.dex_types.specs.QueuedEvent.{EventKind, MakerFill, TakerFill, PlainOut, ReleasingOut, QueuedEvent}
use Rattle.dex_types.specs.Side.{Coin, Pc, by_side, price_of, sequence_of, id_of}
use Rattle.dex_types.specs.Soundness.{IsSound, IsProper, order_holding, held_at}
use Rattle.dex_types.specs.Trader.{Account, Traders, Open, Blank, Holding, no_slots}
use Rattle.dex_sound.proofs.ExampleMarket.{amy, ann, usd, listing, base, bought}

-- a number is not a greater one, and not below a lesser one
apart : (less more : ℕ) → less < more → less ≡ more → ⊥
apart less more h e = absurd (omega (arith, h, e))

not_below : (less more : ℕ) → less < more → more ≤ less → ⊥
not_below less more h e = absurd (omega (arith, h, e))

-- form: two mints, lots, room, and orders and events within it
one_mint : IsSound (record base { listing = record (listing 100 455 2978) { coin_mint = usd } }) → ⊥
one_mint s = absurd (let e = s.form.mints in cc)

no_base_lot : IsSound (record base { listing = record (listing 100 455 2978) { sizes = record { coin = 0; pc = 10 } } }) → ⊥
no_base_lot s = not_below 0 1 (lit< tt) s.form.coin_lot

no_quote_lot : IsSound (record base { listing = record (listing 100 455 2978) { sizes = record { coin = 100; pc = 0 } } }) → ⊥
no_quote_lot s = not_below 0 1 (lit< tt) s.form.pc_lot

no_room : IsSound (record base { listing = listing 100 0 2978 }) → ⊥
no_room s = not_below 0 1 (lit< tt) (s.form.room Bid)

-- an order of amy's with these numbers
abbrev order : ℕ → ℕ → ℕ → Order
order id lots tier = record { id = id; owner = amy; slot = 0; tier = tier; lots = lots; client = 7 }

abbrev with_bids : List Order → Market
with_bids bids = record base { bids = bids }

out_of_order : IsSound (with_bids (order (id_of Bid 40 0) 1 0 ∷ order (id_of Bid 41 1) 1 0 ∷ [])) → ⊥
unfolding price_of sequence_of id_of
out_of_order s = absurd (let e = (s.form.in_order Bid).0.0 in cc)

newer_first : IsSound (with_bids (order (id_of Bid 40 1) 1 0 ∷ order (id_of Bid 40 0) 1 0 ∷ [])) → ⊥
unfolding price_of sequence_of id_of
newer_first s = absurd (let e = (s.form.in_order Bid).0.0 in cc)

abbrev only : (id lots tier : ℕ) → IsSound (with_bids (order id lots tier ∷ [])) → IsProper Bid (record { coin = 100; pc = 10 }) (order id lots tier)
only id lots tier s = All-head (IsProper Bid (record { coin = 100; pc = 10 })) (order id lots tier) [] (s.form.proper Bid)

no_price : IsSound (with_bids (order 7 1 0 ∷ [])) → ⊥
unfolding price_of sequence_of id_of
no_price s = not_below 0 1 (lit< tt) (only 7 1 0 s).price

no_lots : IsSound (with_bids (order (id_of Bid 40 0) 0 0 ∷ [])) → ⊥
unfolding price_of sequence_of id_of
no_lots s = not_below 0 1 (lit< tt) (only (id_of Bid 40 0) 0 0 s).lots

no_tier : IsSound (with_bids (order (id_of Bid 40 0) 1 7 ∷ [])) → ⊥
unfolding price_of sequence_of id_of
no_tier s = not_below 6 7 (lit< tt) (let h = (only (id_of Bid 40 0) 1 7 s).tier in omega (arith, h))

no_lock_of_2_64 : IsSound (with_bids (order (id_of Bid 1 0) 1844674407370955162 0 ∷ [])) → ⊥
unfolding price_of sequence_of id_of
no_lock_of_2_64 s = not_below 18446744073709551616 18446744073709551621 (lit< tt) (only (id_of Bid 1 0) 1844674407370955162 0 s).lock

too_many_orders : IsSound (record (with_bids (order (id_of Bid 41 0) 1 0 ∷ order (id_of Bid 40 1) 1 0 ∷ [])) { listing = listing 100 1 2978 }) → ⊥
unfolding price_of sequence_of id_of
too_many_orders s = not_below 1 2 (lit< tt) (s.form.within Bid)

too_many_events : IsSound (record bought.market { listing = listing 100 455 2 }) → ⊥
unfolding taken demand_after price_of sequence_of id_of taker_rate maker_rate
too_many_events s = not_below 2 3 (lit< tt) s.form.events_within

-- an event of amy's
abbrev event : EventKind → ℕ → ℕ → ℕ → ℕ → ℕ → QueuedEvent
event kind tier released paid id client = record { kind = kind; slot = 0; tier = tier; released = released; paid = paid; fee_or_rebate = 0; id = id; owner = amy; client = client }

abbrev with_events : List QueuedEvent → Market
with_events events = record base { events = events }

no_event_tier : IsSound (with_events (event (PlainOut Ask) 7 0 0 5 7 ∷ [])) → ⊥
no_event_tier s = not_below 7 8 (lit< tt) (All-head (λ (e : QueuedEvent). e.tier < 7) (event (PlainOut Ask) 7 0 0 5 7) [] s.form.tiers)

too_late_a_sequence : IsSound (record base { next_sequence = 2 ^ 64 }) → ⊥
too_late_a_sequence s = not_below 18446744073709551616 18446744073709551617 (lit< tt) s.form.sequence

too_many_counted : IsSound (record base { events_appended = 2 ^ 64 }) → ⊥
too_many_counted s = not_below 18446744073709551616 18446744073709551617 (lit< tt) s.form.counted

-- accounts: each address once, and 128 slots
abbrev account : List (Option Holding) → ℕ → ℕ → Account
account slots free total = record {
  person = ann;
  coin = record { free = free; total = total };
  pc = record { free = 0; total = 0 };
  referrer = 0;
  slots = slots;
}

one_address : IsSound (record base { traders = (amy, Blank) ∷ (amy, Blank) ∷ [] }) → ⊥
one_address s = absurd (let e = s.form.distinct.0 in cc)

abbrev of_amy : Account → Market
of_amy account = record base { traders = (amy, Open account) ∷ [] }

too_few_slots : IsSound (of_amy (account (replicate 127 None) 0 0)) → ⊥
too_few_slots s = apart 127 128 (lit< tt) (s.form.slots amy (account (replicate 127 None) 0 0) refl)

-- slots: what resting orders and pending events ask of them
abbrev bid_of_7 : Holding
bid_of_7 = record { id = id_of Bid 40 0; side = Bid; client = 7 }

-- the slots of amy, with these in the first ones
abbrev slots_with : List (Option Holding) → Traders
slots_with first = (amy, Open (account (first ++ replicate 126 None) 0 0)) ∷ []

-- amy's slots, one bid of hers that rests or none, and these events
abbrev holds : List (Option Holding) → List Order → List QueuedEvent → Market
holds first bids events = record base { traders = slots_with first; bids = bids; events = events; next_sequence = 1 }

abbrev one_bid : List Order
one_bid = order (id_of Bid 40 0) 1 0 ∷ []

abbrev in_slot : (first : List (Option Holding)) → IsSound (holds first one_bid []) → held_at amy 0 (slots_with first) ≡ Some bid_of_7
unfolding price_of sequence_of id_of
in_slot first s = All-head (λ (o : Order). held_at o.owner o.slot (slots_with first) ≡ Some (order_holding Bid o)) (order (id_of Bid 40 0) 1 0) [] (s.slots.resting Bid)

-- what a slot holds: its client id, whether it is an ask, and its id
abbrev client_in : Option Holding → ℕ
client_in None = 0
client_in (Some held) = held.client

abbrev side_in : Option Holding → ℕ
side_in None = 0
side_in (Some held) = by_side held.side 0 1

abbrev id_in : Option Holding → ℕ
id_in None = 0
id_in (Some held) = held.id

free_slot_of_an_order : IsSound (holds (None ∷ None ∷ []) one_bid []) → ⊥
free_slot_of_an_order s = absurd (let e = in_slot (None ∷ None ∷ []) s in cc)

other_client : IsSound (holds (Some (record bid_of_7 { client = 8 }) ∷ None ∷ []) one_bid []) → ⊥
other_client s = apart 7 8 (lit< tt) (ap client_in (sym (in_slot (Some (record bid_of_7 { client = 8 }) ∷ None ∷ []) s)))

other_side : IsSound (holds (Some (record bid_of_7 { side = Ask }) ∷ None ∷ []) one_bid []) → ⊥
other_side s = apart 0 1 (lit< tt) (ap side_in (sym (in_slot (Some (record bid_of_7 { side = Ask }) ∷ None ∷ []) s)))

other_id : IsSound (holds (Some (record bid_of_7 { id = id_of Bid 41 0 }) ∷ None ∷ []) one_bid []) → ⊥
unfolding price_of sequence_of id_of
other_id s = apart (id_of Bid 40 0) (id_of Bid 41 0) (lit< tt) (ap id_in (sym (in_slot (Some (record bid_of_7 { id = id_of Bid 41 0 }) ∷ None ∷ []) s)))

-- a held order that neither rests nor ends, that does both, or that ends twice
abbrev just : List (Option Holding)
just = Some bid_of_7 ∷ None ∷ []

abbrev ends : QueuedEvent
ends = event (PlainOut Bid) 0 0 0 (id_of Bid 40 0) 7

abbrev releases : ℕ → QueuedEvent
releases paid = event (ReleasingOut Bid) 0 400 paid (id_of Bid 40 0) 7

lost_order : IsSound (holds just [] []) → ⊥
unfolding price_of sequence_of id_of
lost_order s = apart 0 1 (lit< tt) (s.slots.taken amy 0 bid_of_7 refl)

order_partly_out : IsSound (holds just [] (releases 100 ∷ [])) → ⊥
unfolding price_of sequence_of id_of
order_partly_out s = apart 0 1 (lit< tt) (s.slots.taken amy 0 bid_of_7 refl)

order_that_filled : IsSound (holds just [] (event (MakerFill Bid) 0 100 0 (id_of Bid 40 0) 7 ∷ [])) → ⊥
unfolding price_of sequence_of id_of
order_that_filled s = apart 0 1 (lit< tt) (s.slots.taken amy 0 bid_of_7 refl)

rests_and_ends : IsSound (holds just one_bid (ends ∷ [])) → ⊥
unfolding price_of sequence_of id_of
rests_and_ends s = apart 1 2 (lit< tt) (sym (s.slots.taken amy 0 bid_of_7 refl))

ends_twice : IsSound (holds just [] (ends ∷ releases 0 ∷ [])) → ⊥
unfolding price_of sequence_of id_of
ends_twice s = apart 1 2 (lit< tt) (sym (s.slots.taken amy 0 bid_of_7 refl))

-- an event of a free slot, of another order of its slot, and one after its order's end
event_of_a_free_slot : IsSound (holds (None ∷ None ∷ []) [] (ends ∷ [])) → ⊥
event_of_a_free_slot s = absurd (let e = s.slots.pending.0 in cc)

event_of_another_client : IsSound (holds just one_bid (event (TakerFill Bid) 0 0 0 (id_of Bid 40 0) 8 ∷ [])) → ⊥
event_of_another_client s = apart 7 8 (lit< tt) (ap client_in s.slots.pending.0)

event_behind_the_end : IsSound (holds just [] (ends ∷ event (TakerFill Bid) 0 0 0 (id_of Bid 40 0) 7 ∷ [])) → ⊥
unfolding price_of sequence_of id_of
event_behind_the_end s = absurd (let e = (s.slots.pending.1 refl).0 in cc)

-- a sequence number that was not given out, and one given out twice
not_given : IsSound (record (holds just one_bid []) { next_sequence = 0 }) → ⊥
unfolding price_of sequence_of id_of
not_given s = not_below 0 1 (lit< tt) (s.slots.given amy 0 bid_of_7 refl)

given_twice : IsSound (holds (Some bid_of_7 ∷ Some (record { id = id_of Ask 50 0; side = Ask; client = 7 }) ∷ []) one_bid []) → ⊥
unfolding price_of sequence_of id_of
given_twice s = apart 0 1 (lit< tt) (s.slots.once amy amy 0 1 bid_of_7 (record { id = id_of Ask 50 0; side = Ask; client = 7 }) refl refl refl).1

-- funds: vaults and rebates that hold more than is owed, a total that is more, and a bound that is passed
more_base : IsSound (record base { coin_vault = 1 }) → ⊥
more_base s = apart 0 1 (lit< tt) (sym (s.funds.solvent.vaults Coin))

more_quote : IsSound (record base { pc_vault = 1 }) → ⊥
more_quote s = apart 0 1 (lit< tt) (sym (s.funds.solvent.vaults Pc))

less_quote : IsSound (record base { pc_fees = 1 }) → ⊥
less_quote s = apart 0 1 (lit< tt) (s.funds.solvent.vaults Pc)

more_rebates : IsSound (record base { pc_vault = 1; referrer_rebates = 1 }) → ⊥
more_rebates s = apart 0 1 (lit< tt) (sym s.funds.solvent.referrers)

more_in_total : IsSound (of_amy (account no_slots 0 1)) → ⊥
more_in_total s = apart 0 1 (lit< tt) (sym (s.funds.adds_up amy (account no_slots 0 1) refl Coin))

more_free : IsSound (of_amy (account no_slots 1 0)) → ⊥
more_free s = apart 0 1 (lit< tt) (s.funds.adds_up amy (account no_slots 1 0) refl Coin)

past_the_bound : IsSound (record base { coin_vault = 2 ^ 64 }) → ⊥
past_the_bound s = not_below 18446744073709551616 18446744073709551617 (lit< tt) (s.funds.bounded Coin)

past_the_bound_with_fills : IsSound (record (with_events (event (MakerFill Bid) 0 0 1 5 7 ∷ [])) { pc_vault = 18446744073709551615 }) → ⊥
past_the_bound_with_fills s = not_below 18446744073709551616 18446744073709551617 (lit< tt) (s.funds.bounded Pc)
