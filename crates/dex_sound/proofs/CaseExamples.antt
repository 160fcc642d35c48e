-- worked examples of cases in which one word decides: ages of bids, tiers and programs of budgets, limits of takes,
-- freed slots, counts that turn over, and wallets with several roles
use Rattle.std.proofs.Common.{◌≡◌, ◌^◌, ◌-◌, ℕ, List, [], ◌∷◌, Option, Some, None, refl, replicate, codes, map}
use Rattle.dex_types.specs.declared.addresses.Address.{Address}
use Rattle.dex_types.specs.declared.instructions.Ix.TheVariants.{CancelOrderV2, CancelOrderByClientIdV2, SendTake}
use Rattle.dex_types.specs.declared.refusals.Refusal.TheVariants as refusal
use Rattle.dex_types.specs.declared.replies.Reply.{Reply}
use Rattle.dex_types.specs.declared.replies.Reply.TheVariants.{Ordered, Took, Refused}
use Rattle.dex_types.specs.declared.rows.Seen.{Seen}
use Rattle.dex_types.specs.declared.terms.OrderType.TheVariants.{Limit, Ioc}
use Rattle.dex_types.specs.declared.terms.Program.{Program}
use Rattle.dex_types.specs.declared.terms.Program.TheVariants.{Serum, OpenBook}
use Rattle.dex_types.specs.declared.terms.SelfTrade.TheVariants.{Decrement}
use Rattle.dex_types.specs.declared.terms.Side.{Side}
use Rattle.dex_types.specs.declared.terms.Side.TheVariants.{Bid, Ask}
use Rattle.dex_types.specs.Cancel.{RestingOrder, taken_by_all, all_orders_of}
use Rattle.dex_types.specs.Fees.{taker_rate, maker_rate}
use Rattle.dex_types.specs.Market.{Market}
use Rattle.dex_types.specs.Meeting.{taken, demand_after}
use Rattle.dex_types.specs.QueuedEvent.{QueuedEvent, encoded_event, decoded_event}
use Rattle.dex_types.specs.Side.{price_of, sequence_of, id_of}
use Rattle.dex_types.specs.Steps.{Step, step}
use Rattle.dex_types.specs.Trader.{Holding, trader_at}
use Rattle.dex_types.specs.Wallets.{movements}
use Rattle.dex_sound.proofs.ExampleMarket.{label, amy, ben, ann, bob, coin, listing, row, new, wallet, ann_coin, ann_usd, bob_coin, bob_usd, sees, nothing, debit, probe, events, resting, open_on, base, after, answer, ask_sees, asked, buy_row, buy_sees, bought, consume, slots_in}

-- amy bids and asks one lot, each time with one client id
abbrev ann_bids : ℕ → Market → Market
ann_bids price m = after (row (new Bid price 1 1000 Decrement Limit 7 10) ann (amy ∷ [])) (sees None (ann_usd 5000)) m

abbrev ann_asks : ℕ → Market → Market
ann_asks price m = after (row (new Ask price 1 1 Decrement Limit 7 10) ann (amy ∷ [])) (ask_sees 1000) m

-- of a client id the oldest order is cancelled, on whichever side and at whatever price it stands
abbrev cancels_7 : Market → Step
cancels_7 m = step (row (CancelOrderByClientIdV2 7) ann (amy ∷ [])) nothing m

oldest_bid : (resting (cancels_7 (ann_bids 40 (ann_bids 30 base))).market.bids ≡ (id_of Bid 40 1 ∷ 1 ∷ []) ∷ [])
    × (resting (cancels_7 (ann_bids 30 (ann_bids 40 base))).market.bids ≡ (id_of Bid 30 1 ∷ 1 ∷ []) ∷ [])
    × (resting (cancels_7 (ann_bids 40 (ann_asks 50 base))).market.asks ≡ [])
    × (resting (cancels_7 (ann_bids 40 (ann_asks 50 base))).market.bids ≡ (id_of Bid 40 1 ∷ 1 ∷ []) ∷ [])
    × (resting (cancels_7 (ann_asks 50 (ann_bids 40 base))).market.bids ≡ [])
    × (resting (cancels_7 (ann_asks 50 (ann_bids 40 base))).market.asks ≡ (id_of Ask 50 1 ∷ 1 ∷ []) ∷ [])
unfolding taken demand_after price_of sequence_of id_of taker_rate maker_rate
oldest_bid = (refl, refl, refl, refl, refl, refl)

-- a bid and an ask of amy's that have one id, since their sequence numbers stand around 2^63
abbrev twins : ℕ → ℕ → Market
twins bid ask = record base {
  bids = record { id = id_of Bid 40 bid; owner = amy; slot = 0; tier = 0; lots = 1; client = 7 } ∷ [];
  asks = record { id = id_of Ask 40 ask; owner = amy; slot = 1; tier = 0; lots = 1; client = 7 } ∷ [];
}

abbrev older_bid : Market
older_bid = twins (2 ^ 63 - 1) (2 ^ 63)

abbrev older_ask : Market
older_ask = twins (2 ^ 63) (2 ^ 63 - 1)

abbrev sides_taken : Market → List Side
sides_taken m = map (λ (r : RestingOrder). r.side) (taken_by_all (7 ∷ 7 ∷ []) (all_orders_of amy m.bids m.asks))

abbrev cancelled_ask : Market → Market
cancelled_ask m = after (row (CancelOrderV2 Ask (id_of Ask 40 (2 ^ 63))) ann (amy ∷ [])) nothing m

-- both are taken by a list that names their client id twice, the older one first; by id the named side's is
one_id_on_both_sides : (id_of Bid 40 (2 ^ 63 - 1) ≡ id_of Ask 40 (2 ^ 63)) × (sides_taken older_bid ≡ Bid ∷ Ask ∷ []) × (sides_taken older_ask ≡ Ask ∷ Bid ∷ [])
    × (resting (cancelled_ask older_bid).asks ≡ []) × (resting (cancelled_ask older_bid).bids ≡ (id_of Ask 40 (2 ^ 63) ∷ 1 ∷ []) ∷ [])
unfolding taken demand_after price_of sequence_of id_of taker_rate maker_rate
one_id_on_both_sides = (refl, refl, refl, refl, refl)

-- with a discount, or under the second program, a bid that locks so much has quote for one lot more
abbrev program_sees : Program → ℕ → Seen
program_sees program msrm = record (sees (bob_coin 0) (bob_usd 5000)) {
  discount = wallet (codes "bob_msrm") (label (codes "msrm")) bob msrm;
  msrm = Some (label (codes "msrm"));
  program = program;
}

abbrev buys_for : Program → ℕ → ℕ → Reply
buys_for program msrm max_pc = answer (row (new Bid 60 3 max_pc Decrement Ioc 8 10) bob (ben ∷ [])) (program_sees program msrm) asked.market

abbrev takes_for : Program → ℕ → ℕ → Reply
takes_for program msrm max_pc = answer (row (SendTake Bid 60 3 max_pc 0 0 10) bob []) (program_sees program msrm) asked.market

budgets : (buys_for Serum 1 1502 ≡ Ordered 0 (id_of Bid 60 1) 3 1500 2 0) × (buys_for Serum 0 1502 ≡ Ordered 0 (id_of Bid 60 1) 2 1000 3 0)
    × (buys_for Serum 1 1501 ≡ Ordered 0 (id_of Bid 60 1) 2 1000 1 0) × (buys_for OpenBook 0 1501 ≡ Ordered 0 (id_of Bid 60 1) 3 1500 1 0)
    × (takes_for Serum 1 1502 ≡ Took 3 1500 2) × (takes_for Serum 0 1502 ≡ Took 2 1000 3)
    × (takes_for Serum 1 1501 ≡ Took 2 1000 1) × (takes_for OpenBook 0 1501 ≡ Took 3 1500 1)
unfolding taken demand_after price_of sequence_of id_of taker_rate maker_rate
budgets = (refl, refl, refl, refl, refl, refl, refl, refl)

-- a take of two asks, by its limit price, its lots and its match limit; it uses no sequence number, and counts its
-- makers' events
abbrev two_asks : Market
two_asks = ann_asks 50 (ann_asks 51 base)

abbrev take : ℕ → ℕ → ℕ → Step
take price lots limit = step (row (SendTake Bid price lots 5000 0 0 limit) bob []) (sees (bob_coin 0) (bob_usd 5000)) two_asks

takes : ((take 49 2 10).reply ≡ Took 0 0 0) × ((take 50 2 10).reply ≡ Took 1 500 2) × ((take 51 2 10).reply ≡ Took 2 1010 3)
    × ((take 51 1 10).reply ≡ Took 1 500 2) × ((take 51 2 1).reply ≡ Took 1 500 2) × ((take 51 2 0).reply ≡ Took 0 0 0)
    × ((take 51 2 10).market.next_sequence ≡ 2) × ((take 51 2 10).market.events_appended ≡ 4)
    × (resting (take 51 2 10).market.asks ≡ []) × (resting (take 50 2 10).market.asks ≡ (id_of Ask 51 0 ∷ 1 ∷ []) ∷ [])
unfolding taken demand_after price_of sequence_of id_of taker_rate maker_rate
takes = (refl, refl, refl, refl, refl, refl, refl, refl, refl, refl)

-- ann's take meets an order of her own account like any other
takes_own : answer (row (SendTake Bid 51 2 5000 0 0 10) ann []) (sees (ann_coin 0) (ann_usd 5000)) two_asks ≡ Took 2 1010 3
unfolding taken demand_after price_of sequence_of id_of taker_rate maker_rate
takes_own = refl

-- what was filled too little: lots before quote; a buyer's quote is told with the fee, and a seller's less the fee
abbrev too_little : Side → ℕ → ℕ → ℕ → Reply
too_little side price min_lots min_pc = answer (row (SendTake side price 3 5000 min_lots min_pc 10) bob []) (sees (bob_coin 500) (bob_usd 5000)) (ann_asks 35 (ann_bids 30 base))

least_fills : (too_little Bid 40 2 1000 ≡ Refused (refusal.BelowMinimum 1)) × (too_little Bid 40 1 352 ≡ Refused (refusal.BelowMinimum 351)) × (too_little Bid 40 1 351 ≡ Took 1 350 1)
    × (too_little Ask 20 2 1000 ≡ Refused (refusal.BelowMinimum 1)) × (too_little Ask 20 1 300 ≡ Refused (refusal.BelowMinimum 299)) × (too_little Ask 20 1 299 ≡ Took 1 300 1)
unfolding taken demand_after price_of sequence_of id_of taker_rate maker_rate
least_fills = (refl, refl, refl, refl, refl, refl)

-- a slot is used again once its out was consumed, and the lowest one first
abbrev freed : Market
freed = (consume 3 (amy ∷ ben ∷ []) (after (row (new Bid 45 1 1000 Decrement Limit 9 10) bob (ben ∷ [])) (sees None (bob_usd 5000)) bought.market)).market

abbrev slots_of : Address → Market → List (Option Holding)
slots_of owner m = slots_in (trader_at owner m.traders)

slots_again : (slots_of ben freed ≡ None ∷ Some (record { id = id_of Bid 45 2; side = Bid; client = 9 }) ∷ replicate 126 None)
    × (answer (row (new Bid 44 1 1000 Decrement Limit 9 10) bob (ben ∷ [])) (sees None (bob_usd 5000)) freed ≡ Ordered 0 (id_of Bid 44 3) 0 0 0 1)
unfolding taken demand_after price_of sequence_of id_of taker_rate maker_rate
slots_again = (refl, refl)

-- on a side of one order a second one boots the first, at a better price and at a worse one
abbrev one_place : ℕ → Market
one_place price = after (row (new Bid price 1 1000 Decrement Limit 8 10) bob (ben ∷ [])) (sees None (bob_usd 5000)) (ann_bids 40 (open_on (listing 100 1 2978)))

boots_the_only_one : (resting (one_place 50).bids ≡ (id_of Bid 50 1 ∷ 1 ∷ []) ∷ []) × (resting (one_place 30).bids ≡ (id_of Bid 30 1 ∷ 1 ∷ []) ∷ [])
    × (events (one_place 50) ≡ (22 ∷ 400 ∷ 0 ∷ 0 ∷ []) ∷ []) × (map (λ (e : QueuedEvent). e.owner) (one_place 30).events ≡ amy ∷ [])
unfolding taken demand_after price_of sequence_of id_of taker_rate maker_rate
boots_the_only_one = (refl, refl, refl, refl)

-- what was appended is counted modulo 2^64, by orders, takes and cancels alike
abbrev last_count : Market
last_count = record asked.market { events_appended = 2 ^ 64 - 1 }

counts_turn_over : ((after buy_row buy_sees last_count).events_appended ≡ 2)
    × ((after (row (SendTake Bid 60 3 2000 0 0 10) bob []) (sees (bob_coin 0) (bob_usd 5000)) last_count).events_appended ≡ 0)
    × ((after (row (CancelOrderByClientIdV2 7) ann (amy ∷ [])) nothing last_count).events_appended ≡ 0)
    × ((consume 3 (amy ∷ ben ∷ []) (after buy_row buy_sees last_count)).market.events_appended ≡ 2)
unfolding taken demand_after price_of sequence_of id_of taker_rate maker_rate
counts_turn_over = (refl, refl, refl, refl)

-- a wallet that only gives a discount is probed; one that pays and gives it is debited once, and so is one that a take
-- pays from
abbrev shared : Seen
shared = record (ask_sees 1000) { discount = ann_coin 1000; srm = Some coin; referrer = ann_usd 7 }

wallets_of_roles : (movements (program_sees Serum 1) (step buy_row (program_sees Serum 1) asked.market).transfers
    ≡ probe (codes "bob_coin") 0 ∷ probe (codes "bob_msrm") 1 ∷ debit (codes "bob_usd") 2000 5000 ∷ [])
    × (movements shared (step (row (new Ask 50 4 1 Decrement Limit 7 10) ann (amy ∷ [])) shared base).transfers
    ≡ debit (codes "ann_coin") 400 1000 ∷ probe (codes "ann_usd") 7 ∷ [])
unfolding taken demand_after price_of sequence_of id_of taker_rate maker_rate
wallets_of_roles = (refl, refl)

-- what the queue holds of an event tells the event
events_are_told : map (λ (e : QueuedEvent). decoded_event (encoded_event e)) bought.market.events ≡ bought.market.events
unfolding taken demand_after price_of sequence_of id_of taker_rate maker_rate
events_are_told = refl
