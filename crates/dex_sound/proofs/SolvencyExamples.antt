-- worked examples of what a market owes, while all kinds of events wait
use Rattle.std.proofs.Common.{drop, true, ◌+◌, ◌≡◌, ℕ, List, [], ◌∷◌, Option, Some, None, false, refl, map, replicate, codes}
use Rattle.dex_types.specs.declared.addresses.Address.{Address}
use Rattle.dex_types.specs.declared.instructions.Ix.TheVariants.{CancelOrderV2, SendTake}
use Rattle.dex_types.specs.declared.orders.Order.{Order}
use Rattle.dex_types.specs.declared.refusals.Refusal.TheVariants as refusal
use Rattle.dex_types.specs.declared.replies.Reply.TheVariants.{Took, Consumed, Settled, Refused}
use Rattle.dex_types.specs.declared.rows.Seen.{Seen}
use Rattle.dex_types.specs.declared.rows.WalletSeen.{WalletSeen}
use Rattle.dex_types.specs.declared.terms.OrderType.TheVariants.{Limit, Ioc}
use Rattle.dex_types.specs.declared.terms.SelfTrade.TheVariants.{Decrement}
use Rattle.dex_types.specs.declared.terms.Side.TheVariants.{Bid, Ask}
use Rattle.dex_types.specs.Fees.{taker_rate, maker_rate}
use Rattle.dex_types.specs.Market.{Market}
use Rattle.dex_types.specs.Meeting.{taken, demand_after}
use Rattle.dex_types.specs.Side.{Coin, Pc, price_of, sequence_of, id_of}
use Rattle.dex_types.specs.Trader.{Holding, trader_at}
use Rattle.dex_types.specs.Wallets.{movements}
use Rattle.dex_types.specs.Steps.{Step, step}
use Rattle.dex_types.specs.Owed.{referred}
use Rattle.dex_types.specs.Solvency.{vault, all_free, all_locked, all_owed, earned, all_leaving, all_referrers, own_locked, own_kept}
use Rattle.dex_types.specs.Soundness.{held_at, event_holding, order_holding, is_final, resting_of, finals_of}
use Rattle.dex_types.specs.Totals.{total}
use Rattle.dex_sound.proofs.ExampleMarket.{label, amy, ben, ann, bob, row, new, wallet, ann_usd, bob_coin, bob_usd, sees, nothing, debit, credit, funds, events, resting, held, base, after, consume, slots_in, settle}

-- amy bids 20 lots at 100 with the highest discount, ben asks 15 of them
abbrev msrm_sees : Seen
msrm_sees = record (sees None (ann_usd 50000)) { discount = wallet (codes "ann_msrm") (label (codes "msrm")) ann 1; msrm = Some (label (codes "msrm")) }

abbrev bid_filled : Market
bid_filled = after (row (new Ask 90 15 1 Decrement Ioc 2 10) bob (ben ∷ [])) (sees (bob_coin 50000) None)
    (after (row (new Bid 100 20 30000 Decrement Limit 1 10) ann (amy ∷ [])) msrm_sees base)

-- ben asks 50 lots at 110, and amy buys 20 of them
abbrev ask_filled : Market
ask_filled = after (row (new Bid 110 20 30000 Decrement Ioc 4 10) ann (amy ∷ [])) (sees None (ann_usd 50000))
    (after (row (new Ask 110 50 1 Decrement Limit 3 10) bob (ben ∷ [])) (sees (bob_coin 50000) None) bid_filled)

-- ben's bid takes four lots of his own ask, and another one rests
abbrev both_rest : Market
both_rest = after (row (new Bid 80 3 2400 Decrement Limit 6 10) bob (ben ∷ [])) (sees None (bob_usd 50000))
    (after (row (new Bid 110 4 5000 Decrement Limit 5 10) bob (ben ∷ [])) (sees None (bob_usd 50000)) ask_filled)

-- amy cancels what is left of her bid
abbrev busy : Market
busy = after (row (CancelOrderV2 Bid 1863121151444664713215) ann (amy ∷ [])) nothing both_rest

-- all eight kinds of events wait
busy_events : events busy ≡ (13 ∷ 1500 ∷ 14993 ∷ 7 ∷ []) ∷ (1 ∷ 14967 ∷ 1500 ∷ 33 ∷ []) ∷ (2 ∷ 0 ∷ 0 ∷ 0 ∷ []) ∷ (9 ∷ 22006 ∷ 2000 ∷ 6 ∷ [])
    ∷ (5 ∷ 2000 ∷ 22049 ∷ 49 ∷ []) ∷ (6 ∷ 0 ∷ 0 ∷ 0 ∷ []) ∷ (18 ∷ 400 ∷ 2600 ∷ 0 ∷ []) ∷ (6 ∷ 0 ∷ 0 ∷ 0 ∷ []) ∷ (22 ∷ 5000 ∷ 0 ∷ 0 ∷ []) ∷ []
unfolding taken demand_after price_of sequence_of id_of taker_rate maker_rate
busy_events = refl

busy_counts : (busy.events_appended ≡ 9) × (busy.next_sequence ≡ 6) × (resting busy.bids ≡ (id_of Bid 80 5 ∷ 3 ∷ []) ∷ []) × (resting busy.asks ≡ (id_of Ask 110 2 ∷ 26 ∷ []) ∷ [])
unfolding taken demand_after price_of sequence_of id_of taker_rate maker_rate
busy_counts = (refl, refl, refl, refl)

-- the vaults hold what is free, locked, owed and earned
busy_coin : (vault Coin busy ≡ 6500) × (all_free Coin busy.traders ≡ 2000) × (all_locked Coin busy ≡ 2600) × (all_owed Coin busy.events ≡ 1900) × (earned Coin busy ≡ 0)
    × (all_leaving Coin busy.events ≡ 2000)
unfolding taken demand_after price_of sequence_of id_of taker_rate maker_rate
busy_coin = (refl, refl, refl, refl, refl, refl)

busy_pc : (vault Pc busy ≡ 50000) × (all_free Pc busy.traders ≡ 20518) × (all_locked Pc busy ≡ 2400) × (all_owed Pc busy.events ≡ 27013) × (earned Pc busy ≡ 69)
    × (all_leaving Pc busy.events ≡ 14993)
unfolding taken demand_after price_of sequence_of id_of taker_rate maker_rate
busy_pc = (refl, refl, refl, refl, refl, refl)

-- what the vaults hold, what has to be there, the referrer rebates and their parts
abbrev covered : Market → List ℕ
covered m =
    vault Coin m ∷ (all_free Coin m.traders + all_locked Coin m + all_owed Coin m.events + earned Coin m)
    ∷ vault Pc m ∷ (all_free Pc m.traders + all_locked Pc m + all_owed Pc m.events + earned Pc m)
    ∷ m.referrer_rebates ∷ (all_referrers m.traders + total referred m.events) ∷ []

busy_covers : (covered busy ≡ 6500 ∷ 6500 ∷ 50000 ∷ 50000 ∷ 15 ∷ 15 ∷ []) × (total referred busy.events ≡ 15)
unfolding taken demand_after price_of sequence_of id_of taker_rate maker_rate
busy_covers = (refl, refl)

-- each account's total is what is free, locked by its orders and kept by its events
busy_totals : (funds amy busy ≡ 2000 ∷ 2000 ∷ 7951 ∷ 27951 ∷ 0 ∷ []) × (own_locked Pc amy busy ≡ 0) × (own_kept Pc amy busy.events ≡ 20000) × (own_kept Coin amy busy.events ≡ 0)
    × (funds ben busy ≡ 0 ∷ 5000 ∷ 12567 ∷ 14967 ∷ 0 ∷ []) × (own_locked Coin ben busy ≡ 2600) × (own_kept Coin ben busy.events ≡ 2400) × (own_locked Pc ben busy ≡ 2400) × (own_kept Pc ben busy.events ≡ 0)
unfolding taken demand_after price_of sequence_of id_of taker_rate maker_rate
busy_totals = (refl, refl, refl, refl, refl, refl, refl, refl, refl)

-- of each slot's order how many rest, and how many final outs wait
abbrev counts_held : Option Holding → Market → List ℕ
counts_held (Some holding) m = resting_of holding m ∷ finals_of holding m.events ∷ []
counts_held None m = []

abbrev counts : Address → ℕ → Market → List ℕ
counts owner slot m = counts_held (held_at owner slot m.traders) m

busy_slots : (counts amy 0 busy ≡ 0 ∷ 1 ∷ []) × (counts amy 1 busy ≡ 0 ∷ 1 ∷ []) × (counts amy 2 busy ≡ []) × (counts ben 0 busy ≡ 0 ∷ 1 ∷ []) × (counts ben 1 busy ≡ 1 ∷ 0 ∷ [])
    × (counts ben 2 busy ≡ 0 ∷ 1 ∷ []) × (counts ben 3 busy ≡ 1 ∷ 0 ∷ [])
unfolding taken demand_after price_of sequence_of id_of taker_rate maker_rate
busy_slots = (refl, refl, refl, refl, refl, refl, refl)

-- pending events and resting orders are those that their owners' slots hold
busy_held : (map (λ e. held_at e.owner e.slot busy.traders) busy.events ≡ map (λ e. Some (event_holding e)) busy.events)
    × (map is_final busy.events ≡ false ∷ false ∷ true ∷ false ∷ false ∷ true ∷ false ∷ true ∷ true ∷ [])
    × (map (λ (o : Order). held_at o.owner o.slot busy.traders) busy.asks ≡ map (λ o. Some (order_holding Ask o)) busy.asks)
unfolding taken demand_after price_of sequence_of id_of taker_rate maker_rate
busy_held = (refl, refl, refl)

-- two events consumed, and all of them
abbrev begun : Market
begun = (consume 2 (amy ∷ ben ∷ []) busy).market

abbrev drained : Market
drained = (consume 100 (amy ∷ ben ∷ []) busy).market

begun_funds : ((consume 2 (amy ∷ ben ∷ []) busy).reply ≡ Consumed 2) × (funds amy begun ≡ 3500 ∷ 3500 ∷ 7958 ∷ 12958 ∷ 0 ∷ []) × (funds ben begun ≡ 0 ∷ 5000 ∷ 12567 ∷ 14967 ∷ 6 ∷ [])
    × ((consume 0 (amy ∷ ben ∷ []) busy).reply ≡ Consumed 0) × ((consume 9 (ben ∷ []) busy).reply ≡ Consumed 0) × (covered begun ≡ 6500 ∷ 6500 ∷ 50000 ∷ 50000 ∷ 15 ∷ 15 ∷ [])
unfolding taken demand_after price_of sequence_of id_of taker_rate maker_rate
begun_funds = (refl, refl, refl, refl, refl, refl)

drained_funds : ((consume 100 (amy ∷ ben ∷ []) busy).reply ≡ Consumed 9) × (funds amy drained ≡ 3500 ∷ 3500 ∷ 12958 ∷ 12958 ∷ 9 ∷ []) × (funds ben drained ≡ 400 ∷ 3000 ∷ 34573 ∷ 36973 ∷ 6 ∷ [])
    × (held drained ≡ 6500 ∷ 50000 ∷ 54 ∷ 15 ∷ []) × (covered drained ≡ 6500 ∷ 6500 ∷ 50000 ∷ 50000 ∷ 15 ∷ 15 ∷ [])
unfolding taken demand_after price_of sequence_of id_of taker_rate maker_rate
drained_funds = (refl, refl, refl, refl, refl)

drained_slots : (map (λ slot. counts ben slot drained) (0 ∷ 1 ∷ 2 ∷ 3 ∷ []) ≡ [] ∷ (1 ∷ 0 ∷ []) ∷ [] ∷ (1 ∷ 0 ∷ []) ∷ []) × (slots_in (trader_at amy drained.traders) ≡ replicate 128 None)
unfolding taken demand_after price_of sequence_of id_of taker_rate maker_rate
drained_slots = (refl, refl)

-- ben's free funds are paid out, and what his orders lock stays; his referrer part goes to the wallet of the quote role
-- too
abbrev settles : Option WalletSeen → Step
settles referrer = settle (record (sees (bob_coin 50000) (bob_usd 50000)) { referrer = referrer }) drained

settles_free : ((settles None).reply ≡ Settled 400 34573 0) × (funds ben (settles None).market ≡ 0 ∷ 2600 ∷ 0 ∷ 2400 ∷ 0 ∷ []) × (held (settles None).market ≡ 6100 ∷ 15427 ∷ 60 ∷ 9 ∷ [])
    × (covered (settles None).market ≡ 6100 ∷ 6100 ∷ 15427 ∷ 15427 ∷ 9 ∷ 9 ∷ [])
unfolding taken demand_after price_of sequence_of id_of taker_rate maker_rate
settles_free = (refl, refl, refl, refl)

settles_to_one_wallet : ((settles (bob_usd 50000)).reply ≡ Settled 400 34573 6) × (held (settles (bob_usd 50000)).market ≡ 6100 ∷ 15421 ∷ 54 ∷ 9 ∷ [])
    × (movements (record (sees (bob_coin 50000) (bob_usd 50000)) { referrer = bob_usd 50000 }) (settles (bob_usd 50000)).transfers ≡ credit (codes "bob_coin") 400 50000 ∷ credit (codes "bob_usd") 34579 50000 ∷ [])
unfolding taken demand_after price_of sequence_of id_of taker_rate maker_rate
settles_to_one_wallet = (refl, refl, refl)

-- a take that sells: the bid's rebate is its maker's, and the rest of the fee the market's
abbrev sells : ℕ → ℕ → Step
sells min_lots min_pc = step (row (SendTake Ask 95 3 1 min_lots min_pc 10) bob []) (sees (bob_coin 50000) (bob_usd 50000)) both_rest

sells_to_a_bid : ((sells 3 2993).reply ≡ Took 3 3000 7) × ((sells 3 2994).reply ≡ Refused (refusal.BelowMinimum 2993)) × (drop 8 (events (sells 3 0).market) ≡ (13 ∷ 300 ∷ 2999 ∷ 1 ∷ []) ∷ [])
    × (movements (sees (bob_coin 50000) (bob_usd 50000)) (sells 3 0).transfers ≡ debit (codes "bob_coin") 300 50000 ∷ credit (codes "bob_usd") 2993 50000 ∷ [])
    × (held both_rest ≡ 6500 ∷ 50000 ∷ 54 ∷ 15 ∷ []) × (held (sells 3 0).market ≡ 6800 ∷ 47007 ∷ 60 ∷ 15 ∷ [])
    × (covered (sells 3 0).market ≡ 6800 ∷ 6800 ∷ 47007 ∷ 47007 ∷ 15 ∷ 15 ∷ [])
unfolding taken demand_after price_of sequence_of id_of taker_rate maker_rate
sells_to_a_bid = (refl, refl, refl, refl, refl, refl, refl)
