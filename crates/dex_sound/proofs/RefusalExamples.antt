-- worked examples of refusals: which of several reasons is given, and where each begins
use Rattle.std.proofs.Common.{true, ◌≡◌, ℕ, List, [], ◌∷◌, Option, Some, None, refl, replicate, slice_index_or, codes, map}
use Rattle.dex_types.specs.declared.addresses.Address.{Address}
use Rattle.dex_types.specs.declared.instructions.Ix.TheVariants.{SettleFunds, SweepFees, CancelOrderByClientIdV2, SendTake, CloseOpenOrders, Prune}
use Rattle.dex_types.specs.declared.refusals.Refusal.TheVariants as refusal
use Rattle.dex_types.specs.declared.replies.Reply.{Reply}
use Rattle.dex_types.specs.declared.replies.Reply.TheVariants.{Ordered, Took, Settled, Swept, Refused}
use Rattle.dex_types.specs.declared.rows.WalletSeen.{WalletSeen}
use Rattle.dex_types.specs.declared.terms.OrderType.TheVariants.{Limit, Ioc}
use Rattle.dex_types.specs.declared.terms.SelfTrade.TheVariants.{Decrement}
use Rattle.dex_types.specs.declared.terms.Side.{Side}
use Rattle.dex_types.specs.declared.terms.Side.TheVariants.{Bid, Ask}
use Rattle.dex_types.specs.Fees.{taker_rate, maker_rate}
use Rattle.dex_types.specs.Market.{Market}
use Rattle.dex_types.specs.Meeting.{taken, demand_after}
use Rattle.dex_types.specs.Side.{price_of, sequence_of, id_of}
use Rattle.dex_types.specs.Trader.{Account, Open, Holding}
use Rattle.dex_types.specs.Wallets.{seen_wallets, movements}
use Rattle.dex_types.specs.Cancel.{taken_by_all, all_orders_of}
use Rattle.dex_types.specs.Soundness.{held_at, resting_of, finals_of}
use Rattle.dex_types.specs.Steps.{step}
use Rattle.dex_sound.proofs.ExampleMarket.{label, amy, ben, ann, bob, coin, usd, listing, row, new, wallet, ann_coin, ann_usd, bob_coin, bob_usd, sees, nothing, debit, credit, probe, events, resting, open_on, base, after, answer, ask_row, ask_sees, asked, buy_row, buy_sees, bought, cranked}

-- bob's order, with this signer and these wallets
abbrev buys : Address → Option WalletSeen → Option WalletSeen → Option WalletSeen → Reply
buys signer base_wallet pays discount = answer (record buy_row { signer = signer }) (record (sees base_wallet pays) { discount = discount }) asked.market

abbrev bob_srm : Option WalletSeen
bob_srm = wallet (codes "bob_srm") (label (codes "srm")) bob 1

-- the lowest reason is given; a wallet of another role is not looked at; a discount wallet needs a known mint
order_reasons : (buys bob None None None ≡ Refused refusal.NoAccount)
    × (buys bob (bob_coin 1) None None ≡ Refused refusal.NoAccount)
    × (buys ann None (bob_coin 1) None ≡ Refused (refusal.NotOwner bob))
    × (buys bob None (bob_coin 1) None ≡ Refused (refusal.WrongMint coin))
    × (buys bob None (ann_usd 1) bob_srm ≡ Refused (refusal.WrongMint (label (codes "srm"))))
    × (buys bob None (ann_usd 1) None ≡ Refused (refusal.WalletNotSigned ann))
    × (buys bob None (bob_usd 1999) None ≡ Refused (refusal.InsufficientFunds 2000 1999))
    × (buys bob (ann_usd 1) (bob_usd 2000) None ≡ Ordered 0 1125251388496282648574 3 1500 4 0)
    × (answer (record buy_row { named = [] }) buy_sees asked.market ≡ Refused refusal.NoAccount)
    × (answer (record buy_row { named = bob ∷ ben ∷ [] }) buy_sees asked.market ≡ Refused refusal.NoAccount)
unfolding taken demand_after price_of sequence_of id_of taker_rate maker_rate
order_reasons = (refl, refl, refl, refl, refl, refl, refl, refl, refl, refl)

-- bob's take of asks
abbrev takes : Side → ℕ → Address → Option WalletSeen → Option WalletSeen → Option WalletSeen → Market → Reply
takes side lots signer base_wallet quote_wallet discount m = answer (row (SendTake side 60 lots 2000 0 0 10) signer []) (record (sees base_wallet quote_wallet) { discount = discount; srm = Some (label (codes "srm")) }) m

-- a take looks at both wallets, is paid from one of them and credits the other, and needs room
take_reasons : (takes Bid 3 bob None (bob_usd 5000) None asked.market ≡ Refused refusal.NoAccount)
    × (takes Bid 3 bob (bob_coin 0) None None asked.market ≡ Refused refusal.NoAccount)
    × (takes Bid 3 bob (bob_usd 0) (bob_usd 5000) None asked.market ≡ Refused (refusal.WrongMint usd))
    × (takes Bid 3 bob (bob_coin 0) (bob_coin 5000) None asked.market ≡ Refused (refusal.WrongMint coin))
    × (takes Bid 3 ann (bob_coin 0) (bob_usd 5000) (bob_usd 0) asked.market ≡ Refused (refusal.WrongMint usd))
    × (takes Bid 3 ann (bob_coin 0) (bob_usd 5000) None asked.market ≡ Refused (refusal.WalletNotSigned bob))
    × (takes Bid 3 ann (bob_coin 0) (ann_usd 5000) bob_srm asked.market ≡ Refused (refusal.WalletNotSigned bob))
    × (takes Bid 3 ann (bob_coin 0) (ann_usd 5000) None asked.market ≡ Took 3 1500 4)
    × (takes Ask 184467440737095517 bob (bob_coin 0) (bob_usd 0) None asked.market ≡ Refused refusal.AskTooLarge)
    × (takes Ask 184467440737095516 bob (bob_coin 0) (bob_usd 0) None asked.market ≡ Took 0 0 0)
    × (takes Bid 3 bob (bob_coin 0) (bob_usd 5000) None (record asked.market { listing = listing 100 455 0 }) ≡ Refused (refusal.EventQueueFull 1 0))
    × (takes Bid 3 bob (bob_coin 0) (bob_usd 1503) None asked.market ≡ Refused (refusal.InsufficientFunds 1504 1503))
    × (takes Bid 3 bob (bob_coin 18446744073709551316) (bob_usd 5000) None asked.market ≡ Refused (refusal.BalanceTooLarge 18446744073709551316 300))
    × (takes Bid 3 bob (bob_coin 18446744073709551315) (bob_usd 5000) None asked.market ≡ Took 3 1500 4)
    × (takes Bid 3 bob (bob_coin 0) (bob_usd 5000) None (record asked.market { is_disabled = true }) ≡ Refused refusal.MarketDisabled)
    × (takes Bid 3 bob (bob_coin 0) (bob_usd 5000) None (record asked.market { pc_vault = 18446744073709550112 }) ≡ Refused (refusal.SumTooLarge 18446744073709551616 0))
    × (takes Bid 3 bob (bob_coin 0) (bob_usd 5000) None (record asked.market { pc_vault = 18446744073709550111 }) ≡ Took 3 1500 4)
    × (takes Bid 3 bob (bob_coin 0) (bob_usd 5000) None (record asked.market { coin_vault = 18446744073709551616 }) ≡ Refused (refusal.SumTooLarge 18446744073709551316 300))
unfolding taken demand_after price_of sequence_of id_of taker_rate maker_rate
take_reasons = (refl, refl, refl, refl, refl, refl, refl, refl, refl, refl, refl, refl, refl, refl, refl, refl, refl, refl)

-- ann bids what a vault can hold
abbrev all_quote : Market
all_quote = after (row (new Bid 1 1 18446744073709551615 Decrement Limit 1 10) ann (amy ∷ [])) (sees None (ann_usd 18446744073709551615)) base

-- bounds are passed at 2^64 and not before, and a queue may be filled
bounds_begin : (all_quote.pc_vault ≡ 18446744073709551615)
    × (answer (row (new Bid 1 1 1 Decrement Limit 1 10) bob (ben ∷ [])) (sees None (bob_usd 1)) all_quote ≡ Refused (refusal.SumTooLarge 18446744073709551616 0))
    × (answer (row (new Ask 1 2 1 Decrement Limit 1 10) ann (amy ∷ [])) (sees (ann_coin 0) None) (open_on (listing 9223372036854775808 455 2978)) ≡ Refused refusal.AskTooLarge)
    × (answer buy_row buy_sees (after ask_row (ask_sees 400) (open_on (listing 100 455 3))) ≡ Ordered 0 1125251388496282648574 3 1500 4 0)
    × (answer buy_row buy_sees (record bought.market { listing = listing 100 455 5 }) ≡ Refused (refusal.EventQueueFull 4 2))
unfolding taken demand_after price_of sequence_of id_of taker_rate maker_rate
bounds_begin = (refl, refl, refl, refl, refl)

-- ben settles with these wallets
abbrev settles : Address → Option WalletSeen → Option WalletSeen → Option WalletSeen → Reply
settles signer base_wallet quote_wallet referrer = answer (row SettleFunds signer (ben ∷ [])) (record (sees base_wallet quote_wallet) { referrer = referrer }) cranked

abbrev ann_settles : ℕ → Reply
ann_settles balance = answer (row SettleFunds ann (amy ∷ [])) (sees (ann_coin 0) (ann_usd balance)) cranked

-- settling asks for the owner, and for room in each wallet; the wallets may be anyone's
settle_reasons : (settles ann (bob_usd 0) (bob_coin 0) None ≡ Refused (refusal.NotOwner bob))
    × (settles bob None (bob_usd 0) None ≡ Refused refusal.NoAccount)
    × (settles bob (bob_usd 0) (bob_coin 0) None ≡ Refused (refusal.WrongMint usd))
    × (settles bob (bob_coin 0) (bob_coin 0) None ≡ Refused (refusal.WrongMint coin))
    × (settles bob (bob_coin 0) (bob_usd 0) (ann_coin 0) ≡ Refused (refusal.WrongMint coin))
    × (settles bob (bob_coin 18446744073709531616) (bob_usd 0) None ≡ Refused (refusal.BalanceTooLarge 18446744073709531616 20000))
    × (settles bob (ann_coin 18446744073709531615) (ann_usd 0) None ≡ Settled 20000 0 0)
    × (settles bob (bob_coin 0) (bob_usd 0) (ann_usd 18446744073709551528) ≡ Refused (refusal.BalanceTooLarge 18446744073709551528 88))
    × (ann_settles 18446744073709351556 ≡ Refused (refusal.BalanceTooLarge 18446744073709351556 200060))
    × (ann_settles 18446744073709351555 ≡ Settled 0 200060 0)
unfolding taken demand_after price_of sequence_of id_of taker_rate maker_rate
settle_reasons = (refl, refl, refl, refl, refl, refl, refl, refl, refl, refl)

-- the authority sweeps into this wallet
abbrev sweeps : Option WalletSeen → Reply
sweeps quote_wallet = answer (row SweepFees (label (codes "admin")) []) (sees None quote_wallet) cranked

-- ann closes amy, whose account is this
abbrev closes : Account → Reply
closes account = answer (row CloseOpenOrders ann (amy ∷ [])) nothing (record base { traders = (amy, Open account) ∷ [] })

abbrev of_ann : List (Option Holding) → ℕ → Account
of_ann slots referrer = record {
  person = ann;
  coin = record { free = 0; total = 0 };
  pc = record { free = 0; total = 0 };
  referrer = referrer;
  slots = slots;
}

-- the other instructions
other_reasons : (sweeps None ≡ Refused refusal.NoAccount)
    × (sweeps (ann_coin 0) ≡ Refused (refusal.WrongMint coin))
    × (sweeps (ann_usd 18446744073709551324) ≡ Refused (refusal.BalanceTooLarge 18446744073709551324 292))
    × (sweeps (ann_usd 18446744073709551323) ≡ Swept 292)
    × (closes (of_ann (Some (record { id = 1; side = Ask; client = 1 }) ∷ replicate 127 None) 0) ≡ Refused (refusal.NotEmpty 1 0))
    × (closes (of_ann (replicate 128 None) 1) ≡ Refused (refusal.NotEmpty 0 1))
    × (answer (row CloseOpenOrders bob (ben ∷ [])) nothing bought.market ≡ Refused (refusal.NotEmpty 1 796))
    × (answer (row CloseOpenOrders ann (ben ∷ [])) nothing bought.market ≡ Refused (refusal.NotOwner bob))
    × (answer (row (CancelOrderByClientIdV2 7) bob (amy ∷ [])) nothing asked.market ≡ Refused (refusal.NotOwner ann))
    × (answer (row (Prune 1) (label (codes "admin")) []) nothing asked.market ≡ Refused refusal.NoAccount)
unfolding taken demand_after price_of sequence_of id_of taker_rate maker_rate
other_reasons = (refl, refl, refl, refl, refl, refl, refl, refl, refl, refl)

-- wallets stand by their addresses' bytes, each once
abbrev at_place : ℕ → List Address → Option WalletSeen
at_place place addresses = wallet (slice_index_or addresses place ann).0 coin ann 0

abbrev named : List Address → List Address
named addresses = seen_wallets (record (sees (at_place 0 addresses) (at_place 1 addresses)) { discount = at_place 2 addresses; referrer = at_place 3 addresses })

wallets_rise : (named (bob ∷ ann ∷ amy ∷ ben ∷ []) ≡ amy ∷ ann ∷ ben ∷ bob ∷ [])
    × (named (bob ∷ ann ∷ bob ∷ ann ∷ []) ≡ ann ∷ bob ∷ [])
    × (named (label (codes "ab") ∷ label (codes "a") ∷ label (codes "abc") ∷ label (codes "b") ∷ []) ≡ label (codes "a") ∷ label (codes "ab") ∷ label (codes "abc") ∷ label (codes "b") ∷ [])
unfolding taken demand_after price_of sequence_of id_of taker_rate maker_rate
wallets_rise = (refl, refl, refl)

-- amy asks with the client id 0 and then bids with it
abbrev both_sides : Market
both_sides = after (row (new Bid 40 1 1000 Decrement Limit 0 10) ann (amy ∷ [])) (sees None (ann_usd 1000))
    (after (row (new Ask 50 1 1 Decrement Limit 0 10) ann (amy ∷ [])) (ask_sees 1000) base)

-- pruning takes bids before asks; a list takes nothing by the client id 0; what is locked or waits is no free fund, and
-- is in the total
prunes_bids_first : (events (after (row (Prune 1) (label (codes "admin")) (amy ∷ [])) nothing both_sides) ≡ (22 ∷ 400 ∷ 0 ∷ 0 ∷ []) ∷ [])
    × (events (after (row (Prune 2) (label (codes "admin")) (amy ∷ [])) nothing both_sides) ≡ (22 ∷ 400 ∷ 0 ∷ 0 ∷ []) ∷ (18 ∷ 100 ∷ 0 ∷ 0 ∷ []) ∷ [])
    × (taken_by_all (0 ∷ 9 ∷ []) (all_orders_of amy both_sides.bids both_sides.asks) ≡ [])
    × (answer (row CloseOpenOrders ann (amy ∷ [])) nothing (after (row (Prune 1) (label (codes "admin")) (amy ∷ [])) nothing both_sides) ≡ Refused (refusal.NotEmpty 2 1100))
unfolding taken demand_after price_of sequence_of id_of taker_rate maker_rate
prunes_bids_first = (refl, refl, refl, refl)

-- past sequence number 2^63 - 1 a bid and an ask at one price have one id
abbrev one_id : Market
one_id = after (row (new Ask 50 1 1 Decrement Limit 2 10) bob (ben ∷ [])) (sees (bob_coin 100) None)
    (after (row (new Bid 50 1 1000 Decrement Ioc 1 10) bob (ben ∷ [])) (sees None (bob_usd 1000)) (record base { next_sequence = 9223372036854775807 }))

abbrev counts_of : Option Holding → Market → List ℕ
counts_of (Some holding) m = resting_of holding m ∷ finals_of holding m.events ∷ []
counts_of None m = []

-- they are two orders all the same: the bid is gone, and the ask rests
one_id_twice : (resting one_id.asks ≡ (931560575722332356608 ∷ 1 ∷ []) ∷ [])
    × (map (λ e. e.id) one_id.events ≡ 931560575722332356608 ∷ [])
    × (counts_of (held_at ben 0 one_id.traders) one_id ≡ 0 ∷ 1 ∷ [])
    × (counts_of (held_at ben 1 one_id.traders) one_id ≡ 1 ∷ 0 ∷ [])
unfolding taken demand_after price_of sequence_of id_of taker_rate maker_rate
one_id_twice = (refl, refl, refl, refl)

-- bob sells to a bid of ann's, and his quote wallet has this
abbrev sells_into : ℕ → Reply
sells_into balance = answer (row (SendTake Ask 40 1 1 0 0 10) bob []) (sees (bob_coin 100) (bob_usd balance)) both_sides

-- a take that sells needs room in the quote wallet
sells_into_room : (sells_into 18446744073709551217 ≡ Refused (refusal.BalanceTooLarge 18446744073709551217 399))
    × (sells_into 18446744073709551216 ≡ Took 1 400 1)
unfolding taken demand_after price_of sequence_of id_of taker_rate maker_rate
sells_into_room = (refl, refl)

-- an amount of 1 is moved, and none is a probe
least_movements : (movements (sees None (bob_usd 9)) (step (row (new Bid 1 1 1 Decrement Limit 1 10) bob (ben ∷ [])) (sees None (bob_usd 9)) base).transfers ≡ debit (codes "bob_usd") 1 9 ∷ [])
    × (movements (sees None (ann_usd 9)) (step (row SweepFees (label (codes "admin")) []) (sees None (ann_usd 9)) (record base { pc_fees = 1; pc_vault = 1 })).transfers ≡ credit (codes "ann_usd") 1 9 ∷ [])
    × (movements (sees None (ann_usd 9)) (step (row SweepFees (label (codes "admin")) []) (sees None (ann_usd 9)) base).transfers ≡ probe (codes "ann_usd") 9 ∷ [])
unfolding taken demand_after price_of sequence_of id_of taker_rate maker_rate
least_movements = (refl, refl, refl)
