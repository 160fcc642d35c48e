-- worked examples of steps, by computation
use Rattle.std.proofs.Common.{lit≤, ◌≡◌, ℕ, ℤ, pos, negsuc, [], ◌∷◌, Option, Some, None, Err, refl, map, replicate, codes, zero, suc, ◌≤◌, get_or, slice_index, arith}
use Rattle.dex_types.specs.declared.addresses.Address.{Address}
use Rattle.dex_types.specs.declared.client_ids.ClientIds.{ClientIds}
use Rattle.dex_types.specs.declared.instructions.BadData.TheVariants.{Version}
use Rattle.dex_types.specs.declared.instructions.Ix.TheVariants.{CancelOrdersByClientIds, InitializeMarket, MatchOrders, DisableMarket, SweepFees, NewOrderV3, CancelOrderV2, CancelOrderByClientIdV2, SendTake, CloseOpenOrders, InitOpenOrders, Prune}
use Rattle.dex_types.specs.declared.refusals.Refusal.TheVariants as refusal
use Rattle.dex_types.specs.declared.replies.Reply.{Reply}
use Rattle.dex_types.specs.declared.replies.Reply.TheVariants.{Ordered, Took, Cancelled, Consumed, Settled, Swept, Done, Refused}
use Rattle.dex_types.specs.declared.rows.Seen.{Seen}
use Rattle.dex_types.specs.declared.terms.OrderType.TheVariants.{Limit, Ioc}
use Rattle.dex_types.specs.declared.terms.Program.TheVariants.{OpenBook}
use Rattle.dex_types.specs.declared.terms.SelfTrade.{SelfTrade}
use Rattle.dex_types.specs.declared.terms.SelfTrade.TheVariants.{Decrement, CancelProvide, Abort}
use Rattle.dex_types.specs.declared.terms.Side.{Side}
use Rattle.dex_types.specs.declared.terms.Side.TheVariants.{Bid, Ask}
use Rattle.dex_types.specs.Cancel.{RestingOrder, taken_by_all, all_orders_of}
use Rattle.dex_types.specs.Fees.{taker_rate, maker_rate}
use Rattle.dex_types.specs.Market.{Market}
use Rattle.dex_types.specs.Meeting.{taken, demand_after}
use Rattle.dex_types.specs.Side.{price_of, sequence_of, id_of}
use Rattle.dex_types.specs.Soundness.{IsSound}
use Rattle.dex_types.specs.Trader.{Trader, Open, Closed, Blank, trader_at}
use Rattle.dex_types.specs.Wallets.{movements}
use Rattle.dex_sound.specs.Made.{CanMake}
use Rattle.dex_types.specs.Steps.{Step, step}
use Rattle.dex_sound.proofs.MadeLaws.{made_market-sound}
use Rattle.dex_sound.proofs.ExampleMarket.{label, amy, ben, ann, bob, usd, listing, made, row, new, wallet, ann_usd, bob_coin, bob_usd, sees, nothing, debit, credit, probe, funds, events, resting, held, open_on, base, ask_row, ask_sees, asked, buy_row, buy_sees, bought, consume, slots_in, traded, cranked, settle}

opens : ((step (row InitOpenOrders ann (amy ∷ [])) nothing (made (listing 100 455 2978))).reply ≡ Done) × (funds amy base ≡ 0 ∷ 0 ∷ 0 ∷ 0 ∷ 0 ∷ [])
    × (funds ben base ≡ 0 ∷ 0 ∷ 0 ∷ 0 ∷ 0 ∷ [])
unfolding taken demand_after price_of sequence_of id_of taker_rate maker_rate
opens = (refl, refl, refl)

opens_once : ((step (row InitOpenOrders ann (amy ∷ [])) nothing base).reply ≡ Refused refusal.AccountExists)
    × ((step (row InitOpenOrders ann []) nothing base).reply ≡ Refused refusal.NoAccount)
    × ((step (row InitOpenOrders ann (ann ∷ [])) nothing base).reply ≡ Refused refusal.NoAccount)
unfolding taken demand_after price_of sequence_of id_of taker_rate maker_rate
opens_once = (refl, refl, refl)

-- ann asks four lots at 50; her wallet pays all of it
asks : (asked.reply ≡ Ordered 0 922337203685477580800 0 0 0 4) × (movements (ask_sees 1000) asked.transfers ≡ debit (codes "ann_coin") 400 1000 ∷ [])
    × (events asked.market ≡ []) × (held asked.market ≡ 400 ∷ 0 ∷ 0 ∷ 0 ∷ []) × (funds amy asked.market ≡ 0 ∷ 400 ∷ 0 ∷ 0 ∷ 0 ∷ [])
unfolding taken demand_after price_of sequence_of id_of taker_rate maker_rate
asks = (refl, refl, refl, refl, refl)

-- with one less in the wallet it is refused, the market stays and the wallet is only looked at
asks_too_poor : (step ask_row (ask_sees 399) base ≡ record { market = base; reply = Refused (refusal.InsufficientFunds 400 399); transfers = (step (row (MatchOrders 1) ann []) nothing base).transfers })
    × (movements (ask_sees 399) (step ask_row (ask_sees 399) base).transfers ≡ probe (codes "ann_coin") 399 ∷ [])
unfolding taken demand_after price_of sequence_of id_of taker_rate maker_rate
asks_too_poor = (refl, refl)

-- bob buys three of them
buys : (bought.reply ≡ Ordered 0 1125251388496282648574 3 1500 4 0) × (movements buy_sees bought.transfers ≡ debit (codes "bob_usd") 2000 5000 ∷ [])
    × (events bought.market ≡ (9 ∷ 1500 ∷ 300 ∷ 0 ∷ []) ∷ (5 ∷ 300 ∷ 1504 ∷ 4 ∷ []) ∷ (6 ∷ 0 ∷ 0 ∷ 0 ∷ []) ∷ [])
    × (held bought.market ≡ 400 ∷ 2000 ∷ 4 ∷ 0 ∷ []) × (funds ben bought.market ≡ 300 ∷ 300 ∷ 496 ∷ 496 ∷ 0 ∷ [])
unfolding taken demand_after price_of sequence_of id_of taker_rate maker_rate
buys = (refl, refl, refl, refl, refl)

-- a crank that names amy alone stops at ben's fill
consumes : ((consume 10 (amy ∷ []) bought.market).reply ≡ Consumed 1) × (funds amy (consume 10 (amy ∷ []) bought.market).market ≡ 0 ∷ 100 ∷ 1500 ∷ 1500 ∷ 0 ∷ [])
unfolding taken demand_after price_of sequence_of id_of taker_rate maker_rate
consumes = (refl, refl)

-- three at once, or one after the other, leave one market; ben's slot is free then, and amy's is not
abbrev consumed_all : Market
consumed_all = (consume 3 (amy ∷ ben ∷ []) bought.market).market

consumes_in_parts : (consume 1 (amy ∷ ben ∷ []) (consume 1 (amy ∷ ben ∷ []) (consume 1 (amy ∷ ben ∷ []) bought.market).market).market).market ≡ consumed_all
unfolding taken demand_after price_of sequence_of id_of taker_rate maker_rate
consumes_in_parts = refl

consumes_slots : (slots_in (trader_at ben consumed_all.traders) ≡ replicate 128 None)
    × (slots_in (trader_at amy consumed_all.traders) ≡ Some (record { id = 922337203685477580800; side = Ask; client = 7 }) ∷ replicate 127 None)
    × (events consumed_all ≡ [])
unfolding taken demand_after price_of sequence_of id_of taker_rate maker_rate
consumes_slots = (refl, refl, refl)

-- an order that would meet an own one, and has to abort
abbrev own_sees : Seen
own_sees = sees None (ann_usd 2000)

abbrev own_bid : SelfTrade → Step
own_bid rule = step (row (new Bid 50 2 2000 rule Limit 9 10) ann (amy ∷ [])) own_sees asked.market

own_bids : ((own_bid Abort).reply ≡ Refused (refusal.WouldSelfTrade 922337203685477580800)) × (movements own_sees (own_bid Abort).transfers ≡ probe (codes "ann_usd") 2000 ∷ [])
    × (events (own_bid Decrement).market ≡ (18 ∷ 200 ∷ 200 ∷ 0 ∷ []) ∷ (6 ∷ 0 ∷ 0 ∷ 0 ∷ []) ∷ []) × (events (own_bid CancelProvide).market ≡ (18 ∷ 400 ∷ 0 ∷ 0 ∷ []) ∷ [])
unfolding taken demand_after price_of sequence_of id_of taker_rate maker_rate
own_bids = (refl, refl, refl, refl)

-- a queue of two events has no room for three
abbrev small_queue : Market
small_queue = (step ask_row (ask_sees 1000) (open_on (listing 100 455 2))).market

queue_is_full : (step buy_row buy_sees small_queue).reply ≡ Refused (refusal.EventQueueFull 3 2)
unfolding taken demand_after price_of sequence_of id_of taker_rate maker_rate
queue_is_full = refl

-- an account whose 128 slots are taken, and a market that has given out all sequence numbers
abbrev all_taken : Option Trader → Trader
all_taken (Some (Open account)) = Open (record account { slots = replicate 128 (Some (record { id = 1; side = Ask; client = 1 })) })
all_taken _ = Blank

slots_run_out : ((step ask_row (ask_sees 1000) (record base { traders = (amy, all_taken (trader_at amy base.traders)) ∷ [] })).reply ≡ Refused refusal.TooManyOpenOrders)
    × ((step ask_row (ask_sees 1000) (record base { next_sequence = 18446744073709551615 })).reply ≡ Refused refusal.SequenceExhausted)
unfolding taken demand_after price_of sequence_of id_of taker_rate maker_rate
slots_run_out = (refl, refl)

-- cancels of the ask: by id, by whom and where
abbrev cancel : Side → ℕ → Address → Address → Market → Step
cancel side id signer owner m = step (row (CancelOrderV2 side id) signer (owner ∷ [])) nothing m

abbrev cancelled_ask : Step
cancelled_ask = cancel Ask 922337203685477580800 ann amy asked.market

cancels : (cancelled_ask.reply ≡ Cancelled 1) × (events cancelled_ask.market ≡ (18 ∷ 400 ∷ 0 ∷ 0 ∷ []) ∷ []) × (resting cancelled_ask.market.asks ≡ [])
    × ((cancel Ask 922337203685477580800 ann amy cancelled_ask.market).reply ≡ Refused refusal.OrderNotFound)
unfolding taken demand_after price_of sequence_of id_of taker_rate maker_rate
cancels = (refl, refl, refl, refl)

cancels_of_others : ((cancel Ask 922337203685477580800 bob ben asked.market).reply ≡ Refused (refusal.OrderNotYours amy))
    × ((cancel Bid 922337203685477580800 ann amy asked.market).reply ≡ Refused refusal.SideMismatch)
    × ((cancel Ask 922337203685477580800 bob amy asked.market).reply ≡ Refused (refusal.NotOwner ann))
unfolding taken demand_after price_of sequence_of id_of taker_rate maker_rate
cancels_of_others = (refl, refl, refl)

-- cancels by client id take the older of two orders; the list form takes both, and passes over 0 and an id without an
-- order
abbrev cancel_client : ℕ → Market → Step
cancel_client client m = step (row (CancelOrderByClientIdV2 client) ann (amy ∷ [])) nothing m

abbrev two_asks : Market
two_asks = (step (row (new Ask 40 1 1 Decrement Limit 7 10) ann (amy ∷ [])) (ask_sees 600) asked.market).market

cancels_by_client : ((cancel_client 0 two_asks).reply ≡ Refused refusal.ClientIdZero) × ((cancel_client 9 two_asks).reply ≡ Refused refusal.ClientIdNotFound)
    × ((cancel_client 7 two_asks).reply ≡ Cancelled 1) × (resting (cancel_client 7 two_asks).market.asks ≡ (id_of Ask 40 1 ∷ 1 ∷ []) ∷ [])
unfolding taken demand_after price_of sequence_of id_of taker_rate maker_rate
cancels_by_client = (refl, refl, refl, refl)

cancels_in_a_list : map (λ (r : RestingOrder). r.order.id) (taken_by_all (7 ∷ 0 ∷ 7 ∷ 9 ∷ []) (all_orders_of amy two_asks.bids two_asks.asks))
    ≡ 922337203685477580800 ∷ id_of Ask 40 1 ∷ []
unfolding taken demand_after price_of sequence_of id_of taker_rate maker_rate
cancels_in_a_list = refl

-- the ids 7, 0, 7 and 9
zeros : (n i : ℕ) → get_or (replicate {A = ℕ} n 0) i 0 ≡ 0
zeros zero i = refl
zeros (suc n) zero = refl
zeros (suc n) (suc i) = zeros n i

behind : (i : ℕ) → 4 ≤ i → slice_index (7 ∷ 0 ∷ 7 ∷ 9 ∷ replicate 4 0) i ≡ 0
behind zero inside = absurd (omega arith)
behind (suc zero) inside = absurd (omega arith)
behind (suc (suc zero)) inside = absurd (omega arith)
behind (suc (suc (suc zero))) inside = absurd (omega arith)
behind (suc (suc (suc (suc i)))) inside = zeros 4 i

abbrev four_ids : ClientIds
four_ids = record {
  ids = 7 ∷ 0 ∷ 7 ∷ 9 ∷ replicate 4 0;
  count = 4;
  some = lit≤ tt;
  at_most_eight = lit≤ tt;
  zeros_behind = behind;
}

abbrev cancel_list : Address → Step
cancel_list signer = step (row (CancelOrdersByClientIds four_ids) signer (amy ∷ [])) nothing two_asks

cancels_by_list : ((cancel_list ann).reply ≡ Cancelled 2) × (events (cancel_list ann).market ≡ (18 ∷ 400 ∷ 0 ∷ 0 ∷ []) ∷ (18 ∷ 100 ∷ 0 ∷ 0 ∷ []) ∷ [])
    × (resting (cancel_list ann).market.asks ≡ []) × ((cancel_list bob).reply ≡ Refused (refusal.NotOwner ann))
unfolding taken demand_after price_of sequence_of id_of taker_rate maker_rate
cancels_by_list = (refl, refl, refl, refl)

-- pruning is the authority's: the account's first orders, in book order
abbrev prune : ℕ → Address → Step
prune limit signer = step (row (Prune limit) signer (amy ∷ [])) nothing two_asks

prunes : ((prune 1 (label (codes "admin"))).reply ≡ Cancelled 1) × (resting (prune 1 (label (codes "admin"))).market.asks ≡ (id_of Ask 50 0 ∷ 4 ∷ []) ∷ [])
    × ((prune 1 ann).reply ≡ Refused (refusal.NotAuthority (label (codes "admin"))))
unfolding taken demand_after price_of sequence_of id_of taker_rate maker_rate
prunes = (refl, refl, refl)

-- a large trade, all events consumed, and funds paid out: with a referrer's wallet, or the referrer part to the
-- market's fees
traded_and_cranked : (events traded ≡ (9 ∷ 200060 ∷ 20000 ∷ 60 ∷ []) ∷ (2 ∷ 0 ∷ 0 ∷ 0 ∷ []) ∷ (5 ∷ 20000 ∷ 200440 ∷ 440 ∷ []) ∷ (6 ∷ 0 ∷ 0 ∷ 0 ∷ []) ∷ [])
    × (held traded ≡ 20000 ∷ 200440 ∷ 292 ∷ 88 ∷ []) × (funds ben cranked ≡ 20000 ∷ 20000 ∷ 0 ∷ 0 ∷ 88 ∷ []) × (funds amy cranked ≡ 0 ∷ 0 ∷ 200060 ∷ 200060 ∷ 0 ∷ [])
unfolding taken demand_after price_of sequence_of id_of taker_rate maker_rate
traded_and_cranked = (refl, refl, refl, refl)

abbrev referred : Seen
referred = record (sees (bob_coin 0) (bob_usd 99560)) { referrer = ann_usd 0 }

abbrev unreferred : Seen
unreferred = sees (bob_coin 0) (bob_usd 99560)

settles_with_referrer : ((settle referred cranked).reply ≡ Settled 20000 0 88) × (held (settle referred cranked).market ≡ 0 ∷ 200352 ∷ 292 ∷ 0 ∷ [])
    × (movements referred (settle referred cranked).transfers ≡ credit (codes "ann_usd") 88 0 ∷ credit (codes "bob_coin") 20000 0 ∷ probe (codes "bob_usd") 99560 ∷ [])
unfolding taken demand_after price_of sequence_of id_of taker_rate maker_rate
settles_with_referrer = (refl, refl, refl)

settles_without_referrer : ((settle unreferred cranked).reply ≡ Settled 20000 0 0) × (held (settle unreferred cranked).market ≡ 0 ∷ 200440 ∷ 380 ∷ 0 ∷ [])
    × ((settle unreferred (settle unreferred cranked).market).reply ≡ Settled 0 0 0) × (funds ben (settle unreferred cranked).market ≡ 0 ∷ 0 ∷ 0 ∷ 0 ∷ 0 ∷ [])
unfolding taken demand_after price_of sequence_of id_of taker_rate maker_rate
settles_without_referrer = (refl, refl, refl, refl)

-- wallets of the wrong token, missing ones, and a wallet without room
settles_refused : ((settle (sees (bob_usd 0) (bob_usd 0)) cranked).reply ≡ Refused (refusal.WrongMint usd))
    × ((settle (sees (bob_coin 0) None) cranked).reply ≡ Refused refusal.NoAccount)
    × ((settle (sees (bob_coin 18446744073709551615) (bob_usd 0)) cranked).reply ≡ Refused (refusal.BalanceTooLarge 18446744073709551615 20000))
unfolding taken demand_after price_of sequence_of id_of taker_rate maker_rate
settles_refused = (refl, refl, refl)

-- the authority sweeps the fees
abbrev sweep : Address → Step
sweep signer = step (row SweepFees signer []) (sees None (ann_usd 0)) cranked

sweeps : ((sweep (label (codes "admin"))).reply ≡ Swept 292) × (held (sweep (label (codes "admin"))).market ≡ 20000 ∷ 200148 ∷ 0 ∷ 88 ∷ [])
    × ((sweep ann).reply ≡ Refused (refusal.NotAuthority (label (codes "admin"))))
unfolding taken demand_after price_of sequence_of id_of taker_rate maker_rate
sweeps = (refl, refl, refl)

-- only an empty account is closed, and it stays closed
abbrev close : Address → Address → Market → Step
close signer owner m = step (row CloseOpenOrders signer (owner ∷ [])) nothing m

closes : ((close ann amy asked.market).reply ≡ Refused (refusal.NotEmpty 1 400)) × ((close ann amy base).reply ≡ Done)
    × (trader_at amy (close ann amy base).market.traders ≡ Some Closed) × ((close ann amy (close ann amy base).market).reply ≡ Refused refusal.NoAccount)
    × ((step (row InitOpenOrders ann (amy ∷ [])) nothing (close ann amy base).market).reply ≡ Refused refusal.AccountExists)
unfolding taken demand_after price_of sequence_of id_of taker_rate maker_rate
closes = (refl, refl, refl, refl, refl)

-- a disabled market takes no orders and opens no accounts, and gives out what it has
abbrev off : Step
off = step (row DisableMarket (label (codes "admin")) []) nothing asked.market

disables : (off.reply ≡ Done) × ((step buy_row buy_sees off.market).reply ≡ Refused refusal.MarketDisabled)
    × ((cancel Ask 922337203685477580800 ann amy off.market).reply ≡ Cancelled 1)
    × ((step (row DisableMarket ann []) nothing off.market).reply ≡ Refused refusal.MarketDisabled)
unfolding taken demand_after price_of sequence_of id_of taker_rate maker_rate
disables = (refl, refl, refl, refl)

-- instructions that change nothing, and data that does not decode
changes_nothing : ((step (row (MatchOrders 9) ann []) nothing asked.market).market ≡ asked.market) × ((step (row (MatchOrders 9) ann []) nothing asked.market).reply ≡ Done)
    × ((step (row (InitializeMarket 1 1 0 0 1) ann []) nothing base).reply ≡ Refused refusal.AccountExists)
    × ((step (record ask_row { instruction = Err Version }) nothing base).reply ≡ Refused (refusal.BadData Version))
unfolding taken demand_after price_of sequence_of id_of taker_rate maker_rate
changes_nothing = (refl, refl, refl, refl)

-- a discount wallet of SRM or MSRM lowers the fee; another one is of the wrong mint, and one of another person is not
-- signed
abbrev discounted : Address → Address → ℕ → Seen
discounted mint owner balance = record buy_sees {
  discount = wallet (codes "bob_srm") mint owner balance;
  srm = Some (label (codes "srm"));
  msrm = Some (label (codes "msrm"));
}

abbrev buys_discounted : Address → Address → ℕ → Reply
buys_discounted mint owner balance = (step buy_row (discounted mint owner balance) asked.market).reply

discounts : (buys_discounted (label (codes "srm")) bob 100000000 ≡ Ordered 0 1125251388496282648574 3 1500 3 0)
    × (buys_discounted (label (codes "srm")) bob 99999999 ≡ Ordered 0 1125251388496282648574 3 1500 4 0)
    × (buys_discounted (label (codes "msrm")) bob 1 ≡ Ordered 0 1125251388496282648574 3 1500 2 0)
    × (buys_discounted usd bob 1 ≡ Refused (refusal.WrongMint usd))
    × (buys_discounted (label (codes "srm")) ann 1 ≡ Refused (refusal.WalletNotSigned ann))
unfolding taken demand_after price_of sequence_of id_of taker_rate maker_rate
discounts = (refl, refl, refl, refl, refl)

-- a take goes from wallet to wallet, and its fee is all the market's
abbrev take_sees : Seen
take_sees = sees (bob_coin 0) (bob_usd 5000)

abbrev take : ℕ → ℕ → Step
take min_lots min_pc = step (row (SendTake Bid 60 3 2000 min_lots min_pc 10) bob []) take_sees asked.market

takes : ((take 3 0).reply ≡ Took 3 1500 4) × (movements take_sees (take 3 0).transfers ≡ credit (codes "bob_coin") 300 0 ∷ debit (codes "bob_usd") 1504 5000 ∷ [])
    × (events (take 3 0).market ≡ (9 ∷ 1500 ∷ 300 ∷ 0 ∷ []) ∷ []) × (held (take 3 0).market ≡ 100 ∷ 1504 ∷ 4 ∷ 0 ∷ [])
    × ((take 4 0).reply ≡ Refused (refusal.BelowMinimum 3)) × ((take 3 1505).reply ≡ Refused (refusal.BelowMinimum 1504))
unfolding taken demand_after price_of sequence_of id_of taker_rate maker_rate
takes = (refl, refl, refl, refl, refl, refl)

-- base lots as large as native amounts get: one lot fits, two do not, and two vaults' worth of base is past the bound
abbrev large : Market
large = open_on (listing 10000000000000000000 455 2978)

abbrev large_ask : ℕ → Step
large_ask lots = step (row (new Ask 1 lots 1 Decrement Limit 1 10) ann (amy ∷ [])) (ask_sees 10000000000000000000) large

too_large : ((large_ask 2).reply ≡ Refused refusal.AskTooLarge) × ((large_ask 1).reply ≡ Ordered 0 18446744073709551616 0 0 0 1)
    × ((step (row (new Bid 1 1 100 Decrement Ioc 2 10) bob (ben ∷ [])) (sees None (bob_usd 5000)) (large_ask 1).market).reply ≡ Refused (refusal.SumTooLarge 10000000000000000000 10000000000000000000))
unfolding taken demand_after price_of sequence_of id_of taker_rate maker_rate
too_large = (refl, refl, refl)

-- the second program has lower fees
abbrev cheaper : Step
cheaper = step buy_row (record buy_sees { program = OpenBook }) asked.market

second_program : (cheaper.reply ≡ Ordered 0 1125251388496282648574 3 1500 1 0) × (funds ben cheaper.market ≡ 300 ∷ 300 ∷ 499 ∷ 499 ∷ 0 ∷ []) × (held cheaper.market ≡ 400 ∷ 2000 ∷ 1 ∷ 0 ∷ [])
unfolding taken demand_after price_of sequence_of id_of taker_rate maker_rate
second_program = (refl, refl, refl)

-- an order is taken up to its latest time
abbrev buys_until : ℤ → Reply
buys_until latest = (step (record (row (NewOrderV3 Bid 60 3 2000 Decrement Ioc 8 10 (Some latest)) bob (ben ∷ [])) { now = pos 100 }) buy_sees asked.market).reply

times : (buys_until (pos 99) ≡ Refused (refusal.TimePast (pos 100) (pos 99))) × (buys_until (pos 100) ≡ Ordered 0 1125251388496282648574 3 1500 4 0)
    × (buys_until (negsuc 4) ≡ Refused (refusal.TimePast (pos 100) (negsuc 4)))
unfolding taken demand_after price_of sequence_of id_of taker_rate maker_rate
times = (refl, refl, refl)

-- the market of these examples is sound as it is made
can_make : CanMake (listing 100 455 2978) (amy ∷ ben ∷ [])
can_make = record { mints = refl; coin_lot = lit≤ tt; pc_lot = lit≤ tt; bids = lit≤ tt; asks = lit≤ tt; distinct = (refl, (refl, tt)) }

made_is_sound : IsSound (made (listing 100 455 2978))
made_is_sound = made_market-sound (listing 100 455 2978) (amy ∷ ben ∷ []) can_make
