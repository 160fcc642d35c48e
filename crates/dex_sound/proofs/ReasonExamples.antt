-- worked examples of the order of reasons: of those that hold the first is given, and each alone refuses
use Rattle.std.proofs.Common.{true, ◌≡◌, ◌^◌, ◌-◌, ℕ, ℤ, pos, List, [], ◌∷◌, Option, Some, None, refl, replicate, codes}
use Rattle.dex_types.specs.declared.addresses.Address.{Address}
use Rattle.dex_types.specs.declared.instructions.Ix.TheVariants.{SettleFunds, SweepFees, NewOrderV3, CancelOrderV2, CancelOrderByClientIdV2, DisableMarket, SendTake, CloseOpenOrders, InitOpenOrders, Prune}
use Rattle.dex_types.specs.declared.orders.Order.{Order}
use Rattle.dex_types.specs.declared.refusals.Refusal.TheVariants as refusal
use Rattle.dex_types.specs.declared.replies.Reply.{Reply}
use Rattle.dex_types.specs.declared.replies.Reply.TheVariants.{Ordered, Took, Cancelled, Settled, Done, Refused}
use Rattle.dex_types.specs.declared.rows.WalletSeen.{WalletSeen}
use Rattle.dex_types.specs.declared.terms.OrderType.TheVariants.{Limit}
use Rattle.dex_types.specs.declared.terms.SelfTrade.TheVariants.{Decrement, Abort}
use Rattle.dex_types.specs.declared.terms.Side.{Side}
use Rattle.dex_types.specs.declared.terms.Side.TheVariants.{Bid, Ask}
use Rattle.dex_types.specs.Fees.{taker_rate, maker_rate}
use Rattle.dex_types.specs.Market.{Market}
use Rattle.dex_types.specs.Meeting.{taken, demand_after}
use Rattle.dex_types.specs.Side.{price_of, sequence_of, id_of}
use Rattle.dex_types.specs.Trader.{Open, Holding, Trader, no_slots}
use Rattle.dex_sound.proofs.ExampleMarket.{label, amy, ben, ann, bob, coin, usd, listing, row, new, wallet, ann_coin, ann_usd, bob_coin, bob_usd, sees, nothing, base, answer, after, ask_sees, asked}

abbrev admin : Address
admin = label (codes "admin")

abbrev carl : Address
carl = label (codes "carl")

abbrev srm : Address
srm = label (codes "srm")

-- ann's account, with these slots and 1 of quote
abbrev of_ann : List (Option Holding) → Trader
of_ann slots = Open (record {
  person = ann;
  coin = record { free = 0; total = 0 };
  pc = record { free = 1; total = 1 };
  referrer = 0;
  slots = slots;
})

-- a bid of one lot at 50
abbrev bid_of : Address → Order
bid_of owner = record { id = id_of Bid 50 0; owner = owner; slot = 0; tier = 0; lots = 1; client = 1 }

-- a market with so much in both vaults, so many places for events, a bid of an owner, a next sequence number, and amy's
-- slots
abbrev market : ℕ → ℕ → Address → ℕ → List (Option Holding) → Market
market vaults places owner next slots = record base {
  listing = listing 100 455 places;
  bids = bid_of owner ∷ [];
  traders = (amy, of_ann slots) ∷ [];
  coin_vault = vaults;
  pc_vault = vaults;
  next_sequence = next;
}

abbrev all_slots : List (Option Holding)
all_slots = replicate 128 (Some (record { id = 1; side = Ask; client = 1 }))

-- an ask of these lots at 40 that aborts at own orders and is taken up to 5, with a base wallet and a discount wallet
abbrev asks : ℕ → ℤ → Address → List Address → Option WalletSeen → Option WalletSeen → Market → Reply
asks lots now signer named pays discount m =
    answer (record (row (NewOrderV3 Ask 40 lots 1 Abort Limit 1 10 (Some (pos 5))) signer named) { now = now })
    (record (sees pays None) { discount = discount; srm = Some srm }) m

abbrev carl_srm : Option WalletSeen
carl_srm = wallet (codes "carl_srm") srm carl 1

-- all reasons to refuse a new order, and one after the other taken away
abbrev too_late : ℕ → Address → List Address → Option WalletSeen → Option WalletSeen → Market → Reply
too_late lots signer named pays discount m = asks lots (pos 6) signer named pays discount m

abbrev bad_market : Market
bad_market = market (2 ^ 64) 0 amy (2 ^ 64 - 1) all_slots

order_reasons : (too_late (2 ^ 60) bob [] None None (record bad_market { is_disabled = true }) ≡ Refused refusal.MarketDisabled)
    × (too_late (2 ^ 60) bob [] None None bad_market ≡ Refused refusal.NoAccount)
    × (too_late (2 ^ 60) bob (ben ∷ amy ∷ []) (ann_coin 0) None bad_market ≡ Refused refusal.NoAccount)
    × (too_late (2 ^ 60) bob (amy ∷ []) None None bad_market ≡ Refused refusal.NoAccount)
    × (too_late (2 ^ 60) bob (amy ∷ []) (ann_usd 0) (bob_coin 0) bad_market ≡ Refused (refusal.NotOwner ann))
    × (too_late (2 ^ 60) ann (amy ∷ []) (bob_usd 0) (bob_coin 0) bad_market ≡ Refused (refusal.WrongMint usd))
    × (too_late (2 ^ 60) ann (amy ∷ []) (bob_coin 0) (bob_coin 0) bad_market ≡ Refused (refusal.WrongMint coin))
    × (too_late (2 ^ 60) ann (amy ∷ []) (bob_coin 0) carl_srm bad_market ≡ Refused (refusal.WalletNotSigned bob))
    × (too_late (2 ^ 60) ann (amy ∷ []) (ann_coin 0) carl_srm bad_market ≡ Refused (refusal.WalletNotSigned carl))
    × (too_late (2 ^ 60) ann (amy ∷ []) (ann_coin 0) None bad_market ≡ Refused refusal.TooManyOpenOrders)
    × (too_late (2 ^ 60) ann (amy ∷ []) (ann_coin 0) None (market (2 ^ 64) 0 amy (2 ^ 64 - 1) no_slots) ≡ Refused refusal.AskTooLarge)
    × (too_late 2 ann (amy ∷ []) (ann_coin 0) None (market (2 ^ 64) 0 amy (2 ^ 64 - 1) no_slots) ≡ Refused refusal.SequenceExhausted)
    × (too_late 2 ann (amy ∷ []) (ann_coin 0) None (market (2 ^ 64) 0 amy 7 no_slots) ≡ Refused (refusal.TimePast (pos 6) (pos 5)))
unfolding taken demand_after price_of sequence_of id_of taker_rate maker_rate
order_reasons = (refl, refl, refl, refl, refl, refl, refl, refl, refl, refl, refl, refl, refl)

abbrev in_time : Option WalletSeen → Market → Reply
in_time pays m = asks 2 (pos 5) ann (amy ∷ []) pays None m

later_order_reasons : (in_time (ann_coin 0) (market (2 ^ 64) 0 amy 7 no_slots) ≡ Refused (refusal.WouldSelfTrade (id_of Bid 50 0)))
    × (in_time (ann_coin 0) (market (2 ^ 64) 0 ben 7 no_slots) ≡ Refused (refusal.EventQueueFull 3 0))
    × (in_time (ann_coin 0) (market (2 ^ 64) 3 ben 7 no_slots) ≡ Refused (refusal.InsufficientFunds 200 0))
    × (in_time (ann_coin 200) (market (2 ^ 64) 3 ben 7 no_slots) ≡ Refused (refusal.SumTooLarge 18446744073709551816 0))
    × (in_time (ann_coin 200) (record (market (2 ^ 64) 3 ben 7 no_slots) { coin_vault = 0 }) ≡ Refused (refusal.SumTooLarge 18446744073709551616 500))
    × (in_time (ann_coin 200) (market 0 3 ben 7 no_slots) ≡ Ordered 0 (id_of Ask 40 7) 1 500 2 1)
unfolding taken demand_after price_of sequence_of id_of taker_rate maker_rate
later_order_reasons = (refl, refl, refl, refl, refl, refl)

-- a take of a side by these wallets that wants 2 lots for at least 1,000 of quote
abbrev takes : Side → ℕ → ℕ → Address → Option WalletSeen → Option WalletSeen → Option WalletSeen → Market → Reply
takes side lots least signer base_wallet quote_wallet discount m =
    answer (row (SendTake side 50 lots 600 least 1000 10) signer [])
    (record (sees base_wallet quote_wallet) { discount = discount; srm = Some srm }) m

abbrev full : Market
full = market (2 ^ 64) 0 ben 7 no_slots

abbrev sells : ℕ → Address → Option WalletSeen → Option WalletSeen → Option WalletSeen → Market → Reply
sells lots signer base_wallet quote_wallet discount m = takes Ask lots 2 signer base_wallet quote_wallet discount m

abbrev most : ℕ
most = 18446744073709551615

take_reasons : (sells (2 ^ 60) ann None None carl_srm (record full { is_disabled = true }) ≡ Refused refusal.MarketDisabled)
    × (sells (2 ^ 60) ann None (ann_coin 0) carl_srm full ≡ Refused refusal.NoAccount)
    × (sells (2 ^ 60) ann (bob_usd 0) None carl_srm full ≡ Refused refusal.NoAccount)
    × (sells (2 ^ 60) ann (bob_usd 0) (bob_coin 0) (bob_coin 0) full ≡ Refused (refusal.WrongMint usd))
    × (sells (2 ^ 60) ann (bob_coin 0) (bob_coin 0) (bob_usd 0) full ≡ Refused (refusal.WrongMint coin))
    × (sells (2 ^ 60) ann (bob_coin 0) (bob_usd most) (bob_usd 0) full ≡ Refused (refusal.WrongMint usd))
    × (sells (2 ^ 60) ann (bob_coin 0) (bob_usd most) carl_srm full ≡ Refused (refusal.WalletNotSigned bob))
    × (sells (2 ^ 60) ann (ann_coin 0) (bob_usd most) carl_srm full ≡ Refused (refusal.WalletNotSigned carl))
    × (sells (2 ^ 60) ann (ann_coin 0) (bob_usd most) None full ≡ Refused refusal.AskTooLarge)
    × (sells 2 ann (ann_coin 0) (bob_usd most) None full ≡ Refused (refusal.BelowMinimum 1))
    × (takes Ask 2 1 ann (ann_coin 0) (bob_usd most) None full ≡ Refused (refusal.BelowMinimum 498))
unfolding taken demand_after price_of sequence_of id_of taker_rate maker_rate
take_reasons = (refl, refl, refl, refl, refl, refl, refl, refl, refl, refl, refl)

-- a take of an ask with no least amount of quote
abbrev sells_any : ℕ → ℕ → Market → Reply
sells_any base_balance quote_balance m =
    answer (row (SendTake Ask 50 2 1 1 498 10) ann []) (sees (ann_coin base_balance) (bob_usd quote_balance)) m

later_take_reasons : (sells_any 0 most full ≡ Refused (refusal.EventQueueFull 2 0))
    × (sells_any 0 most (market (2 ^ 64) 2 ben 7 no_slots) ≡ Refused (refusal.InsufficientFunds 100 0))
    × (sells_any 100 most (market (2 ^ 64) 2 ben 7 no_slots) ≡ Refused (refusal.BalanceTooLarge most 498))
    × (sells_any 100 0 (market (2 ^ 64) 2 ben 7 no_slots) ≡ Refused (refusal.SumTooLarge 18446744073709551716 0))
    × (sells_any 100 0 (record (market (2 ^ 64) 2 ben 7 no_slots) { coin_vault = 0 }) ≡ Refused (refusal.SumTooLarge 18446744073709551118 500))
    × (sells_any 100 0 (market 500 2 ben 7 no_slots) ≡ Took 1 500 2)
unfolding taken demand_after price_of sequence_of id_of taker_rate maker_rate
later_take_reasons = (refl, refl, refl, refl, refl, refl)

-- opening, closing and disabling
upkeep_reasons : (answer (row InitOpenOrders ann (amy ∷ [])) nothing (record base { is_disabled = true }) ≡ Refused refusal.MarketDisabled)
    × (answer (row CloseOpenOrders bob (carl ∷ [])) nothing full ≡ Refused refusal.NoAccount)
    × (answer (row CloseOpenOrders bob (amy ∷ [])) nothing full ≡ Refused (refusal.NotOwner ann))
    × (answer (row CloseOpenOrders ann (amy ∷ [])) nothing full ≡ Refused (refusal.NotEmpty 0 1))
    × (answer (row CloseOpenOrders ann (amy ∷ [])) nothing bad_market ≡ Refused (refusal.NotEmpty 128 1))
    × (answer (row DisableMarket ann []) nothing base ≡ Refused (refusal.NotAuthority admin))
    × (answer (row DisableMarket admin []) nothing base ≡ Done)
unfolding taken demand_after price_of sequence_of id_of taker_rate maker_rate
upkeep_reasons = (refl, refl, refl, refl, refl, refl, refl)

-- cancels, where the queue has no place
abbrev stuck : Market
stuck = record asked.market { listing = listing 100 455 0 }

abbrev cancels : Side → ℕ → Address → List Address → Reply
cancels side id signer named = answer (row (CancelOrderV2 side id) signer named) nothing stuck

abbrev cancels_client : ℕ → Address → List Address → Reply
cancels_client client signer named = answer (row (CancelOrderByClientIdV2 client) signer named) nothing stuck

cancel_reasons : (cancels Ask 5 bob [] ≡ Refused refusal.NoAccount)
    × (cancels Ask 5 bob (amy ∷ []) ≡ Refused (refusal.NotOwner ann))
    × (cancels Ask 5 ann (amy ∷ []) ≡ Refused refusal.OrderNotFound)
    × (cancels Bid (id_of Ask 50 0) bob (ben ∷ []) ≡ Refused refusal.SideMismatch)
    × (cancels Ask (id_of Ask 50 0) bob (ben ∷ []) ≡ Refused (refusal.OrderNotYours amy))
    × (cancels Ask (id_of Ask 50 0) ann (amy ∷ []) ≡ Refused (refusal.EventQueueFull 1 0))
    × (cancels_client 0 bob (carl ∷ []) ≡ Refused refusal.NoAccount)
    × (cancels_client 0 bob (amy ∷ []) ≡ Refused (refusal.NotOwner ann))
    × (cancels_client 7 bob (ben ∷ []) ≡ Refused refusal.ClientIdNotFound)
    × (cancels_client 7 ann (amy ∷ []) ≡ Refused (refusal.EventQueueFull 1 0))
    × (answer (row (Prune 0) ann []) nothing stuck ≡ Refused refusal.NoAccount)
    × (answer (row (Prune 1) ann (amy ∷ [])) nothing stuck ≡ Refused (refusal.NotAuthority admin))
    × (answer (row (Prune 1) admin (amy ∷ [])) nothing stuck ≡ Refused (refusal.EventQueueFull 1 0))
    × (answer (row (Prune 0) admin (amy ∷ [])) nothing stuck ≡ Cancelled 0)
unfolding taken demand_after price_of sequence_of id_of taker_rate maker_rate
cancel_reasons = (refl, refl, refl, refl, refl, refl, refl, refl, refl, refl, refl, refl, refl, refl)

-- an order of the client id 0 rests, and is not cancelled by it
zero_is_no_client : answer (row (CancelOrderByClientIdV2 0) ann (amy ∷ [])) nothing (after (row (new Ask 50 1 1 Decrement Limit 0 10) ann (amy ∷ [])) (ask_sees 1000) base)
    ≡ Refused refusal.ClientIdZero
unfolding taken demand_after price_of sequence_of id_of taker_rate maker_rate
zero_is_no_client = refl

-- amy's account has 1 of each to settle, and the market 1 of fees
abbrev settles : Address → List Address → Option WalletSeen → Option WalletSeen → Option WalletSeen → Reply
settles signer named base_wallet quote_wallet referrer =
    answer (row SettleFunds signer named) (record (sees base_wallet quote_wallet) { referrer = referrer })
    (record base {
      traders = (amy, Open (record { person = ann; coin = record { free = 1; total = 1 }; pc = record { free = 1; total = 1 }; referrer = 1; slots = no_slots })) ∷ [];
      coin_vault = 1;
      pc_vault = 2;
      referrer_rebates = 1;
    })

abbrev other : Option WalletSeen
other = wallet (codes "other") srm bob most

settle_reasons : (settles bob (ben ∷ []) (ann_coin most) (ann_usd most) (ann_usd most) ≡ Refused refusal.NoAccount)
    × (settles bob (amy ∷ []) (ann_usd most) None (ann_coin most) ≡ Refused refusal.NoAccount)
    × (settles bob (amy ∷ []) None (ann_coin most) (ann_coin most) ≡ Refused refusal.NoAccount)
    × (settles bob (amy ∷ []) (ann_usd most) (ann_coin most) other ≡ Refused (refusal.NotOwner ann))
    × (settles ann (amy ∷ []) (ann_usd most) (ann_coin most) other ≡ Refused (refusal.WrongMint usd))
    × (settles ann (amy ∷ []) (ann_coin most) (bob_coin most) other ≡ Refused (refusal.WrongMint coin))
    × (settles ann (amy ∷ []) (ann_coin most) (ann_usd 2) other ≡ Refused (refusal.WrongMint srm))
    × (settles ann (amy ∷ []) (ann_coin most) (ann_usd 18446744073709551614) (bob_usd most) ≡ Refused (refusal.BalanceTooLarge most 1))
    × (settles ann (amy ∷ []) (ann_coin 0) (ann_usd 18446744073709551614) (ann_usd 18446744073709551614) ≡ Refused (refusal.BalanceTooLarge 18446744073709551614 2))
    × (settles ann (amy ∷ []) (ann_coin 0) (ann_usd 18446744073709551614) (bob_usd most) ≡ Refused (refusal.BalanceTooLarge most 1))
    × (settles ann (amy ∷ []) (ann_coin 0) (ann_usd 18446744073709551614) (bob_usd 0) ≡ Settled 1 1 1)
unfolding taken demand_after price_of sequence_of id_of taker_rate maker_rate
settle_reasons = (refl, refl, refl, refl, refl, refl, refl, refl, refl, refl, refl)

-- sweeping
abbrev sweeps : Address → Option WalletSeen → Reply
sweeps signer quote_wallet = answer (row SweepFees signer []) (sees None quote_wallet) (record base { pc_fees = 1; pc_vault = 1 })

sweep_reasons : (sweeps ann None ≡ Refused refusal.NoAccount)
    × (sweeps ann (ann_coin most) ≡ Refused (refusal.NotAuthority admin))
    × (sweeps admin (ann_coin most) ≡ Refused (refusal.WrongMint coin))
    × (sweeps admin (ann_usd most) ≡ Refused (refusal.BalanceTooLarge most 1))
unfolding taken demand_after price_of sequence_of id_of taker_rate maker_rate
sweep_reasons = (refl, refl, refl, refl)
