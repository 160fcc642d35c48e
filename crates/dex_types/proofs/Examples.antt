-- worked examples of new orders, by computation
use Rattle.std.proofs.Common.{◌≡◌, ℕ, List, [], ◌∷◌, Option, Some, None, true, false, refl, map, codes, pos}
use Rattle.dex_types.specs.declared.addresses.Address.{Address}
use Rattle.dex_types.specs.declared.orders.Order.{Order}
use Rattle.dex_types.specs.declared.replies.Reply.{Reply}
use Rattle.dex_types.specs.declared.replies.Reply.TheVariants.{Ordered}
use Rattle.dex_types.specs.declared.terms.OrderType.{OrderType}
use Rattle.dex_types.specs.declared.terms.OrderType.TheVariants.{Limit, Ioc, PostOnly}
use Rattle.dex_types.specs.declared.terms.Program.TheVariants.{Serum, OpenBook}
use Rattle.dex_types.specs.declared.terms.SelfTrade.{SelfTrade}
use Rattle.dex_types.specs.declared.terms.SelfTrade.TheVariants.{Decrement, CancelProvide, Abort}
use Rattle.dex_types.specs.declared.terms.Side.{Side}
use Rattle.dex_types.specs.declared.terms.Side.TheVariants.{Bid, Ask}
use Rattle.dex_types.specs.declared.terms.Tier.TheVariants.{Base, Srm2, Srm3, Srm4, Srm5, Srm6, Msrm}
use Rattle.dex_types.specs.Fees.{tier_number, tier_reached, taker_rate, maker_rate, taker_fee}
use Rattle.dex_types.specs.Market.{Market, Listing}
use Rattle.dex_types.specs.Meeting.{taken, demand_after}
use Rattle.dex_types.specs.NewOrder.{NewOrder, order_on, after_order, order_reply}
use Rattle.dex_types.specs.QueuedEvent.{QueuedEvent, EventKind, MakerFill, TakerFill, PlainOut, ReleasingOut, flags_of, kind_of, encoded_event}
use Rattle.dex_types.specs.Side.{price_of, sequence_of, id_of}
use Rattle.dex_types.specs.Trader.{Trader, Open, no_slots, trader_at}

abbrev label : List ℕ → Address
label name = record { 0 = name }

abbrev amy : Address
amy = label (codes "amy")

abbrev ben : Address
ben = label (codes "ben")

abbrev listing : ℕ → ℕ → ℕ → Listing
listing bids asks coin_lot = record {
  address = label (codes "m");
  authority = label (codes "admin");
  coin_mint = label (codes "coin");
  pc_mint = label (codes "usd");
  sizes = record { coin = coin_lot; pc = 10 };
  coin_vault = label [];
  pc_vault = label [];
  coin_vault_owner = label [];
  pc_vault_owner = label [];
  request_queue = label [];
  event_queue = label [];
  bids = label [];
  asks = label [];
  vault_signer_nonce = 0;
  pc_dust_threshold = 1;
  fee_rate_bps = 0;
  bid_capacity = bids;
  ask_capacity = asks;
  event_capacity = 2978;
}

abbrev opened : Address → Trader
opened person = Open (record {
  person = person;
  coin = record { free = 0; total = 0 };
  pc = record { free = 0; total = 0 };
  referrer = 0;
  slots = no_slots;
})

abbrev market : ℕ → ℕ → Market
market bids asks = record {
  listing = listing bids asks 100;
  bids = [];
  asks = [];
  events = [];
  traders = (amy, opened (label (codes "ann"))) ∷ (ben, opened (label (codes "bob"))) ∷ [];
  coin_vault = 0;
  pc_vault = 0;
  coin_fees = 0;
  pc_fees = 0;
  referrer_rebates = 0;
  next_sequence = 0;
  events_appended = 0;
  is_disabled = false;
}

-- a new order in the base tier
abbrev order : Address → ℕ → ℕ → ℕ → SelfTrade → OrderType → ℕ → ℕ → NewOrder
order owner price lots max_pc self_trade order_type client matches = record {
  program = Serum;
  tier = Base;
  owner = owner;
  price = price;
  lots = lots;
  max_pc = max_pc;
  self_trade = self_trade;
  order_type = order_type;
  client = client;
  matches = matches;
  now = pos 0;
  latest = None;
}

-- a market, the last reply and how much the last order deposited
record Told : Type 0 where
  reply : Option Reply
  deposit : ℕ
  events : List QueuedEvent
  after : Market

abbrev act : Side → NewOrder → Market → Option Trader → Told
act side n m (Some (Open account)) =
    record {
      reply = Some (order_reply n (order_on side m account n));
      deposit = (order_on side m account n).deposit;
      events = (order_on side m account n).events;
      after = after_order side account n (order_on side m account n) m;
    }
act side n m _ = record { reply = None; deposit = 0; events = []; after = m }

abbrev new : Side → NewOrder → Market → Told
new side n m = act side n m (trader_at n.owner m.traders)

abbrev flags : Told → List ℕ
flags told = map (λ e. (encoded_event e).flags) told.events

-- of each event its flags and its three amounts
record Amounts : Type 0 where
  flags : ℕ
  released : ℕ
  paid : ℕ
  fee_or_rebate : ℕ

abbrev event : ℕ → ℕ → ℕ → ℕ → Amounts
event flags released paid fee_or_rebate = record { flags = flags; released = released; paid = paid; fee_or_rebate = fee_or_rebate }

abbrev events : Told → List Amounts
events told = map (λ e. event (encoded_event e).flags e.released e.paid e.fee_or_rebate) told.events

-- a trader's free base, its total, free quote and its total
abbrev funds_in : Option Trader → List ℕ
funds_in (Some (Open account)) = account.coin.free ∷ account.coin.total ∷ account.pc.free ∷ account.pc.total ∷ []
funds_in _ = []

abbrev funds : Address → Told → List ℕ
funds owner told = funds_in (trader_at owner told.after.traders)

-- ids and lots
abbrev resting : List Order → List (List ℕ)
resting orders = map (λ (o : Order). o.id ∷ o.lots ∷ []) orders

-- amy asks four lots at 50, which rest
abbrev asks : Told
asks = new Ask (order amy 50 4 1 Decrement Limit 7 10) (market 455 455)

asks_reply : asks.reply ≡ Some (Ordered 0 922337203685477580800 0 0 0 4)
unfolding taken demand_after price_of sequence_of id_of taker_rate maker_rate
asks_reply = refl

asks_deposits : (asks.deposit ≡ 400) × (asks.after.coin_vault ≡ 400) × (funds amy asks ≡ 0 ∷ 400 ∷ 0 ∷ 0 ∷ [])
unfolding taken demand_after price_of sequence_of id_of taker_rate maker_rate
asks_deposits = (refl, refl, refl)

asks_events : asks.events ≡ []
unfolding taken demand_after price_of sequence_of id_of taker_rate maker_rate
asks_events = refl

-- ben buys three of them, immediate or cancel
abbrev buys : Told
buys = new Bid (order ben 60 3 2000 Decrement Ioc 8 10) asks.after

buys_reply : buys.reply ≡ Some (Ordered 0 1125251388496282648574 3 1500 4 0)
unfolding taken demand_after price_of sequence_of id_of taker_rate maker_rate
buys_reply = refl

buys_events : events buys ≡ event 9 1500 300 0 ∷ event 5 300 1504 4 ∷ event 6 0 0 0 ∷ []
unfolding taken demand_after price_of sequence_of id_of taker_rate maker_rate
buys_events = refl

buys_funds : (buys.deposit ≡ 2000) × (buys.after.pc_vault ≡ 2000) × (buys.after.pc_fees ≡ 4) × (funds ben buys ≡ 300 ∷ 300 ∷ 496 ∷ 496 ∷ [])
unfolding taken demand_after price_of sequence_of id_of taker_rate maker_rate
buys_funds = (refl, refl, refl, refl)

buys_leaves : resting buys.after.asks ≡ (922337203685477580800 ∷ 1 ∷ []) ∷ []
unfolding taken demand_after price_of sequence_of id_of taker_rate maker_rate
buys_leaves = refl

-- of two bids at one price the older one is met
abbrev older : Told
older = new Bid (order amy 40 1 1000 Decrement Limit 1 10) (market 455 455)

abbrev newer : Told
newer = new Bid (order amy 40 1 1000 Decrement Limit 1 10) older.after

bids_rest : resting newer.after.bids ≡ (756316507022091616255 ∷ 1 ∷ []) ∷ (756316507022091616254 ∷ 1 ∷ []) ∷ []
unfolding taken demand_after price_of sequence_of id_of taker_rate maker_rate
bids_rest = refl

sells_to_the_older : resting (new Ask (order ben 40 1 1 Decrement Ioc 2 10) newer.after).after.bids ≡ (756316507022091616254 ∷ 1 ∷ []) ∷ []
unfolding taken demand_after price_of sequence_of id_of taker_rate maker_rate
sells_to_the_older = refl

-- a bid that cannot pay one lot does not rest, and all of its lock is free
abbrev too_poor : Told
too_poor = new Bid (order ben 60 1 599 Decrement Limit 8 10) (market 455 455)

too_poor_frees : (events too_poor ≡ event 6 0 0 0 ∷ []) × (resting too_poor.after.bids ≡ []) × (funds ben too_poor ≡ 0 ∷ 0 ∷ 599 ∷ 599 ∷ [])
unfolding taken demand_after price_of sequence_of id_of taker_rate maker_rate
too_poor_frees = (refl, refl, refl)

-- a bid that pays one lot, but not its fee, neither fills nor rests while the ask still crosses
abbrev short_of_the_fee : Told
short_of_the_fee = new Bid (order ben 60 1 600 Decrement Limit 8 10) (new Ask (order amy 60 1 1 Decrement Limit 7 10) (market 455 455)).after

short_of_the_fee_frees : (events short_of_the_fee ≡ event 6 0 0 0 ∷ []) × (resting short_of_the_fee.after.bids ≡ []) × (funds ben short_of_the_fee ≡ 0 ∷ 0 ∷ 600 ∷ 600 ∷ [])
unfolding taken demand_after price_of sequence_of id_of taker_rate maker_rate
short_of_the_fee_frees = (refl, refl, refl)

-- a post-only bid that crosses fills nothing and does not rest
abbrev post_only : Told
post_only = new Bid (order ben 55 1 1000 Decrement PostOnly 8 10) asks.after

post_only_fills_nothing : (post_only.reply ≡ Some (Ordered 0 (id_of Bid 55 1) 0 0 0 0)) × (events post_only ≡ event 6 0 0 0 ∷ []) × (funds ben post_only ≡ 0 ∷ 0 ∷ 1000 ∷ 1000 ∷ [])
unfolding taken demand_after price_of sequence_of id_of taker_rate maker_rate
post_only_fills_nothing = (refl, refl, refl)

-- the match limit ends the meeting, and what still crosses keeps the rest from resting
abbrev two_asks : Told
two_asks = new Ask (order amy 51 1 1 Decrement Limit 2 10) (new Ask (order amy 50 1 1 Decrement Limit 1 10) (market 455 455)).after

abbrev meets_one : Told
meets_one = new Bid (order ben 55 2 5000 Decrement Limit 8 1) two_asks.after

meets_one_only : (meets_one.reply ≡ Some (Ordered 0 (id_of Bid 55 2) 1 500 2 0)) × (funds ben meets_one ≡ 100 ∷ 100 ∷ 4498 ∷ 4498 ∷ [])
unfolding taken demand_after price_of sequence_of id_of taker_rate maker_rate
meets_one_only = (refl, refl)

meets_one_events : events meets_one ≡ event 9 500 100 0 ∷ event 2 0 0 0 ∷ event 5 100 502 2 ∷ event 6 0 0 0 ∷ []
unfolding taken demand_after price_of sequence_of id_of taker_rate maker_rate
meets_one_events = refl

-- a trader's own orders, by each self-trade rule
abbrev own : SelfTrade → Told
own rule = new Bid (order amy 50 2 2000 rule Limit 9 10) (new Ask (order amy 50 5 1 Decrement Limit 1 10) (market 455 455)).after

own_decrement : (events (own Decrement) ≡ event 18 200 300 0 ∷ event 6 0 0 0 ∷ []) × (resting (own Decrement).after.asks ≡ (922337203685477580800 ∷ 3 ∷ []) ∷ []) × (resting (own Decrement).after.bids ≡ []) × (funds amy (own Decrement) ≡ 0 ∷ 500 ∷ 2000 ∷ 2000 ∷ [])
unfolding taken demand_after price_of sequence_of id_of taker_rate maker_rate
own_decrement = (refl, refl, refl, refl)

own_cancel : (events (own CancelProvide) ≡ event 18 500 0 0 ∷ []) × (resting (own CancelProvide).after.asks ≡ []) × (resting (own CancelProvide).after.bids ≡ (id_of Bid 50 1 ∷ 2 ∷ []) ∷ []) × (funds amy (own CancelProvide) ≡ 0 ∷ 500 ∷ 1000 ∷ 2000 ∷ [])
unfolding taken demand_after price_of sequence_of id_of taker_rate maker_rate
own_cancel = (refl, refl, refl, refl)

abbrev aborts_at_order : Market → Option Trader → Option ℕ
aborts_at_order m (Some (Open account)) = (order_on Bid m account (order amy 50 2 2000 Abort Limit 9 10)).met.aborts
aborts_at_order m _ = None

own_abort : (λ (m : Market). aborts_at_order m (trader_at amy m.traders)) (new Ask (order amy 50 5 1 Decrement Limit 1 10) (market 455 455)).after
    ≡ Some 922337203685477580800
unfolding taken demand_after price_of sequence_of id_of taker_rate maker_rate
own_abort = refl

-- on a full side the last bid leaves for a new one, which may be worse
abbrev full : Told
full = new Bid (order ben 40 1 1000 Decrement Limit 2 10) (new Bid (order ben 50 1 1000 Decrement Limit 1 10) (market 2 2)).after

abbrev boots : Told
boots = new Bid (order ben 30 1 1000 Decrement Limit 3 10) full.after

boots_the_last : (events boots ≡ event 22 400 0 0 ∷ []) × (resting boots.after.bids ≡ (id_of Bid 50 0 ∷ 1 ∷ []) ∷ (id_of Bid 30 2 ∷ 1 ∷ []) ∷ [])
unfolding taken demand_after price_of sequence_of id_of taker_rate maker_rate
boots_the_last = (refl, refl)

-- all of a large ask: the fee, the maker's rebate, the referrer's part and what is left for the market
abbrev asks_200 : Told
asks_200 = new Ask (order amy 100 200 1 Decrement Limit 7 10) (market 455 455)

abbrev buys_200 : ℕ → Told
buys_200 max_pc = new Bid (order ben 100 200 max_pc Decrement Limit 8 10) asks_200.after

buys_200_reply : (buys_200 200440).reply ≡ Some (Ordered 0 1863121151444664713214 200 200000 440 0)
unfolding taken demand_after price_of sequence_of id_of taker_rate maker_rate
buys_200_reply = refl

buys_200_fees : ((buys_200 200440).after.pc_fees ≡ 292) × ((buys_200 200440).after.referrer_rebates ≡ 88) × (events (buys_200 200440) ≡ event 9 200060 20000 60 ∷ event 2 0 0 0 ∷ event 5 20000 200440 440 ∷ event 6 0 0 0 ∷ [])
unfolding taken demand_after price_of sequence_of id_of taker_rate maker_rate
buys_200_fees = (refl, refl, refl)

-- with one less to spend, one lot less fills
buys_199 : ((buys_200 200439).reply ≡ Some (Ordered 0 1863121151444664713214 199 199000 438 0)) × ((buys_200 200439).after.pc_fees ≡ 292) × ((buys_200 200439).after.referrer_rebates ≡ 87) × (funds ben (buys_200 200439) ≡ 19900 ∷ 19900 ∷ 1001 ∷ 1001 ∷ [])
unfolding taken demand_after price_of sequence_of id_of taker_rate maker_rate
buys_199 = (refl, refl, refl, refl)

-- two fills of one budget, the second cut short by it
abbrev two_fills : Told
two_fills = new Bid (order ben 60 4 1520 Decrement Ioc 8 10)
    (new Ask (order amy 51 2 1 Decrement Limit 2 10) (new Ask (order amy 50 2 1 Decrement Limit 1 10) (market 455 455)).after).after

two_fills_events : (two_fills.reply ≡ Some (Ordered 0 (id_of Bid 60 2) 3 1510 4 0)) × (events two_fills ≡ event 9 1000 200 0 ∷ event 2 0 0 0 ∷ event 9 510 100 0 ∷ event 5 300 1514 4 ∷ event 6 0 0 0 ∷ [])
unfolding taken demand_after price_of sequence_of id_of taker_rate maker_rate
two_fills_events = (refl, refl)

two_fills_leave : (resting two_fills.after.asks ≡ (id_of Ask 51 1 ∷ 1 ∷ []) ∷ []) × (funds ben two_fills ≡ 300 ∷ 300 ∷ 6 ∷ 6 ∷ [])
unfolding taken demand_after price_of sequence_of id_of taker_rate maker_rate
two_fills_leave = (refl, refl)

-- an ask that fills against a bid of the highest tier
abbrev best_maker : NewOrder
best_maker = record (order amy 100 20 30000 Decrement Limit 1 10) { tier = Msrm }

abbrev sells_to_msrm : Told
sells_to_msrm = new Ask (order ben 90 15 1 Decrement Limit 2 10) (new Bid best_maker (market 455 455)).after

sells_to_msrm_events : (sells_to_msrm.reply ≡ Some (Ordered 0 (id_of Ask 90 1) 15 15000 33 0)) × (events sells_to_msrm ≡ event 13 1500 14993 7 ∷ event 1 14967 1500 33 ∷ event 2 0 0 0 ∷ [])
unfolding taken demand_after price_of sequence_of id_of taker_rate maker_rate
sells_to_msrm_events = (refl, refl)

sells_to_msrm_pays : (sells_to_msrm.after.pc_fees ≡ 20) × (sells_to_msrm.after.referrer_rebates ≡ 6) × (funds ben sells_to_msrm ≡ 0 ∷ 0 ∷ 14967 ∷ 14967 ∷ [])
unfolding taken demand_after price_of sequence_of id_of taker_rate maker_rate
sells_to_msrm_pays = (refl, refl, refl)

-- what is free is locked first, and only the rest is deposited
abbrev uses_free : Told
uses_free = new Bid (order ben 50 1 700 Decrement Limit 2 10) too_poor.after

uses_free_first : (uses_free.reply ≡ Some (Ordered 1 (id_of Bid 50 1) 0 0 0 1)) × (uses_free.deposit ≡ 101) × (funds ben uses_free ≡ 0 ∷ 0 ∷ 200 ∷ 700 ∷ [])
unfolding taken demand_after price_of sequence_of id_of taker_rate maker_rate
uses_free_first = (refl, refl, refl)

-- a bid that fills partly, and rests with what is left of its lock
abbrev rests_after : Told
rests_after = new Bid (order ben 50 5 2000 Decrement Limit 8 10) (new Ask (order amy 50 2 1 Decrement Limit 1 10) (market 455 455)).after

rests_after_a_fill : (rests_after.reply ≡ Some (Ordered 0 (id_of Bid 50 1) 2 1000 3 1)) × (events rests_after ≡ event 9 1000 200 0 ∷ event 2 0 0 0 ∷ event 5 200 1003 3 ∷ []) × (funds ben rests_after ≡ 200 ∷ 200 ∷ 497 ∷ 997 ∷ [])
unfolding taken demand_after price_of sequence_of id_of taker_rate maker_rate
rests_after_a_fill = (refl, refl, refl)

-- immediate or cancel never rests
abbrev ioc_alone : Told
ioc_alone = new Bid (order ben 40 1 1000 Decrement Ioc 1 10) (market 455 455)

ioc_never_rests : (events ioc_alone ≡ event 6 0 0 0 ∷ []) × (resting ioc_alone.after.bids ≡ []) × (funds ben ioc_alone ≡ 0 ∷ 0 ∷ 1000 ∷ 1000 ∷ [])
unfolding taken demand_after price_of sequence_of id_of taker_rate maker_rate
ioc_never_rests = (refl, refl, refl)

-- an own order in front of another trader's
abbrev own_first : ℕ → Told
own_first matches = new Bid (order ben 55 4 5000 Decrement Limit 8 matches)
    (new Ask (order amy 51 1 1 Decrement Limit 2 10) (new Ask (order ben 50 2 1 Decrement Limit 1 10) (market 455 455)).after).after

own_first_decrements : ((own_first 10).reply ≡ Some (Ordered 1 (id_of Bid 55 2) 1 510 2 1)) × (events (own_first 10) ≡ event 18 200 0 0 ∷ event 9 510 100 0 ∷ event 2 0 0 0 ∷ event 5 100 512 2 ∷ []) × (funds ben (own_first 10) ≡ 100 ∷ 300 ∷ 3938 ∷ 4488 ∷ [])
unfolding taken demand_after price_of sequence_of id_of taker_rate maker_rate
own_first_decrements = (refl, refl, refl)

own_first_uses_a_match : (events (own_first 1) ≡ event 18 200 0 0 ∷ event 6 0 0 0 ∷ []) × (resting (own_first 1).after.asks ≡ (id_of Ask 51 1 ∷ 1 ∷ []) ∷ [])
unfolding taken demand_after price_of sequence_of id_of taker_rate maker_rate
own_first_uses_a_match = (refl, refl)

-- an own order after another trader's is not met once the lots are used up
abbrev own_second : Market
own_second = (new Ask (order amy 51 1 1 Decrement Limit 2 10) (new Ask (order ben 50 1 1 Decrement Limit 1 10) (market 455 455)).after).after

own_second_stays : (λ (t : Told). (events t ≡ event 9 500 100 0 ∷ event 2 0 0 0 ∷ event 5 100 502 2 ∷ event 6 0 0 0 ∷ []) × (resting t.after.asks ≡ (id_of Ask 51 1 ∷ 1 ∷ []) ∷ [])) (new Bid (order amy 55 1 5000 CancelProvide Limit 8 10) own_second)
unfolding taken demand_after price_of sequence_of id_of taker_rate maker_rate
own_second_stays = (refl, refl)

abbrev aborts : ℕ → ℕ → Option Trader → Option ℕ
aborts lots matches (Some (Open account)) = (order_on Bid own_second account (order amy 55 lots 5000 Abort Limit 8 matches)).met.aborts
aborts lots matches _ = None

own_second_aborts : (aborts 2 10 (trader_at amy own_second.traders) ≡ Some (id_of Ask 51 1)) × (aborts 2 1 (trader_at amy own_second.traders) ≡ None)
unfolding taken demand_after price_of sequence_of id_of taker_rate maker_rate
own_second_aborts = (refl, refl)

-- the budget does not bound what an own order loses
abbrev own_beyond_budget : Told
own_beyond_budget = new Bid (order amy 50 4 1 Decrement Limit 9 10) (new Ask (order amy 50 5 1 Decrement Limit 1 10) (market 455 455)).after

own_beyond_budget_decrements : (events own_beyond_budget ≡ event 18 400 100 0 ∷ event 6 0 0 0 ∷ []) × (resting own_beyond_budget.after.asks ≡ (id_of Ask 50 0 ∷ 1 ∷ []) ∷ [])
unfolding taken demand_after price_of sequence_of id_of taker_rate maker_rate
own_beyond_budget_decrements = (refl, refl)

-- the tiers and the second program
tiers : (taker_fee Serum Base 1500 ≡ 4) × (taker_fee Serum Srm2 1500 ≡ 3) × (taker_fee Serum Msrm 1500 ≡ 2) × (taker_fee OpenBook Base 1500 ≡ 1)
unfolding taken demand_after price_of sequence_of id_of taker_rate maker_rate
tiers = (refl, refl, refl, refl)

-- each threshold of the discount tiers, and one below
abbrev reached : List ℕ → List ℕ
reached balances = map (λ balance. tier_number (tier_reached false balance)) balances

thresholds : reached (99999999 ∷ 100000000 ∷ 999999999 ∷ 1000000000 ∷ 9999999999 ∷ 10000000000 ∷ 99999999999 ∷ 100000000000 ∷ 999999999999 ∷ 1000000000000 ∷ [])
    ≡ 0 ∷ 1 ∷ 1 ∷ 2 ∷ 2 ∷ 3 ∷ 3 ∷ 4 ∷ 4 ∷ 5 ∷ []
thresholds = refl

msrm_thresholds : map (λ balance. tier_number (tier_reached true balance)) (0 ∷ 1 ∷ []) ≡ 0 ∷ 6 ∷ []
msrm_thresholds = refl

rates : map (taker_rate Serum) (Base ∷ Srm2 ∷ Srm3 ∷ Srm4 ∷ Srm5 ∷ Srm6 ∷ Msrm ∷ []) ≡ 22 ∷ 20 ∷ 18 ∷ 16 ∷ 14 ∷ 12 ∷ 10 ∷ []
unfolding taker_rate
rates = refl

maker_rates : (map (maker_rate Serum) (Base ∷ Srm2 ∷ Srm3 ∷ Srm4 ∷ Srm5 ∷ Srm6 ∷ Msrm ∷ []) ≡ 3 ∷ 3 ∷ 3 ∷ 3 ∷ 3 ∷ 3 ∷ 5 ∷ [])
    × (map (maker_rate OpenBook) (Base ∷ Msrm ∷ []) ≡ 2 ∷ 2 ∷ [])
unfolding maker_rate
maker_rates = (refl, refl)

-- a kind is told by its flags
kind_of-flags_of : (kind : EventKind) → kind_of (flags_of kind) ≡ kind
kind_of-flags_of (MakerFill Ask) = refl
kind_of-flags_of (MakerFill Bid) = refl
kind_of-flags_of (TakerFill Ask) = refl
kind_of-flags_of (TakerFill Bid) = refl
kind_of-flags_of (PlainOut Ask) = refl
kind_of-flags_of (PlainOut Bid) = refl
kind_of-flags_of (ReleasingOut Ask) = refl
kind_of-flags_of (ReleasingOut Bid) = refl
