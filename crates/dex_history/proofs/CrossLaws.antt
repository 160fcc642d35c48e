-- no bid comes to cross an ask: sides only lose orders and lots, but for an order that crosses nothing where it comes
-- to rest
use Rattle.std.proofs.Common.{ℕ, ◌-◌, ◌<◌, ◌≡◌, ◌^◌, ◌⊎◌, inl, inr, ⊎_elim, true, false, eqb, List, [], ◌∷◌, Option, Some, None, Result, Ok, Err, is_some, take, refl, sym, ap, subst}
use Rattle.std.specs.List.{All}
use Rattle.std.proofs.lemmas.Bool.{leb-false, cond_both}
use Rattle.std.proofs.lemmas.List.Elements.{All-nil, All-cons, All-weaker}
use Rattle.dex_types.specs.declared.addresses.Address.{Address}
use Rattle.dex_types.specs.declared.instructions.BadData.{BadData}
use Rattle.dex_types.specs.declared.instructions.Ix.{Ix}
use Rattle.dex_types.specs.declared.instructions.Ix.TheVariants.{InitializeMarket, MatchOrders, ConsumeEvents, SettleFunds, DisableMarket, SweepFees, NewOrderV3, CancelOrderV2, CancelOrderByClientIdV2, SendTake, CloseOpenOrders, InitOpenOrders, Prune, CancelOrdersByClientIds}
use Rattle.dex_types.specs.declared.orders.Order.{Order}
use Rattle.dex_types.specs.declared.refusals.Refusal.{Refusal}
use Rattle.dex_types.specs.declared.rows.Seen.{Seen}
use Rattle.dex_types.specs.declared.terms.Side.{Side}
use Rattle.dex_types.specs.declared.terms.Side.TheVariants.{Bid, Ask}
use Rattle.dex_types.specs.Cancel.{RestingOrder, CancelBy, ById, ByClient, ByClients, First, order_with, without_order, cancelled, cancel_one, after_cancels}
use Rattle.dex_types.specs.Market.{Market, orders, capacity}
use Rattle.dex_types.specs.Meeting.{Meeting}
use Rattle.dex_types.specs.NewOrder.{NewOrder, Ordering, order_on, terms_of, demand_of}
use Rattle.dex_types.specs.Posting.{InBookOrder}
use Rattle.dex_types.specs.Requests.{Request, Party, party_of}
use Rattle.dex_types.specs.Side.{price_of, opposite, crosses, by_side}
use Rattle.dex_types.specs.Soundness.{IsSound}
use Rattle.dex_types.specs.Steps.{Step, step, by_party, act_order, act_take, act_cancel, act_settle, act_init, act_close, act, act_decoded, unless_refused}
use Rattle.dex_types.specs.Take.{Take, take_terms, take_demand, take_meeting}
use Rattle.dex_types.specs.Terms.{terms_order, terms_take}
use Rattle.dex_types.specs.Trader.{Account}
use Rattle.dex_types.specs.Why.{why}
use Rattle.dex_laws.proofs.BookLaws.{none-crosses, rested-clear, All-post}
use Rattle.dex_laws.proofs.IdLaws.{price_of-id_of}
use Rattle.dex_laws.proofs.LeftLaws.{meet-left, All-left, InBookOrder-left}
use Rattle.dex_sound.proofs.WithoutLaws.{All-without, order_with-first}
use Rattle.dex_history.specs.Crossing.{NoneCrosses, IsAmong, NoneNewCrosses}
use Rattle.dex_history.specs.Journal.{Asked, Call, IsLegal, acted_of, asked_step, step_of, market_after}
use Rattle.dex_history.proofs.HeldLaws.{acted-priced}
use Rattle.dex_history.proofs.PriceLaws.{asked-sound}

-- a bid and an ask of these ids do not cross, or may
abbrev Apart : (ℕ → ℕ → Type 0) → ℕ → ℕ → Type 0
Apart May bid ask = (price_of bid < price_of ask) ⊎ May bid ask

-- an order of a side and one of the opposite side
abbrev ApartOn : (ℕ → ℕ → Type 0) → Side → ℕ → ℕ → Type 0
ApartOn May Bid own other = Apart May own other
ApartOn May Ask own other = Apart May other own

-- all bids and all asks
abbrev pub AreApart : (ℕ → ℕ → Type 0) → List Order → List Order → Type 0
AreApart May bids asks = All (λ (bid : Order). All (λ (ask : Order). Apart May bid.id ask.id) asks) bids

-- all orders of a side and all of the opposite side
abbrev AreApartOn : (ℕ → ℕ → Type 0) → Side → List Order → List Order → Type 0
AreApartOn May side own opposing = All (λ (order : Order). All (λ (other : Order). ApartOn May side order.id other.id) opposing) own

-- of a market
abbrev pub IsApart : (ℕ → ℕ → Type 0) → Market → Type 0
IsApart May m = AreApart May m.bids m.asks

-- an order that does not cross another is apart from it
clear-apart : (May : ℕ → ℕ → Type 0) (side : Side) (own other : ℕ) → crosses side (price_of own) (price_of other) ≡ false → ApartOn May side own other
clear-apart May Bid own other clear = inl (leb-false _ _ clear)
clear-apart May Ask own other clear = inl (leb-false _ _ clear)

-- seen from the asks
from-asks : (May : ℕ → ℕ → Type 0) (bids asks : List Order) → AreApart May bids asks → AreApartOn May Ask asks bids
from-asks May bids asks apart = λ j ask offered. λ i bid standing. apart i bid standing j ask offered

to-asks : (May : ℕ → ℕ → Type 0) (bids asks : List Order) → AreApartOn May Ask asks bids → AreApart May bids asks
to-asks May bids asks apart = λ i bid standing. λ j ask offered. apart j ask offered i bid standing

-- what is left of the opposite side is apart from each order that the whole of it is apart from
left-apart : (May : ℕ → ℕ → Type 0) (side : Side) (own left opposing : List Order) → ((P : Order → Type 0)
    → ((other : Order) (lots : ℕ) → P other → P (record other { lots = lots })) → All P opposing → All P left)
    → AreApartOn May side own opposing → AreApartOn May side own left
left-apart May side own left opposing stays apart =
    All-weaker (λ (order : Order). All (λ (other : Order). ApartOn May side order.id other.id) opposing)
    (λ (order : Order). All (λ (other : Order). ApartOn May side order.id other.id) left)
    (λ order all. stays (λ (other : Order). ApartOn May side order.id other.id) (λ other lots away. away) all)
    own apart

-- a new order rests only where it crosses nothing that is left
order-apart : (May : ℕ → ℕ → Type 0) (side : Side) (m : Market) (account : Account) (n : NewOrder) → m.next_sequence < 2 ^ 64
    → InBookOrder (opposite side) (orders (opposite side) m) → AreApartOn May side (orders side m) (orders (opposite side) m)
    → AreApartOn May side (order_on side m account n).posting.side (order_on side m account n).met.left
order-apart May side m account n small sorted apart =
    let o : Ordering = order_on side m account n in
    let opposing : List Order = orders (opposite side) m in
    let is_left = meet-left side (terms_of m.listing.sizes n) (demand_of side m.listing.sizes n) opposing in
    All-post (λ (order : Order). All (λ (other : Order). ApartOn May side order.id other.id) o.met.left)
    side (capacity side m) o.order (orders side m)
    (λ some.
    All-weaker (λ (other : Order). crosses side (price_of o.order.id) (price_of other.id) ≡ false) (λ (other : Order). ApartOn May side o.order.id other.id)
    (λ other clear. clear-apart May side o.order.id other.id clear) o.met.left
    (subst (λ price. All (λ (other : Order). crosses side price (price_of other.id) ≡ false) o.met.left) (sym (price_of-id_of side n.price m.next_sequence small))
    (none-crosses side n.price o.met.left (InBookOrder-left (opposite side) o.met.left opposing is_left sorted)
    (rested-clear side m.listing.sizes n o.met some))))
    (left-apart May side (orders side m) o.met.left opposing
    (λ P less all. All-left P (λ other lots some_go some_stay holds. less other (other.lots - lots) holds) o.met.left opposing is_left all) apart)

act_order-apart : (May : ℕ → ℕ → Type 0) (side : Side) (order : Address → NewOrder) (m : Market) (party : Party) → IsSound m → IsApart May m
    → IsApart May (act_order side order m party).market
act_order-apart May Bid order m party sound apart =
    order-apart May Bid m party.account (order party.address) sound.form.sequence (sound.form.in_order Ask) apart
act_order-apart May Ask order m party sound apart =
    to-asks May _ _
    (order-apart May Ask m party.account (order party.address) sound.form.sequence (sound.form.in_order Bid) (from-asks May m.bids m.asks apart))

-- a take leaves orders of the opposite side
met-apart : (May : ℕ → ℕ → Type 0) (side : Side) (t : Take) (m : Market) → AreApartOn May side (orders side m) (orders (opposite side) m)
    → AreApartOn May side (orders side m) (take_meeting side m.listing.sizes t (orders (opposite side) m)).left
met-apart May side t m =
    let opposing : List Order = orders (opposite side) m in
    let met : Meeting = take_meeting side m.listing.sizes t opposing in
    left-apart May side (orders side m) met.left opposing
    (λ P less all.
    All-left P (λ other lots some_go some_stay holds. less other (other.lots - lots) holds) met.left opposing
    (meet-left side (take_terms m.listing.sizes t) (take_demand side m.listing.sizes t) opposing) all)

act_take-apart : (May : ℕ → ℕ → Type 0) (side : Side) (t : Take) (m : Market) → IsApart May m → IsApart May (act_take side t m).market
act_take-apart May Bid t m apart = met-apart May Bid t m apart
act_take-apart May Ask t m apart = to-asks May _ _ (met-apart May Ask t m (from-asks May m.bids m.asks apart))

-- orders leave a side
without-apart : (May : ℕ → ℕ → Type 0) (side : Side) (id : ℕ) (m : Market) → IsApart May m
    → AreApart May (by_side side (without_order id (orders side m)) (orders (opposite side) m)) (by_side side (orders (opposite side) m) (without_order id (orders side m)))
without-apart May Bid id m apart = All-without (λ (bid : Order). All (λ (ask : Order). Apart May bid.id ask.id) m.asks) id m.bids apart
without-apart May Ask id m apart =
    left-apart May Bid m.bids (without_order id m.asks) m.asks (λ P less all. All-without P id m.asks all) apart

cancels-apart : (May : ℕ → ℕ → Type 0) (gone : List RestingOrder) (m : Market) → IsApart May m → IsApart May (after_cancels gone m)
cancels-apart May [] m apart = apart
cancels-apart May (one ∷ others) m apart = cancels-apart May others (cancel_one one m) (without-apart May one.side one.order.id m apart)

act_cancel-apart : (May : ℕ → ℕ → Type 0) (by : CancelBy) (m : Market) (party : Party) → IsApart May m → IsApart May (act_cancel by m party).market
act_cancel-apart May by m party = cancels-apart May (cancelled by party.address m.bids m.asks) m

-- what an open account does
party-apart : (May : ℕ → ℕ → Type 0) (acts : Party → Step) (m : Market) (party : Option Party) → ((found : Party) → IsApart May (acts found).market) → IsApart May m
    → IsApart May (by_party acts m party).market
party-apart May acts m None each apart = apart
party-apart May acts m (Some found) each apart = each found

act_init-apart : (May : ℕ → ℕ → Type 0) (named : List Address) (signer : Address) (m : Market) → IsApart May m → IsApart May (act_init named signer m).market
act_init-apart May [] signer m apart = apart
act_init-apart May (address ∷ others) signer m apart = apart

-- what an instruction does
act-apart : (May : ℕ → ℕ → Type 0) (ix : Ix) (request : Request) (seen : Seen) (m : Market) → IsSound m → IsApart May m → IsApart May (act ix request seen m).market
act-apart May (InitializeMarket coin_lot pc_lot fee_rate_bps nonce dust) request seen m sound apart = apart
act-apart May (MatchOrders limit) request seen m sound apart = apart
act-apart May (ConsumeEvents limit) request seen m sound apart = apart
act-apart May SettleFunds request seen m sound apart =
    party-apart May (act_settle seen m) m (party_of request.named m.traders) (λ party. apart) apart
act-apart May DisableMarket request seen m sound apart = apart
act-apart May SweepFees request seen m sound apart = apart
act-apart May (NewOrderV3 side price lots max_pc self_trade order_type client limit latest) request seen m sound apart =
    let order : Address → NewOrder = terms_order request seen price lots max_pc self_trade order_type client limit latest in
    party-apart May (act_order side order m) m (party_of request.named m.traders) (λ party. act_order-apart May side order m party sound apart) apart
act-apart May (CancelOrderV2 side id) request seen m sound apart =
    party-apart May (act_cancel (ById side id) m) m (party_of request.named m.traders) (λ party. act_cancel-apart May (ById side id) m party apart) apart
act-apart May (CancelOrderByClientIdV2 client) request seen m sound apart =
    party-apart May (act_cancel (ByClient client) m) m (party_of request.named m.traders) (λ party. act_cancel-apart May (ByClient client) m party apart) apart
act-apart May (SendTake side price lots max_pc min_lots min_pc limit) request seen m sound apart =
    act_take-apart May side (terms_take seen price lots max_pc min_lots min_pc limit) m apart
act-apart May CloseOpenOrders request seen m sound apart =
    party-apart May (act_close m) m (party_of request.named m.traders) (λ party. apart) apart
act-apart May InitOpenOrders request seen m sound apart = act_init-apart May request.named request.signer m apart
act-apart May (Prune limit) request seen m sound apart =
    party-apart May (act_cancel (First limit) m) m (party_of request.named m.traders) (λ party. act_cancel-apart May (First limit) m party apart) apart
act-apart May (CancelOrdersByClientIds ids) request seen m sound apart =
    let by : CancelBy = ByClients (take ids.count ids.ids) in
    party-apart May (act_cancel by m) m (party_of request.named m.traders) (λ party. act_cancel-apart May by m party apart) apart

decoded-apart : (May : ℕ → ℕ → Type 0) (decoded : Result Ix BadData) (request : Request) (seen : Seen) (m : Market) → IsSound m → IsApart May m
    → IsApart May (act_decoded decoded request seen m).market
decoded-apart May (Err rule) request seen m sound apart = apart
decoded-apart May (Ok ix) request seen m sound apart = act-apart May ix request seen m sound apart

unless-apart : (May : ℕ → ℕ → Type 0) (found : Option Refusal) (m : Market) (acted : Step) → IsApart May m → IsApart May acted.market
    → IsApart May (unless_refused found m acted).market
unless-apart May (Some refusal) m acted before after = before
unless-apart May None m acted before after = after

step-apart : (May : ℕ → ℕ → Type 0) (request : Request) (seen : Seen) (m : Market) → IsSound m → IsApart May m → IsApart May (step request seen m).market
step-apart May request seen m sound apart =
    unless-apart May (why request seen m) m (act_decoded request.instruction request seen m) apart (decoded-apart May request.instruction request seen m sound apart)

-- calls, one after the other
calls-apart : (May : ℕ → ℕ → Type 0) (calls : List Call) (m : Market) → IsSound m → IsLegal m calls → IsApart May m → IsApart May (market_after m calls)
calls-apart May [] m sound legal apart = apart
calls-apart May (call ∷ calls) m sound legal apart =
    calls-apart May calls (step_of call m).market (asked-sound (acted_of call) call.seen m sound (acted-priced call legal.0.price)) legal.1
    (step-apart May (acted_of call).request call.seen m sound apart)

-- ---- no bid crosses an ask

-- no pair may cross
abbrev NoPair : ℕ → ℕ → Type 0
NoPair bid ask = ⊥

none-apart : (m : Market) → NoneCrosses m → IsApart NoPair m
none-apart m none = λ i bid standing. λ j ask offered. inl (none i bid standing j ask offered)

apart-none : (m : Market) → IsApart NoPair m → NoneCrosses m
apart-none m apart =
    λ i bid standing. λ j ask offered. ⊎_elim (λ below. below) (λ (may : NoPair bid.id ask.id). absurd may) (apart i bid standing j ask offered)

pub none-stepped : (asked : Asked) (seen : Seen) (m : Market) → IsSound m → NoneCrosses m → NoneCrosses (asked_step asked seen m).market
none-stepped asked seen m sound none =
    apart-none (asked_step asked seen m).market (step-apart NoPair asked.request seen m sound (none-apart m none))

pub none-after : (calls : List Call) (m : Market) → IsSound m → NoneCrosses m → IsLegal m calls → NoneCrosses (market_after m calls)
none-after calls m sound none legal = apart-none (market_after m calls) (calls-apart NoPair calls m sound legal (none-apart m none))

-- ---- those that cross rested before

-- a pair may cross where both rested
abbrev Rested : Market → ℕ → ℕ → Type 0
Rested m bid ask = IsAmong bid m.bids × IsAmong ask m.asks

-- each order of a side is among them
each-among : (orders : List Order) → All (λ (order : Order). IsAmong order.id orders) orders
each-among [] = All-nil (λ (order : Order). IsAmong order.id [])
each-among (first ∷ others) =
    All-cons (λ (order : Order). IsAmong order.id (first ∷ others)) first others
    (ap (λ (found : Option Order). is_some found) (order_with-first first others))
    (All-weaker (λ (order : Order). IsAmong order.id others) (λ (order : Order). IsAmong order.id (first ∷ others))
    (λ order among. cond_both (eqb first.id order.id) (Some first) (order_with order.id others) (λ found. is_some found ≡ true) (λ same. refl) (λ other. among))
    others (each-among others))

rested-apart : (m : Market) → IsApart (Rested m) m
rested-apart m = λ i bid standing. λ j ask offered. inr (each-among m.bids i bid standing, each-among m.asks j ask offered)

pub rested-stepped : (asked : Asked) (seen : Seen) (m : Market) → IsSound m → NoneNewCrosses m (asked_step asked seen m).market
rested-stepped asked seen m sound = step-apart (Rested m) asked.request seen m sound (rested-apart m)

pub rested-after : (calls : List Call) (m : Market) → IsSound m → IsLegal m calls → NoneNewCrosses m (market_after m calls)
rested-after calls m sound legal = calls-apart (Rested m) calls m sound legal (rested-apart m)
