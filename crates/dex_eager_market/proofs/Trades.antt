-- What a new order or a take leaves, part by part, is the market after it.
use Rattle.std.proofs.Common.{ℕ, ◌+◌, ◌-◌, ◌*◌, ◌/◌, ◌^◌, ◌<◌, ◌≤◌, ◌≡◌, ◌||◌, Bool, true, false, eqb, List, length, map, is_some, refl, sym, ap, subst, arith}
use Rattle.std.specs.List.{All}
use Rattle.std.specs.Vec.{vec_capacity}
use Rattle.std.proofs.Math.Nat.{mul-div-le, mul_comm}
use Rattle.std.proofs.lemmas.Bool.{cond-false, eqb-false, or_parts}
use Rattle.std.proofs.lemmas.Bool.Decides.{nat_tests}
use Rattle.dex_types.specs.declared.orders.Order.{Order}
use Rattle.dex_types.specs.declared.terms.Lots.{Lots}
use Rattle.dex_types.specs.declared.terms.Side.{Side}
use Rattle.dex_types.specs.declared.terms.Side.TheVariants.{Bid, Ask}
use Rattle.dex_types.specs.Cancel.{without_order}
use Rattle.dex_types.specs.Fees.{spendable, tier_number}
use Rattle.dex_types.specs.Meeting.{TakerTerms, Demand, Meeting, meet}
use Rattle.dex_types.specs.NewOrder.{NewOrder, budget, demand_of, fee_of, full_lock, rested, resting, terms_of}
use Rattle.dex_types.specs.Posting.{post, still_crosses}
use Rattle.dex_types.specs.Side.{id_of, lock, price_of}
use Rattle.dex_types.specs.Take.{Take, take_demand, take_fee, take_meeting}
use Rattle.dex_fees.proofs.FeeLaws.{spendable-le}
use Rattle.dex_laws.proofs.BookLaws.{All-post}
use Rattle.dex_laws.proofs.BookSideLaws.{All-without_order, length-without_order}
use Rattle.dex_laws.proofs.DemandLaws.{meet-budget}
use Rattle.dex_laws.proofs.IdLaws.{price_of-id_of}
use Rattle.dex_laws.proofs.SpendLaws.{rested-paid}
use Rattle.dex_match.specs.declared.order_terms.Taker.{Taker}
use Rattle.dex_match.specs.OrderTerms.{order_of}
use Rattle.dex_sound.specs.Exchange.{taker_gets, taker_pays}
use Rattle.dex_take.specs.TakeTerms.{meeting_with as take_meets, take_of}
use Rattle.dex_eager.specs.Eager.{Eager, EagerStep, after_meeting, after_new_order, is_too_large, order_by, take_by, with_change, with_fills}
use Rattle.dex_eager.specs.Slots.{maker_fills}
use Rattle.dex_eager.specs.Worth.{net}
use Rattle.dex_eager.proofs.StepMoves.{eager-same}
use Rattle.dex_eager_market.specs.declared.states.Book.{Book}
use Rattle.dex_eager_market.specs.declared.states.State.{State}
use Rattle.dex_eager_market.specs.declared.states.Till.{Till}
use Rattle.dex_eager_market.specs.Accounts.{entry_of, worth_of}
use Rattle.dex_eager_market.specs.declared.foreseeing.ListProspect.{ListProspect}
use Rattle.dex_eager_market.specs.Foreseen.{CanFill, IsForeseen, IsModest, left_by}
use Rattle.dex_eager_market.specs.States.{CanList, IsBook, IsKept, IsTill, market_by}
use Rattle.dex_eager_market.specs.Trading.{base_too_large, quote_too_large, rested_by, stops, taker_change}
use Rattle.dex_eager_market.proofs.Changes.{all-more}
use Rattle.dex_eager_market.proofs.Ends.{can-fill-left, length-left}

-- too large by base or by quote
pub too-large-parts : (side : Side) (sizes : Lots) (lots : ℕ) (met : Meeting) → is_too_large side sizes lots met ≡ (base_too_large side sizes lots || quote_too_large side met.pc)
too-large-parts Bid sizes lots met = refl
too-large-parts Ask sizes lots met = refl

-- the budget of a bid is paid by its lock
budget-paid : (sizes : Lots) (n : NewOrder) → budget Bid sizes n * sizes.pc ≤ spendable n.program n.tier n.max_pc
budget-paid sizes n =
    rw (mul_comm (spendable n.program n.tier n.max_pc / sizes.pc) sizes.pc) (mul-div-le (spendable n.program n.tier n.max_pc) sizes.pc)

small-base : (sizes : Lots) (lots : ℕ) → base_too_large Ask sizes lots ≡ false → lots * sizes.coin < 2 ^ 64
small-base sizes lots not = grind (arith, nat_tests)

small-quote : (pc : ℕ) → quote_too_large Ask pc ≡ false → pc < 2 ^ 64
small-quote pc not = grind (arith, nat_tests)

-- what a new order wants is modest
pub modest-order : (side : Side) (sizes : Lots) (n : NewOrder) → n.max_pc < 2 ^ 64 → n.matches < 2 ^ 16 → base_too_large side sizes n.lots ≡ false
    → IsModest side sizes (demand_of side sizes n)
modest-order Bid sizes n max matches not = record {
  budget = λ bid. omega (arith, budget-paid sizes n, spendable-le n.program n.tier n.max_pc);
  lots = λ ask. absurd cc;
  matches = matches;
}
modest-order Ask sizes n max matches not = record { budget = λ bid. absurd cc; lots = λ ask. small-base sizes n.lots not; matches = matches }

-- its lock fits 64 bits
pub lock-small : (side : Side) (sizes : Lots) (n : NewOrder) → n.max_pc < 2 ^ 64 → base_too_large side sizes n.lots ≡ false → full_lock side sizes n < 2 ^ 64
lock-small Bid sizes n max not = max
lock-small Ask sizes n max not = small-base sizes n.lots not

-- the quote that it trades fits 64 bits
pub quote-small : (side : Side) (sizes : Lots) (n : NewOrder) (t : TakerTerms) (orders : List Order) → t.sizes ≡ sizes → n.max_pc < 2 ^ 64
    → quote_too_large side (meet side t (demand_of side sizes n) orders).pc ≡ false → (meet side t (demand_of side sizes n) orders).pc < 2 ^ 64
quote-small Bid sizes n t orders same max not =
    omega (arith, meet-budget t (demand_of Bid sizes n) orders, ap (λ (s : Lots). budget Bid sizes n * s.pc) same, budget-paid sizes n, spendable-le n.program n.tier n.max_pc)
quote-small Ask sizes n t orders same max not = small-quote (meet Ask t (demand_of Ask sizes n) orders).pc not

-- what rests, by what was foreseen
pub rested-is : (side : Side) (sizes : Lots) (n : NewOrder) (met : Meeting) (crosses : Bool) (lots pc fee : ℕ) → crosses ≡ still_crosses side n.price met.left
    → lots ≡ met.demand.lots → pc ≡ met.pc → fee ≡ fee_of n met
    → rested_by side sizes n.order_type n.price crosses lots (n.max_pc - (pc + fee)) ≡ rested side sizes n met
rested-is Bid sizes n met crosses lots pc fee c l p f = rw c rw l rw f rw p refl
rested-is Ask sizes n met crosses lots pc fee c l p f = rw c rw l refl

-- what a taker gets and pays
pub taker-worth : (side : Side) (sizes : Lots) (met : Meeting) (fee base pc : ℕ) → base ≡ met.lots * sizes.coin → pc ≡ met.pc
    → worth_of (taker_change side base pc fee) ≡ net (taker_gets side sizes met fee) (taker_pays side sizes met fee)
taker-worth Bid sizes met fee base pc b p = rw b rw p refl
taker-worth Ask sizes met fee base pc b p = rw b rw p refl

-- the order that rests can fill
pub resting-fills : (side : Side) (sizes : Lots) (n : NewOrder) (next : ℕ) (orders : List Order) → next < 2 ^ 64 → full_lock side sizes n < 2 ^ 64 → tier_number n.tier < 7
    → CanFill side sizes (resting side next 0 n (rested side sizes n (meet side (terms_of sizes n) (demand_of side sizes n) orders)))
resting-fills side sizes n next orders small within tier =
    let lots : ℕ = rested side sizes n (meet side (terms_of sizes n) (demand_of side sizes n) orders) in
    let price : price_of (id_of side n.price next) ≡ n.price = price_of-id_of side n.price next small in
    record {
      lock = omega (arith, ap (λ (p : ℕ). lock side sizes p lots) price, rested-paid side sizes n orders);
      tier = tier;
    }

-- the market after a new order, part by part
pub record HasTraded (side : Side) (sizes : Lots) (n : NewOrder) (met : Meeting) (own opposing own' opposing' : Book) (till till' : Till) : Type 0 where
  pub own_room : own'.room ≡ own.room
  pub opposing_room : opposing'.room ≡ opposing.room
  pub own_is : own'.orders.items ≡ (post side own.room (resting side till.next_sequence 0 n (rested side sizes n met)) own.orders.items).side
  pub opposing_is : opposing'.orders.items ≡ met.left
  pub next : till'.next_sequence ≡ till.next_sequence + 1
  pub worths : map entry_of till'.accounts.items ≡ with_change n.owner (net (taker_gets side sizes met (fee_of n met)) (taker_pays side sizes met (fee_of n met)))
      (with_fills (maker_fills met.events) (map entry_of till.accounts.items))
  pub takings_are : till'.takings ≡ till.takings + (fee_of n met - met.rebates)

pub order-left : (side : Side) (sizes : Lots) (n : NewOrder) (met : Meeting) (own opposing own' opposing' : Book) (till till' : Till)
    → HasTraded side sizes n met own opposing own' opposing' till till'
    → market_by side sizes own' opposing' till' ≡ after_new_order side n met (market_by side sizes own opposing till)
order-left Bid sizes n met own opposing own' opposing' till till' has =
    eager-same _ _ refl has.own_room has.opposing_room has.own_is has.opposing_is has.next has.worths has.takings_are
order-left Ask sizes n met own opposing own' opposing' till till' has =
    eager-same _ _ refl has.opposing_room has.own_room has.opposing_is has.own_is has.next has.worths has.takings_are

-- the market after a take, part by part
pub record HasMet (met : Meeting) (fee : ℕ) (opposing opposing' : Book) (till till' : Till) : Type 0 where
  pub room : opposing'.room ≡ opposing.room
  pub left : opposing'.orders.items ≡ met.left
  pub next : till'.next_sequence ≡ till.next_sequence
  pub worths : map entry_of till'.accounts.items ≡ with_fills (maker_fills met.events) (map entry_of till.accounts.items)
  pub takings_are : till'.takings ≡ till.takings + (fee - met.rebates)

pub take-left : (side : Side) (sizes : Lots) (fee : ℕ) (met : Meeting) (own opposing opposing' : Book) (till till' : Till) → HasMet met fee opposing opposing' till till'
    → market_by side sizes own opposing' till' ≡ after_meeting side met fee (market_by side sizes own opposing till)
take-left Bid sizes fee met own opposing opposing' till till' has = eager-same _ _ refl refl has.room refl has.left has.next has.worths has.takings_are
take-left Ask sizes fee met own opposing opposing' till till' has = eager-same _ _ refl has.room refl has.left refl has.next has.worths has.takings_are

-- ---- whether it changes anything

-- what the tests of an order come to, once its base is small enough
pub order-stops : (side : Side) (sizes : Lots) (lots next pc : ℕ) (aborts : Bool) (met : Meeting) → base_too_large side sizes lots ≡ false → pc ≡ met.pc → aborts ≡ is_some met.aborts
    → (is_too_large side sizes lots met || eqb next (2 ^ 64 - 1) || is_some met.aborts) ≡ stops side pc next aborts
order-stops side sizes lots next pc aborts met small p a = rw (too-large-parts side sizes lots met) rw small rw p rw a refl

pub order-too-large : (side : Side) (sizes : Lots) (lots next : ℕ) (met : Meeting) → base_too_large side sizes lots ≡ true
    → (is_too_large side sizes lots met || eqb next (2 ^ 64 - 1) || is_some met.aborts) ≡ true
order-too-large side sizes lots next met large = rw (too-large-parts side sizes lots met) rw large refl

-- a take is too large where its base or its quote is
pub take-stops : (side : Side) (sizes : Lots) (lots pc : ℕ) (met : Meeting) → base_too_large side sizes lots ≡ false → pc ≡ met.pc
    → is_too_large side sizes lots met ≡ quote_too_large side pc
take-stops side sizes lots pc met small p = rw (too-large-parts side sizes lots met) rw small rw p refl

pub take-too-large : (side : Side) (sizes : Lots) (lots : ℕ) (met : Meeting) → base_too_large side sizes lots ≡ true → is_too_large side sizes lots met ≡ true
take-too-large side sizes lots met large = rw (too-large-parts side sizes lots met) rw large refl

-- none of the three stops it
pub goes-on : (side : Side) (pc next : ℕ) (aborts : Bool) → next < 2 ^ 64 → stops side pc next aborts ≡ false → (next < 2 ^ 64 - 1) × (quote_too_large side pc ≡ false)
goes-on side pc next aborts small not =
    let parts = or_parts (quote_too_large side pc || eqb next (2 ^ 64 - 1)) aborts not in
    let first = or_parts (quote_too_large side pc) (eqb next (2 ^ 64 - 1)) parts.0 in
    (omega (arith, eqb-false next (2 ^ 64 - 1) first.1, small), first.0)

-- an order that changes something
pub order-moves : (side : Side) (n : NewOrder) (met : Meeting) (e : Eager) → (is_too_large side e.sizes n.lots met || eqb e.next_sequence (2 ^ 64 - 1) || is_some met.aborts) ≡ false
    → (order_by side n met e).market ≡ after_new_order side n met e
order-moves side n met e free = ap (λ (s : EagerStep). s.market) (cond-false _ _ _ free)

pub take-moves : (side : Side) (t : Take) (met : Meeting) (e : Eager) → is_too_large side e.sizes t.lots met ≡ false
    → (take_by side t met e).market ≡ after_meeting side met (take_fee t met) e
take-moves side t met e free = ap (λ (s : EagerStep). s.market) (cond-false _ _ _ free)

-- a take wants what an order of its terms wants
pub take-demand : (side : Side) (sizes : Lots) (taker : Taker) → take_demand side sizes (take_of taker 0 0) ≡ demand_of side sizes (order_of taker)
take-demand Bid sizes taker = refl
take-demand Ask sizes taker = refl

-- it meets the same, whatever it has to fill at least
pub take-bare : (sizes : Lots) (taker : Taker) (min_lots min_pc : ℕ) (items : List Order) → take_meets sizes taker items ≡ take_meeting taker.id_side sizes (take_of taker min_lots min_pc) items
take-bare sizes taker min_lots min_pc items = by taker.id_side
  where
    by : (side : Side) → take_meeting side sizes (take_of taker 0 0) items ≡ take_meeting side sizes (take_of taker min_lots min_pc) items
    by Bid = refl
    by Ask = refl

-- ---- sides afterwards

-- a side of which a front is gone
pub book-left : (side : Side) (sizes : Lots) (book after : Book) (gone part : ℕ) → IsBook side sizes book → after.room ≡ book.room
    → vec_capacity after.orders ≡ vec_capacity book.orders → after.orders.items ≡ left_by gone part book.orders.items → IsBook side sizes after
book-left side sizes book after gone part is room capacity left = record {
  has_room = record {
    some = omega (arith, room, is.has_room.some);
    within = omega (arith, room, is.has_room.within, ap length left, length-left gone part book.orders.items);
    reserved = omega (arith, room, capacity, is.has_room.reserved);
  };
  can_fill = subst (All (CanFill side sizes)) (sym left) (can-fill-left side sizes gone part book.orders.items is.can_fill);
}

-- a side on which an order was posted
pub book-posted : (side : Side) (sizes : Lots) (book after : Book) (order : Order) → IsBook side sizes book → CanFill side sizes order → after.room ≡ book.room
    → after.room ≤ vec_capacity after.orders → length after.orders.items ≤ after.room
    → after.orders.items ≡ (post side book.room order book.orders.items).side → IsBook side sizes after
book-posted side sizes book after order is can room reserved within posted = record {
  has_room = record { some = omega (arith, room, is.has_room.some); within = within; reserved = reserved };
  can_fill = subst (All (CanFill side sizes)) (sym posted) (All-post (CanFill side sizes) side book.room order book.orders.items (λ some. can) is.can_fill);
}

-- a side that lost an order
pub book-without : (side : Side) (sizes : Lots) (book after : Book) (id : ℕ) → IsBook side sizes book → after.room ≡ book.room
    → vec_capacity after.orders ≡ vec_capacity book.orders → after.orders.items ≡ without_order id book.orders.items → IsBook side sizes after
book-without side sizes book after id is room capacity left = record {
  has_room = record {
    some = omega (arith, room, is.has_room.some);
    within = omega (arith, room, is.has_room.within, ap length left, length-without_order id book.orders.items);
    reserved = omega (arith, room, capacity, is.has_room.reserved);
  };
  can_fill = subst (All (CanFill side sizes)) (sym left) (All-without_order (CanFill side sizes) id book.orders.items is.can_fill);
}

-- ---- states

-- what holds with a bound holds with a greater one
pub till-more : (bound more : ℕ) (till : Till) → bound ≤ more → IsTill bound till → IsTill more till
till-more bound more till le is = record { accounts = all-more bound more till.accounts.items le is.accounts; takings = omega (arith, is.takings) }

pub kept-more : (bound more : ℕ) (s : State) → bound ≤ more → IsKept bound s → IsKept more s
kept-more bound more s le kept = record {
  bids = kept.bids;
  asks = kept.asks;
  till = till-more bound more s.till le kept.till;
  listed = kept.listed;
}

-- all orders fit the list
pub can-list : (bound : ℕ) (s : State) → IsKept bound s → CanList s
can-list bound s kept = omega (arith, kept.listed, kept.bids.has_room.within, kept.asks.has_room.within)

-- ---- what the code's terms meet is what the order, or the take, meets

pub same-met : (side : Side) {t t' : TakerTerms} {w w' : Demand} {orders orders' : List Order} → t ≡ t' → w ≡ w' → orders ≡ orders' → meet side t w orders ≡ meet side t' w' orders'
same-met side terms wants are = λ i. meet side (terms i) (wants i) (are i)

pub same-foreseen : {side : Side} {sizes sizes' : Lots} {limit limit' : ℕ} {orders orders' : List Order} {met met' : Meeting} {foreseen : ListProspect} → sizes ≡ sizes'
    → limit ≡ limit' → orders ≡ orders' → met ≡ met' → IsForeseen side sizes limit orders met foreseen → IsForeseen side sizes' limit' orders' met' foreseen
same-foreseen sizes limit are met seen = rw (← sizes, ← limit, ← are, ← met) seen
