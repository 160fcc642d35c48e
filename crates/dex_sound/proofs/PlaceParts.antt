-- parts of markets that are sound by place: both sides, places that hold an order, and owners of none
use Rattle.std.proofs.Common.{ℕ, ◌+◌, ◌≤◌, ◌≡◌, Bool, true, false, ◌&&◌, cond, List, [], ◌∷◌, ◌++◌, Option, Some, None, refl, sym, ap, ◌∙◌, arith, ⊎_elim}
use Rattle.std.specs.List.{All}
use Rattle.std.proofs.lemmas.Bool.{cases_Bool, false_from_ne_true, false≢true, and_from}
use Rattle.std.proofs.lemmas.List.Elements.{All-nil, All-cons, All-head, All-tail, All-weaker}
use Rattle.dex_types.specs.declared.addresses.Address.{Address}
use Rattle.dex_types.specs.declared.orders.Order.{Order}
use Rattle.dex_types.specs.declared.terms.Side.{Side}
use Rattle.dex_types.specs.declared.terms.Side.TheVariants.{Bid, Ask}
use Rattle.dex_types.specs.Addresses.{is_same}
use Rattle.dex_types.specs.Market.{Market, orders, with_sides}
use Rattle.dex_types.specs.Owed.{is_order_of, is_event_of}
use Rattle.dex_types.specs.QueuedEvent.{QueuedEvent}
use Rattle.dex_types.specs.Side.{opposite}
use Rattle.dex_types.specs.Soundness.{IsSound, held_at, order_holding, event_holding, is_final}
use Rattle.dex_types.specs.Totals.{total, weighed_where}
use Rattle.dex_types.specs.Trader.{Holding, Traders}
use Rattle.dex_laws.specs.Places.{is_event_at}
use Rattle.dex_laws.proofs.TotalLaws.{total-each, total-none}
use Rattle.dex_laws.proofs.TraderLaws.{is_same-true}
use Rattle.dex_sound.specs.Places.{rests_at, ends_here, ends_at, is_taken, AreElsewhere, EndLast, PlacesAgree, IsSoundByPlace}
use Rattle.dex_sound.proofs.PlaceLaws.{SlotsAgree-places, is_place, is_place-true, is_place-from}

-- sound by orders and by place
pub to-place : (m : Market) → IsSound m → IsSoundByPlace m
to-place m sound = record { form = sound.form; places = (SlotsAgree-places m).0 sound.slots; funds = sound.funds }

pub from-place : (m : Market) → IsSoundByPlace m → IsSound m
from-place m sound = record { form = sound.form; slots = (SlotsAgree-places m).1 sound.places; funds = sound.funds }

-- what holds of both sides that are put holds of each side
pub sides-hold : (P : Side → List Order → Type 0) (side : Side) (own opposing : List Order) (m : Market) → P side own → P (opposite side) opposing
    → (s : Side) → P s (orders s (with_sides side own opposing m))
sides-hold P Bid own opposing m here there Bid = here
sides-hold P Bid own opposing m here there Ask = there
sides-hold P Ask own opposing m here there Bid = there
sides-hold P Ask own opposing m here there Ask = here

-- both sides, by one of them
pub sides-sum : (weight : List Order → ℕ) (side : Side) (m : Market) → weight m.bids + weight m.asks ≡ weight (orders side m) + weight (orders (opposite side) m)
sides-sum weight Bid m = refl
sides-sum weight Ask m = omega arith

pub put-sides-sum : (weight : List Order → ℕ) (side : Side) (own opposing : List Order) (m : Market)
    → weight (with_sides side own opposing m).bids + weight (with_sides side own opposing m).asks ≡ weight own + weight opposing
put-sides-sum weight Bid own opposing m = refl
put-sides-sum weight Ask own opposing m = omega arith

-- one place is the other where the other is the one
pub is_place-sym : (owner other : Address) (slot at : ℕ) → is_place owner slot other at ≡ is_place other at owner slot
is_place-sym owner other slot at =
    ⊎_elim
    (λ (here : is_place owner slot other at ≡ true).
    let same : (owner ≡ other) × (slot ≡ at) = is_place-true owner other slot at here in
    here ∙ sym (is_place-from other owner at slot (sym same.0) (sym same.1)))
    (λ (there : is_place owner slot other at ≡ false).
    there ∙ sym (false_from_ne_true (is_place other at owner slot) (λ back.
    let same : (other ≡ owner) × (at ≡ slot) = is_place-true other owner at slot back in
    false≢true (sym there ∙ is_place-from owner other slot at (sym same.0) (sym same.1)))))
    (cases_Bool (is_place owner slot other at))

-- each order that rests counts at its place
pub rests-itself : (resting : List Order) → All (λ (order : Order). 1 ≤ rests_at order.owner order.slot resting) resting
rests-itself [] = All-nil _
rests-itself (first ∷ others) =
    All-cons (λ (order : Order). 1 ≤ rests_at order.owner order.slot (first ∷ others)) first others
    (let here : is_place first.owner first.slot first.owner first.slot ≡ true = is_place-from first.owner first.owner first.slot first.slot refl refl in
    rw here (omega arith))
    (All-weaker (λ (order : Order). 1 ≤ rests_at order.owner order.slot others) (λ (order : Order). 1 ≤ rests_at order.owner order.slot (first ∷ others))
    (λ order rests. omega (arith, rests)) others (rests-itself others))

-- a place that is taken is so by one
is_taken-le : (held : Option Holding) → is_taken held ≤ 1
is_taken-le None = omega arith
is_taken-le (Some held) = omega arith

pub place-once : (m : Market) (owner : Address) (slot : ℕ) → PlacesAgree m → rests_at owner slot m.bids + rests_at owner slot m.asks + ends_at owner slot m.events ≤ 1
place-once m owner slot agree = omega (arith, agree.counts owner slot, is_taken-le (held_at owner slot m.traders))

-- no order that rests has a final out
pub resting-unended : (m : Market) → PlacesAgree m → (side : Side) → All (λ (order : Order). ends_at order.owner order.slot m.events ≡ 0) (orders side m)
resting-unended m agree side =
    All-weaker (λ (order : Order). 1 ≤ rests_at order.owner order.slot (orders side m)) (λ (order : Order). ends_at order.owner order.slot m.events ≡ 0)
    (λ order rests. omega (arith, rests, place-once m order.owner order.slot agree, sides-sum (rests_at order.owner order.slot) side m))
    (orders side m) (rests-itself (orders side m))

-- where nothing ends at a place, no event there is final
pub unended-each : (owner : Address) (slot : ℕ) (events : List QueuedEvent) → ends_at owner slot events ≡ 0
    → All (λ (event : QueuedEvent). (is_final event && is_event_at owner slot event) ≡ false) events
unended-each owner slot events none =
    All-weaker (λ (event : QueuedEvent). ends_here owner slot event ≤ ends_at owner slot events) (λ (event : QueuedEvent). (is_final event && is_event_at owner slot event) ≡ false)
    (λ event within. not-counted (is_final event && is_event_at owner slot event) (omega (arith, within)))
    events (total-each (ends_here owner slot) events)
  where
    not-counted : (test : Bool) → ◌≡◌ {A = ℕ} (cond test 1 0) 0 → test ≡ false
    not-counted true one = absurd (omega (arith, one))
    not-counted false none = refl

-- an event elsewhere, from the event's place
pub elsewhere-turned : (owner other : Address) (slot at : ℕ) (final : Bool) → (final && is_place owner slot other at) ≡ false → final ≡ true → is_place other at owner slot ≡ false
elsewhere-turned owner other slot at final test is =
    is_place-sym other owner at slot ∙ false_from_ne_true (is_place owner slot other at) (λ here. false≢true (sym test ∙ and_from final (is_place owner slot other at) is here))

-- lists of events elsewhere, one after the other
pub AreElsewhere-append : (owner : Address) (slot : ℕ) (events later : List QueuedEvent) → AreElsewhere owner slot events → AreElsewhere owner slot later
    → AreElsewhere owner slot (events ++ later)
AreElsewhere-append owner slot [] later away then = then
AreElsewhere-append owner slot (event ∷ events) later away then = (away.0, AreElsewhere-append owner slot events later away.1 then)

-- events after others end last where no final one of the others is for the same place
pub EndLast-append : (events later : List QueuedEvent) → EndLast events → EndLast later
    → All (λ (event : QueuedEvent). is_final event ≡ true → AreElsewhere event.owner event.slot later) events → EndLast (events ++ later)
EndLast-append [] later last then away = then
EndLast-append (event ∷ events) later last then away =
    let IsAway : QueuedEvent → Type 0 = λ event. is_final event ≡ true → AreElsewhere event.owner event.slot later in (
      λ final. AreElsewhere-append event.owner event.slot events later (last.0 final) (All-head IsAway event events away final),
      EndLast-append events later last.1 then (All-tail IsAway event events away),
    )

-- a trader that holds nothing has no orders and no events
own-none : (owner other : Address) (traders : Traders) (slot : ℕ) (held : Holding) → ((at : ℕ) → held_at owner at traders ≡ None) → held_at other slot traders ≡ Some held
    → is_same owner other ≡ false
own-none owner other traders slot held none there =
    false_from_ne_true (is_same owner other) (λ same.
    let both : None ≡ Some held = sym (none slot) ∙ ap (λ a. held_at a slot traders) (is_same-true owner other same) ∙ there in
    absurd (cc))

pub own-orders-none : (owner : Address) (weight : Order → ℕ) (side : Side) (resting : List Order) (traders : Traders) → ((at : ℕ) → held_at owner at traders ≡ None)
    → All (λ (order : Order). held_at order.owner order.slot traders ≡ Some (order_holding side order)) resting
    → total (weighed_where (is_order_of owner) weight) resting ≡ 0
own-orders-none owner weight side resting traders none are =
    total-none (weighed_where (is_order_of owner) weight) resting
    (All-weaker (λ (order : Order). held_at order.owner order.slot traders ≡ Some (order_holding side order)) (λ (order : Order). weighed_where (is_order_of owner) weight order ≡ 0)
    (λ order is. ap (λ test. cond test (weight order) 0) (own-none owner order.owner traders order.slot (order_holding side order) none is)) resting are)

pub own-events-none : (owner : Address) (weight : QueuedEvent → ℕ) (events : List QueuedEvent) (traders : Traders) → ((at : ℕ) → held_at owner at traders ≡ None)
    → All (λ (event : QueuedEvent). held_at event.owner event.slot traders ≡ Some (event_holding event)) events
    → total (weighed_where (is_event_of owner) weight) events ≡ 0
own-events-none owner weight events traders none are =
    total-none (weighed_where (is_event_of owner) weight) events
    (All-weaker (λ (event : QueuedEvent). held_at event.owner event.slot traders ≡ Some (event_holding event)) (λ (event : QueuedEvent). weighed_where (is_event_of owner) weight event ≡ 0)
    (λ event is. ap (λ test. cond test (weight event) 0) (own-none owner event.owner traders event.slot (event_holding event) none is)) events are)
