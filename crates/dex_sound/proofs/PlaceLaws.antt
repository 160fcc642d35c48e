-- slots by id and side, and by place
use Rattle.std.proofs.Common.{ℕ, ◌+◌, ◌≡◌, ◌↔◌, Bool, true, false, ◌&&◌, cond, eqb, List, [], ◌∷◌, Option, Some, None, refl, sym, ap, ◌∙◌, subst, arith}
use Rattle.std.specs.List.{All}
use Rattle.std.proofs.lemmas.Bool.{eq-eqb, and_parts, and_from, eqb-true, false_from_ne_true, false≢true}
use Rattle.std.proofs.lemmas.List.Elements.{All-nil, All-cons, All-head, All-tail, All-weaker}
use Rattle.dex_types.specs.declared.addresses.Address.{Address}
use Rattle.dex_types.specs.declared.orders.Order.{Order}
use Rattle.dex_types.specs.declared.terms.Side.{Side}
use Rattle.dex_types.specs.declared.terms.Side.TheVariants.{Bid, Ask}
use Rattle.dex_types.specs.Addresses.{is_same}
use Rattle.dex_types.specs.Market.{Market, orders}
use Rattle.dex_types.specs.QueuedEvent.{QueuedEvent}
use Rattle.dex_types.specs.Side.{opposite, sequence_of}
use Rattle.dex_types.specs.Soundness.{SlotsAgree, AreHeld, AreOfOthers, held_at, order_holding, event_holding, is_final, is_one_order, resting_of, finals_of, counts_order, counts_final}
use Rattle.dex_types.specs.Tokens.{is_same_side}
use Rattle.dex_types.specs.Totals.{total, weighed_where}
use Rattle.dex_types.specs.Trader.{Holding, Traders}
use Rattle.dex_laws.specs.Places.{is_order_at}
use Rattle.dex_laws.proofs.TotalLaws.{total-agree, total-none}
use Rattle.dex_laws.proofs.TraderLaws.{is_same-true, is_same-refl}
use Rattle.dex_sound.specs.Places.{rests_at, ends_here, ends_at, is_taken, AreElsewhere, EndLast, HoldOnce, PlacesAgree}

-- two tests that hold together are equal
same-tests : (test other : Bool) → (test ≡ true → other ≡ true) → (other ≡ true → test ≡ true) → test ≡ other
same-tests true true to from = refl
same-tests true false to from = sym (to refl)
same-tests false true to from = from refl
same-tests false false to from = refl

and-false : (test : Bool) → (test && false) ≡ false
and-false true = refl
and-false false = refl

pub is_same_side-true : (side other : Side) → is_same_side side other ≡ true → side ≡ other
is_same_side-true Bid Bid same = refl
is_same_side-true Bid Ask same = absurd (false≢true same)
is_same_side-true Ask Bid same = absurd (false≢true same)
is_same_side-true Ask Ask same = refl

pub is_same_side-refl : (side : Side) → is_same_side side side ≡ true
is_same_side-refl Bid = refl
is_same_side-refl Ask = refl

pub is_same_side-opposite : (side : Side) → is_same_side side (opposite side) ≡ false
is_same_side-opposite Bid = refl
is_same_side-opposite Ask = refl

is_one_order-refl : (held : Holding) → is_one_order held held ≡ true
is_one_order-refl held = and_from _ _ (eq-eqb held.id held.id refl) (is_same_side-refl held.side)

-- of one place
abbrev pub is_place : Address → ℕ → Address → ℕ → Bool
is_place owner slot other at = is_same owner other && (eqb slot at)

pub is_place-true : (owner other : Address) (slot at : ℕ) → is_place owner slot other at ≡ true → (owner ≡ other) × (slot ≡ at)
is_place-true owner other slot at here =
    let parts : (is_same owner other ≡ true) × (eqb slot at ≡ true) = and_parts (is_same owner other) (eqb slot at) here in
    (is_same-true owner other parts.0, eqb-true slot at parts.1)

pub is_place-from : (owner other : Address) (slot at : ℕ) → owner ≡ other → slot ≡ at → is_place owner slot other at ≡ true
is_place-from owner other slot at same here =
    and_from _ _ (subst (λ a. is_same owner a ≡ true) same (is_same-refl owner)) (eq-eqb slot at here)

-- a place holds one thing
held-same : (traders : Traders) (owner other : Address) (slot at : ℕ) → (owner ≡ other) × (slot ≡ at) → held_at owner slot traders ≡ held_at other at traders
held-same traders owner other slot at same =
    ap (λ a. held_at a slot traders) same.0 ∙ ap (λ s. held_at other s traders) same.1

-- what is held at two places is one order exactly where they are one place
place-order : (traders : Traders) (owner other : Address) (slot at : ℕ) (held same : Holding) → HoldOnce traders
    → held_at owner slot traders ≡ Some held → held_at other at traders ≡ Some same → is_place owner slot other at ≡ is_one_order held same
place-order traders owner other slot at held same once here there =
    same-tests (is_place owner slot other at) (is_one_order held same)
    (λ one.
    let both : Some held ≡ Some same = sym here ∙ held-same traders owner other slot at (is_place-true owner other slot at one) ∙ there in
    let equal : held ≡ same = cc in
    subst (λ h. is_one_order held h ≡ true) equal (is_one_order-refl held))
    (λ one.
    let parts : (eqb held.id same.id ≡ true) × (is_same_side held.side same.side ≡ true) =
    and_parts (eqb held.id same.id) (is_same_side held.side same.side) one in
    let ids : held.id ≡ same.id = eqb-true held.id same.id parts.0 in
    let sides : held.side ≡ same.side = is_same_side-true held.side same.side parts.1 in
    let ages : sequence_of held.side held.id ≡ sequence_of same.side same.id =
    ap (λ side. sequence_of side held.id) sides ∙ ap (sequence_of same.side) ids in
    let place : (owner ≡ other) × (slot ≡ at) = once owner other slot at held same here there ages in
    is_place-from owner other slot at place.0 place.1)

-- the orders that rest for a place are those of what it holds, and none of the other side
abbrev IsResting : Traders → Side → Order → Type 0
IsResting traders side order = held_at order.owner order.slot traders ≡ Some (order_holding side order)

rests-held : (traders : Traders) (owner : Address) (slot : ℕ) (held : Holding) (resting : List Order) → HoldOnce traders → held_at owner slot traders ≡ Some held
    → All (IsResting traders held.side) resting → rests_at owner slot resting ≡ total (counts_order held.side held) resting
rests-held traders owner slot held resting once here are =
    total-agree (weighed_where (is_order_at owner slot) (λ order. 1)) (counts_order held.side held) resting
    (All-weaker (IsResting traders held.side) (λ order. weighed_where (is_order_at owner slot) (λ order. 1) order ≡ counts_order held.side held order)
    (λ order is. ap (λ test. cond test 1 0) (place-order traders owner order.owner slot order.slot held (order_holding held.side order) once here is))
    resting are)

rests-other : (traders : Traders) (owner : Address) (slot : ℕ) (held : Holding) (resting : List Order) → HoldOnce traders → held_at owner slot traders ≡ Some held
    → All (IsResting traders (opposite held.side)) resting → rests_at owner slot resting ≡ 0
rests-other traders owner slot held resting once here are =
    total-none (weighed_where (is_order_at owner slot) (λ order. 1)) resting
    (All-weaker (IsResting traders (opposite held.side)) (λ order. weighed_where (is_order_at owner slot) (λ order. 1) order ≡ 0)
    (λ order is.
    let other : is_one_order held (order_holding (opposite held.side) order) ≡ false =
    ap (λ test. eqb held.id order.id && test) (is_same_side-opposite held.side) ∙ and-false (eqb held.id order.id) in
    ap (λ test. cond test 1 0) (place-order traders owner order.owner slot order.slot held (order_holding (opposite held.side) order) once here is ∙ other))
    resting are)

ends-held : (traders : Traders) (owner : Address) (slot : ℕ) (held : Holding) (events : List QueuedEvent) → HoldOnce traders → held_at owner slot traders ≡ Some held
    → All (λ (event : QueuedEvent). held_at event.owner event.slot traders ≡ Some (event_holding event)) events → ends_at owner slot events ≡ finals_of held events
ends-held traders owner slot held events once here are =
    total-agree (ends_here owner slot) (counts_final held) events
    (All-weaker (λ (event : QueuedEvent). held_at event.owner event.slot traders ≡ Some (event_holding event)) (λ event. ends_here owner slot event ≡ counts_final held event)
    (λ event is. ap (λ test. cond (is_final event && test) 1 0) (place-order traders owner event.owner slot event.slot held (event_holding event) once here is))
    events are)

-- at a place that holds nothing, nothing rests and nothing ends
apart : (traders : Traders) (owner other : Address) (slot at : ℕ) (same : Holding) → held_at owner slot traders ≡ None → held_at other at traders ≡ Some same
    → is_place owner slot other at ≡ false
apart traders owner other slot at same here there =
    false_from_ne_true (is_place owner slot other at) (λ one.
    let both : None ≡ Some same = sym here ∙ held-same traders owner other slot at (is_place-true owner other slot at one) ∙ there in
    absurd cc)

rests-none : (traders : Traders) (side : Side) (owner : Address) (slot : ℕ) (resting : List Order) → held_at owner slot traders ≡ None
    → All (IsResting traders side) resting → rests_at owner slot resting ≡ 0
rests-none traders side owner slot resting here are =
    total-none (weighed_where (is_order_at owner slot) (λ order. 1)) resting
    (All-weaker (IsResting traders side) (λ order. weighed_where (is_order_at owner slot) (λ order. 1) order ≡ 0)
    (λ order is. ap (λ test. cond test 1 0) (apart traders owner order.owner slot order.slot (order_holding side order) here is))
    resting are)

ends-none : (traders : Traders) (owner : Address) (slot : ℕ) (events : List QueuedEvent) → held_at owner slot traders ≡ None
    → All (λ (event : QueuedEvent). held_at event.owner event.slot traders ≡ Some (event_holding event)) events → ends_at owner slot events ≡ 0
ends-none traders owner slot events here are =
    total-none (ends_here owner slot) events
    (All-weaker (λ (event : QueuedEvent). held_at event.owner event.slot traders ≡ Some (event_holding event)) (λ event. ends_here owner slot event ≡ 0)
    (λ event is. ap (λ test. cond (is_final event && test) 1 0) (apart traders owner event.owner slot event.slot (event_holding event) here is) ∙ ap (λ test. cond test 1 0) (and-false (is_final event)))
    events are)

-- both sides of a market, one of which has orders of a place
both-sides : (side : Side) (m : Market) (owner : Address) (slot count : ℕ) → rests_at owner slot (orders side m) ≡ count → rests_at owner slot (orders (opposite side) m) ≡ 0
    → rests_at owner slot m.bids + rests_at owner slot m.asks ≡ count
both-sides Bid m owner slot count own other = omega (arith, own, other)
both-sides Ask m owner slot count own other = omega (arith, own, other)

-- what rests and ends at a place that holds an order is what rests and ends of that order
place-counts : (m : Market) (owner : Address) (slot : ℕ) (held : Holding) → HoldOnce m.traders → ((side : Side) → All (IsResting m.traders side) (orders side m))
    → All (λ (event : QueuedEvent). held_at event.owner event.slot m.traders ≡ Some (event_holding event)) m.events → held_at owner slot m.traders ≡ Some held
    → rests_at owner slot m.bids + rests_at owner slot m.asks + ends_at owner slot m.events ≡ resting_of held m + finals_of held m.events
place-counts m owner slot held once resting pending here =
    omega (
      arith,
      both-sides held.side m owner slot (resting_of held m) (rests-held m.traders owner slot held (orders held.side m) once here (resting held.side))
          (rests-other m.traders owner slot held (orders (opposite held.side) m) once here (resting (opposite held.side))),
      ends-held m.traders owner slot held m.events once here pending,
    )

place-empty : (m : Market) (owner : Address) (slot : ℕ) → ((side : Side) → All (IsResting m.traders side) (orders side m))
    → All (λ (event : QueuedEvent). held_at event.owner event.slot m.traders ≡ Some (event_holding event)) m.events → held_at owner slot m.traders ≡ None
    → rests_at owner slot m.bids + rests_at owner slot m.asks + ends_at owner slot m.events ≡ 0
place-empty m owner slot resting pending here =
    omega (
      arith,
      rests-none m.traders Bid owner slot m.bids here (resting Bid),
      rests-none m.traders Ask owner slot m.asks here (resting Ask),
      ends-none m.traders owner slot m.events here pending,
    )

-- events after a final out are of other orders exactly where they are for other places
held-events : (traders : Traders) (events : List QueuedEvent) → AreHeld traders events
    → All (λ (event : QueuedEvent). held_at event.owner event.slot traders ≡ Some (event_holding event)) events
held-events traders [] are = All-nil _
held-events traders (event ∷ events) are =
    All-cons (λ (event : QueuedEvent). held_at event.owner event.slot traders ≡ Some (event_holding event)) event events are.0 (held-events traders events are.2)

elsewhere : (traders : Traders) (owner : Address) (slot : ℕ) (held : Holding) (events : List QueuedEvent) → HoldOnce traders → held_at owner slot traders ≡ Some held
    → All (λ (event : QueuedEvent). held_at event.owner event.slot traders ≡ Some (event_holding event)) events
    → AreOfOthers held events ↔ AreElsewhere owner slot events
elsewhere traders owner slot held [] once here are = (λ others. tt, λ away. tt)
elsewhere traders owner slot held (event ∷ events) once here are =
    let IsHeld : QueuedEvent → Type 0 = λ event. held_at event.owner event.slot traders ≡ Some (event_holding event) in
    let one : is_place owner slot event.owner event.slot ≡ is_one_order held (event_holding event) =
    place-order traders owner event.owner slot event.slot held (event_holding event) once here (All-head IsHeld event events are) in
    let rest : AreOfOthers held events ↔ AreElsewhere owner slot events = elsewhere traders owner slot held events once here (All-tail IsHeld event events are) in
    (λ others. (one ∙ others.0, rest.0 others.1), λ away. (sym one ∙ away.0, rest.1 away.1))

end-last : (traders : Traders) (events : List QueuedEvent) → HoldOnce traders → AreHeld traders events → EndLast events
end-last traders [] once are = tt
end-last traders (event ∷ events) once are =
    (λ final. (elsewhere traders event.owner event.slot (event_holding event) events once are.0 (held-events traders events are.2)).0 (are.1 final), end-last traders events once are.2)

held-again : (traders : Traders) (events : List QueuedEvent) → HoldOnce traders
    → All (λ (event : QueuedEvent). held_at event.owner event.slot traders ≡ Some (event_holding event)) events → EndLast events → AreHeld traders events
held-again traders [] once are last = tt
held-again traders (event ∷ events) once are last =
    let IsHeld : QueuedEvent → Type 0 = λ event. held_at event.owner event.slot traders ≡ Some (event_holding event) in
    let here : IsHeld event = All-head IsHeld event events are in
    let later : All IsHeld events = All-tail IsHeld event events are in
    (here, λ final. (elsewhere traders event.owner event.slot (event_holding event) events once here later).1 (last.0 final), held-again traders events once later last.1)

-- by place from by order
counts-of : (m : Market) (owner : Address) (slot : ℕ) → SlotsAgree m → (found : Option Holding) → held_at owner slot m.traders ≡ found
    → rests_at owner slot m.bids + rests_at owner slot m.asks + ends_at owner slot m.events ≡ is_taken found
counts-of m owner slot agree None here = place-empty m owner slot agree.resting (held-events m.traders m.events agree.pending) here
counts-of m owner slot agree (Some held) here =
    place-counts m owner slot held agree.once agree.resting (held-events m.traders m.events agree.pending) here ∙ agree.taken owner slot held here

to-places : (m : Market) → SlotsAgree m → PlacesAgree m
to-places m agree = record {
  resting = agree.resting;
  pending = held-events m.traders m.events agree.pending;
  counts = λ owner slot. counts-of m owner slot agree (held_at owner slot m.traders) refl;
  last = end-last m.traders m.events agree.once agree.pending;
  given = agree.given;
  once = agree.once;
}

-- and back
from-places : (m : Market) → PlacesAgree m → SlotsAgree m
from-places m agree = record {
  resting = agree.resting;
  taken = λ owner slot held here.
      sym (place-counts m owner slot held agree.once agree.resting agree.pending here) ∙ agree.counts owner slot ∙ ap is_taken here;
  pending = held-again m.traders m.events agree.once agree.pending agree.last;
  given = agree.given;
  once = agree.once;
}

pub SlotsAgree-places : (m : Market) → SlotsAgree m ↔ PlacesAgree m
SlotsAgree-places m = (to-places m, from-places m)
