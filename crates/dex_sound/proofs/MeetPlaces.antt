-- places through a meeting: which orders its events end, and that none comes after the end of its order
use Rattle.std.proofs.Common.{ℕ, ◌+◌, ◌≤◌, ◌≡◌, ⊎_elim, Bool, true, false, ◌&&◌, cond, eqb, List, [], ◌∷◌, ◌++◌, Option, Some, None, refl, sym, ap, ◌∙◌, arith}
use Rattle.std.specs.List.{All}
use Rattle.std.proofs.lemmas.Bool.{cases_Bool, cond_both, eq-eqb, and_from, false≢true}
use Rattle.std.proofs.lemmas.List.Elements.{All-nil, All-head, All-tail, All-append, All-weaker}
use Rattle.dex_types.specs.declared.addresses.Address.{Address}
use Rattle.dex_types.specs.declared.orders.Order.{Order}
use Rattle.dex_types.specs.declared.terms.Side.{Side}
use Rattle.dex_types.specs.declared.terms.Side.TheVariants.{Bid, Ask}
use Rattle.dex_types.specs.Market.{Market, orders}
use Rattle.dex_types.specs.Meeting.{TakerTerms, Demand, Meeting, is_own, maker_fill, plain_out, met_events, meet}
use Rattle.dex_types.specs.QueuedEvent.{QueuedEvent}
use Rattle.dex_types.specs.Side.{opposite}
use Rattle.dex_types.specs.Soundness.{is_final, held_at}
use Rattle.dex_types.specs.Totals.{weighed_where}
use Rattle.dex_types.specs.Trader.{Holding}
use Rattle.dex_laws.specs.Places.{frees, is_order_at, is_event_at, freed_at}
use Rattle.dex_laws.proofs.BestFirstLaws.{All-met_events}
use Rattle.dex_laws.proofs.MeetLaws.{meet-induction}
use Rattle.dex_laws.proofs.TotalLaws.{total-agree, total-none}
use Rattle.dex_laws.proofs.TraderLaws.{is_same-refl}
use Rattle.dex_sound.specs.Places.{rests_at, ends_here, ends_at, is_taken, AreElsewhere, EndLast, PlacesAgree}
use Rattle.dex_sound.proofs.MeetSums.{always}
use Rattle.dex_sound.proofs.PlaceLaws.{is_place}
use Rattle.dex_sound.proofs.PlaceParts.{is_place-sym, sides-sum, AreElsewhere-append}

-- final outs of a place, counted in two ways
ends-frees : (final here : Bool) → ◌≡◌ {A = ℕ} (cond (final && here) 1 0) (cond here (cond final 1 0) 0)
ends-frees true true = refl
ends-frees true false = refl
ends-frees false true = refl
ends-frees false false = refl

pub ends-freed : (owner : Address) (slot : ℕ) (events : List QueuedEvent) → ends_at owner slot events ≡ freed_at owner slot events
ends-freed owner slot events =
    total-agree (ends_here owner slot) (weighed_where (is_event_at owner slot) frees) events
    (always (λ (e : QueuedEvent). ends_here owner slot e ≡ weighed_where (is_event_at owner slot) frees e) (λ e. ends-frees (is_final e) (is_event_at owner slot e)) events)

-- a place is itself
pub is_place-itself : (owner : Address) (slot : ℕ) → is_place owner slot owner slot ≡ true
is_place-itself owner slot = and_from _ _ (is_same-refl owner) (eq-eqb slot slot refl)

-- after events none of which ends the place of a later one, later ones may come
not-here : (final here : Bool) → ◌≡◌ {A = ℕ} (cond (final && here) 1 0) 0 → final ≡ true → here ≡ false
not-here true true none is = absurd (omega arith)
not-here true false none is = refl
not-here false here none is = absurd (false≢true is)

All-elsewhere : (owner : Address) (slot : ℕ) (events : List QueuedEvent) → All (λ (e : QueuedEvent). is_event_at owner slot e ≡ false) events → AreElsewhere owner slot events
All-elsewhere owner slot [] away = tt
All-elsewhere owner slot (event ∷ events) away = (
  All-head (λ (e : QueuedEvent). is_event_at owner slot e ≡ false) event events away,
  All-elsewhere owner slot events (All-tail (λ (e : QueuedEvent). is_event_at owner slot e ≡ false) event events away),
)

-- no final out among these events is of the place of the later one
abbrev pub NoneEnds : List QueuedEvent → QueuedEvent → Type 0
NoneEnds events later = ends_at later.owner later.slot events ≡ 0

pub EndLast-behind : (events later : List QueuedEvent) → EndLast events → EndLast later → All (NoneEnds events) later → EndLast (events ++ later)
EndLast-behind [] later first then apart = then
EndLast-behind (event ∷ events) later first then apart = (
  λ final. AreElsewhere-append event.owner event.slot events later (first.0 final)
      (All-elsewhere event.owner event.slot later
      (All-weaker (NoneEnds (event ∷ events)) (λ (e : QueuedEvent). is_event_at event.owner event.slot e ≡ false)
      (λ e none.
      is_place-sym event.owner e.owner event.slot e.slot
      ∙ not-here (is_final event) (is_event_at e.owner e.slot event) (omega (arith, none)) final)
      later apart)),
  EndLast-behind events later first.1 then
      (All-weaker (NoneEnds (event ∷ events)) (NoneEnds events) (λ e none. omega (arith, none)) later apart),
)

-- one order's events are of its place
abbrev IsAt : Order → QueuedEvent → Type 0
IsAt order event = (event.owner ≡ order.owner) × (event.slot ≡ order.slot)

fill-at : (maker : Side) (t : TakerTerms) (order : Order) (lots : ℕ) → IsAt order (maker_fill maker t order lots)
fill-at Bid t order lots = (refl, refl)
fill-at Ask t order lots = (refl, refl)

met-at : (side : Side) (t : TakerTerms) (order : Order) (lots : ℕ) → All (IsAt order) (met_events side t order lots)
met-at side t order lots =
    All-met_events (IsAt order) side t order lots (λ own. (refl, refl)) (λ other. (fill-at (opposite side) t order lots, (refl, refl)))

fill-goes-on : (maker : Side) (t : TakerTerms) (order : Order) (lots : ℕ) → is_final (maker_fill maker t order lots) ≡ false
fill-goes-on Bid t order lots = refl
fill-goes-on Ask t order lots = refl

-- and only the last of them is final
met-last : (side : Side) (t : TakerTerms) (order : Order) (lots : ℕ) → EndLast (met_events side t order lots)
met-last side t order lots =
    ⊎_elim (λ (own : is_own t.owner order ≡ true). rw own ((λ final. tt), tt))
    (λ (other : is_own t.owner order ≡ false). rw other
    (cond_both (eqb lots order.lots) (plain_out (opposite side) order ∷ []) [] (λ outs. EndLast (maker_fill (opposite side) t order lots ∷ outs))
    (λ whole. ((λ final. absurd (false≢true (sym (fill-goes-on (opposite side) t order lots) ∙ final))), ((λ final. tt), tt)))
    (λ part. ((λ final. tt), tt))))
    (cases_Bool (is_own t.owner order))

cond-one-le : (test : Bool) → ◌≤◌ (cond test 1 0) 1
cond-one-le true = omega arith
cond-one-le false = omega arith

cond-one-none : (test : Bool) → ◌≡◌ {A = ℕ} (cond test 1 0) 0 → test ≡ false
cond-one-none true none = absurd (omega arith)
cond-one-none false none = refl

counts-one : (test : Bool) (rest : ℕ) → test ≡ true → 1 ≤ cond test 1 0 + rest
counts-one test rest is = rw is (omega arith)

-- each event of a meeting is for a place for which an order rested; and where at most one rests for each, no event
-- comes after the end of its order
abbrev IsMetOnce : List Order → Meeting → Type 0
IsMetOnce orders met =
    All (λ (e : QueuedEvent). 1 ≤ rests_at e.owner e.slot orders) met.events
    × (((owner : Address) (slot : ℕ) → rests_at owner slot orders ≤ 1) → EndLast met.events)

at-place : (order : Order) (others : List Order) (e : QueuedEvent) → IsAt order e → 1 ≤ rests_at e.owner e.slot (order ∷ others)
at-place order others e at =
    counts-one (is_order_at e.owner e.slot order) (rests_at e.owner e.slot others) (rw (at.0, at.1) (is_place-itself order.owner order.slot))

-- no event of an order is for another place
met-elsewhere : (side : Side) (t : TakerTerms) (order : Order) (lots : ℕ) (later : QueuedEvent) → is_order_at later.owner later.slot order ≡ false
    → NoneEnds (met_events side t order lots) later
met-elsewhere side t order lots later apart =
    total-none (ends_here later.owner later.slot) (met_events side t order lots)
    (All-weaker (IsAt order) (λ (e : QueuedEvent). ends_here later.owner later.slot e ≡ 0)
    (λ e at.
    let away : is_event_at later.owner later.slot e ≡ false = rw (at.0, at.1) apart in
    ap (λ here. cond (is_final e && here) 1 0) away ∙ ends-away (is_final e))
    (met_events side t order lots) (met-at side t order lots))
  where
    ends-away : (final : Bool) → ◌≡◌ {A = ℕ} (cond (final && false) 1 0) 0
    ends-away true = refl
    ends-away false = refl

meet-once : (side : Side) (t : TakerTerms) (w : Demand) (orders : List Order) → IsMetOnce orders (meet side t w orders)
meet-once side t = meet-induction side t (λ w orders met. IsMetOnce orders met) (record {
  ended = λ w orders none. (All-nil (λ (e : QueuedEvent). 1 ≤ rests_at e.owner e.slot orders), λ once. tt);
  part = λ w order others lots takes part. (
    All-append (λ (e : QueuedEvent). 1 ≤ rests_at e.owner e.slot (order ∷ others)) (met_events side t order lots) []
        (All-weaker (IsAt order) (λ (e : QueuedEvent). 1 ≤ rests_at e.owner e.slot (order ∷ others)) (at-place order others) (met_events side t order lots)
        (met-at side t order lots))
        (All-nil (λ (e : QueuedEvent). 1 ≤ rests_at e.owner e.slot (order ∷ others))),
    λ once. EndLast-behind (met_events side t order lots) [] (met-last side t order lots) tt (All-nil (NoneEnds (met_events side t order lots))),
  );
  whole = λ w order others lots rest takes whole held. (
    All-append (λ (e : QueuedEvent). 1 ≤ rests_at e.owner e.slot (order ∷ others)) (met_events side t order lots) rest.events
        (All-weaker (IsAt order) (λ (e : QueuedEvent). 1 ≤ rests_at e.owner e.slot (order ∷ others)) (at-place order others) (met_events side t order lots)
        (met-at side t order lots))
        (All-weaker (λ (e : QueuedEvent). 1 ≤ rests_at e.owner e.slot others) (λ (e : QueuedEvent). 1 ≤ rests_at e.owner e.slot (order ∷ others))
        (λ e rests. omega (arith, rests)) rest.events held.0),
    λ once.
        EndLast-behind (met_events side t order lots) rest.events (met-last side t order lots)
        (held.1 (λ owner slot. omega (arith, once owner slot)))
        (All-weaker (λ (e : QueuedEvent). 1 ≤ rests_at e.owner e.slot others) (NoneEnds (met_events side t order lots))
        (λ e rests.
        met-elsewhere side t order lots e (cond-one-none (is_order_at e.owner e.slot order) (omega (arith, rests, once e.owner e.slot))))
        rest.events held.0),
  );
})

-- each event of a meeting is for a place for which an order rested
pub meet-rested : (side : Side) (t : TakerTerms) (w : Demand) (orders : List Order)
    → All (λ (e : QueuedEvent). 1 ≤ rests_at e.owner e.slot orders) (meet side t w orders).events
meet-rested side t w orders = (meet-once side t w orders).0

-- where at most one order rests for each place, no event of a meeting comes after the end of its order
pub meet-ends_last : (side : Side) (t : TakerTerms) (w : Demand) (orders : List Order) → ((owner : Address) (slot : ℕ) → rests_at owner slot orders ≤ 1)
    → EndLast (meet side t w orders).events
meet-ends_last side t w orders = (meet-once side t w orders).1

-- at most one thing is held at a place
pub is_taken-le : (held : Option Holding) → is_taken held ≤ 1
is_taken-le None = omega arith
is_taken-le (Some held) = omega arith

-- what rests and ends at a place, by a side and the opposite one
pub counts-sides : (side : Side) (m : Market) → PlacesAgree m → (owner : Address) (slot : ℕ)
    → rests_at owner slot (orders side m) + rests_at owner slot (orders (opposite side) m) + ends_at owner slot m.events ≡ is_taken (held_at owner slot m.traders)
counts-sides side m agree owner slot = omega (arith, agree.counts owner slot, sides-sum (rests_at owner slot) side m)
