-- orders are met from the best one on, never past the limit price, and never the taker's own by a fill
use Rattle.std.proofs.Common.{ℕ, ◌≡◌, ⊎_elim, true, false, eqb, List, [], ◌∷◌, ◌++◌, Option, Some, None, refl, sym, ◌∙◌, subst}
use Rattle.std.specs.List.{All}
use Rattle.std.proofs.lemmas.Bool.{cases_Bool, cond_both, false≢true}
use Rattle.std.proofs.lemmas.List.Elements.{All-nil, All-cons, All-head, All-tail, All-append, All-weaker}
use Rattle.dex_types.specs.declared.addresses.Address.{Address}
use Rattle.dex_types.specs.declared.orders.Order.{Order}
use Rattle.dex_types.specs.declared.terms.Lots.{Lots}
use Rattle.dex_types.specs.declared.terms.Side.{Side}
use Rattle.dex_types.specs.declared.terms.Side.TheVariants.{Bid, Ask}
use Rattle.dex_types.specs.Meeting.{TakerTerms, Demand, Meeting, is_own, less, maker_fill, plain_out, releasing_out, met_events, met_none, met_first, demand_after, meet}
use Rattle.dex_types.specs.Posting.{PrecedesAll, InBookOrder}
use Rattle.dex_types.specs.QueuedEvent.{QueuedEvent}
use Rattle.dex_types.specs.Side.{price_of, opposite, crosses, precedes}
use Rattle.dex_laws.specs.BookOrder.{ComesBefore}
use Rattle.dex_laws.specs.BestFirst.{IsBestFirst, FitsOwner}
use Rattle.dex_laws.proofs.IdLaws.{precedes-asymmetric, precedes-irreflexive, precedes-iff}
use Rattle.dex_laws.proofs.MeetLaws.{meet-induction}
use Rattle.dex_laws.proofs.TraderLaws.{is_same-true, is_same-apart}

-- what holds of the three events that an order can give holds of those that it gives
pub All-met_events : (P : QueuedEvent → Type 0) (side : Side) (t : TakerTerms) (order : Order) (lots : ℕ)
    → (is_own t.owner order ≡ true → P (releasing_out (opposite side) t.sizes order lots))
    → (is_own t.owner order ≡ false → P (maker_fill (opposite side) t order lots) × P (plain_out (opposite side) order))
    → All P (met_events side t order lots)
All-met_events P side t order lots of_own of_other =
    ⊎_elim (λ (own : is_own t.owner order ≡ true). rw own (All-cons P _ [] (of_own own) (All-nil P)))
    (λ (other : is_own t.owner order ≡ false). rw other
    (All-cons P _ _ (of_other other).0
    (cond_both (eqb lots order.lots) (plain_out (opposite side) order ∷ []) [] (All P) (λ whole. All-cons P _ [] (of_other other).1 (All-nil P)) (λ part. All-nil P))))
    (cases_Bool (is_own t.owner order))

-- each event of an order has its id
id-maker_fill : (side : Side) (t : TakerTerms) (order : Order) (lots : ℕ) → (maker_fill side t order lots).id ≡ order.id
id-maker_fill Bid t order lots = refl
id-maker_fill Ask t order lots = refl

All-ids : (P : ℕ → Type 0) (side : Side) (t : TakerTerms) (order : Order) (lots : ℕ) → P order.id → All (λ (e : QueuedEvent). P e.id) (met_events side t order lots)
All-ids P side t order lots holds =
    All-met_events (λ e. P e.id) side t order lots (λ own. holds) (λ other. (subst P (sym (id-maker_fill (opposite side) t order lots)) holds, holds))

-- what holds of each id on the side holds of each event's
pub meet-ids : (P : ℕ → Type 0) (side : Side) (t : TakerTerms) (w : Demand) (orders : List Order)
    → All (λ (o : Order). P o.id) orders → All (λ (e : QueuedEvent). P e.id) (meet side t w orders).events
meet-ids P side t = meet-induction side t (λ w orders met. All (λ (o : Order). P o.id) orders → All (λ (e : QueuedEvent). P e.id) met.events) (record {
  ended = λ w orders none holds. All-nil (λ (e : QueuedEvent). P e.id);
  part = λ w order others lots takes part holds.
      All-append (λ (e : QueuedEvent). P e.id) (met_events side t order lots) [] (All-ids P side t order lots (All-head (λ (o : Order). P o.id) order others holds)) (All-nil (λ (e : QueuedEvent). P e.id));
  whole = λ w order others lots rest takes whole held holds.
      All-append (λ (e : QueuedEvent). P e.id) (met_events side t order lots) rest.events (All-ids P side t order lots (All-head (λ (o : Order). P o.id) order others holds))
      (held (All-tail (λ (o : Order). P o.id) order others holds));
})

-- each order that is met crosses the limit price
pub meet-crosses : (side : Side) (t : TakerTerms) (w : Demand) (orders : List Order)
    → All (λ (e : QueuedEvent). crosses side t.limit_price (price_of e.id) ≡ true) (meet side t w orders).events
meet-crosses side t =
    let P : ℕ → Type 0 = λ id. crosses side t.limit_price (price_of id) ≡ true in
    meet-induction side t (λ w orders met. All (λ (e : QueuedEvent). P e.id) met.events) (record {
      ended = λ w orders none. All-nil (λ (e : QueuedEvent). P e.id);
      part = λ w order others lots takes part.
          All-append (λ (e : QueuedEvent). P e.id) (met_events side t order lots) [] (All-ids P side t order lots takes.crossing) (All-nil (λ (e : QueuedEvent). P e.id));
      whole = λ w order others lots rest takes whole held.
          All-append (λ (e : QueuedEvent). P e.id) (met_events side t order lots) rest.events (All-ids P side t order lots takes.crossing) held;
    })

-- an order that stands before all others does so by ids
pub All-PrecedesAll : (side : Side) (id : ℕ) (orders : List Order) → PrecedesAll side id orders → All (λ (o : Order). precedes side id o.id ≡ true) orders
All-PrecedesAll side id [] before = All-nil (λ (o : Order). precedes side id o.id ≡ true)
All-PrecedesAll side id (order ∷ others) before =
    All-cons (λ (o : Order). precedes side id o.id ≡ true) order others before.0 (All-PrecedesAll side id others before.1)

-- and an id that stands before each of them stands before all
pub PrecedesAll-All : (side : Side) (id : ℕ) (orders : List Order) → All (λ (o : Order). precedes side id o.id ≡ true) orders → PrecedesAll side id orders
PrecedesAll-All side id [] before = tt
PrecedesAll-All side id (order ∷ others) before = (
  All-head (λ (o : Order). precedes side id o.id ≡ true) order others before,
  PrecedesAll-All side id others (All-tail (λ (o : Order). precedes side id o.id ≡ true) order others before),
)

-- no order that follows stands before this one
All-behind : (side : Side) (id : ℕ) (orders : List Order) → PrecedesAll side id orders → All (λ (o : Order). precedes side o.id id ≡ false) orders
All-behind side id orders before =
    All-weaker (λ (o : Order). precedes side id o.id ≡ true) (λ (o : Order). precedes side o.id id ≡ false) (λ o first. precedes-asymmetric side id o.id first)
    orders (All-PrecedesAll side id orders before)

IsBestFirst-append : (side : Side) (id : ℕ) (first later : List QueuedEvent) → All (λ (e : QueuedEvent). e.id ≡ id) first
    → All (λ (e : QueuedEvent). precedes side e.id id ≡ false) later → IsBestFirst side later → IsBestFirst side (first ++ later)
IsBestFirst-append side id [] later same behind best = best
IsBestFirst-append side id (event ∷ first) later same behind best =
    let here : event.id ≡ id = All-head (λ (e : QueuedEvent). e.id ≡ id) event first same in
    let there = All-tail (λ (e : QueuedEvent). e.id ≡ id) event first same in
    let P : QueuedEvent → Type 0 = λ e. precedes side e.id event.id ≡ false in (
      All-append P first later
          (All-weaker (λ (e : QueuedEvent). e.id ≡ id) P (λ e is. rw (is, here) (precedes-irreflexive side id)) first there)
          (subst (λ i. All (λ (e : QueuedEvent). precedes side e.id i ≡ false) later) (sym here) behind),
      IsBestFirst-append side id first later there behind best,
    )

-- what the induction carries: that the events and what is left stay behind all that the side stays behind
record KeepsOrder (side : Side) (orders : List Order) (met : Meeting) : Type 0 where
  events_behind : (id : ℕ) → PrecedesAll side id orders → All (λ (e : QueuedEvent). precedes side e.id id ≡ false) met.events
  left_behind : (id : ℕ) → PrecedesAll side id orders → All (λ (o : Order). precedes side o.id id ≡ false) met.left
  best_first : InBookOrder side orders → IsBestFirst side met.events
  left_after : InBookOrder side orders → All (λ (e : QueuedEvent). All (λ (o : Order). precedes side o.id e.id ≡ false) met.left) met.events

keeps_order-part : (side : Side) (t : TakerTerms) (w : Demand) (order : Order) (others : List Order) (lots : ℕ)
    → KeepsOrder (opposite side) (order ∷ others) (met_first side t order lots (met_none side t (demand_after side t w order lots) (less order lots ∷ others)))
keeps_order-part side t w order others lots =
    let s : Side = opposite side in
    record {
      events_behind = λ id before.
          let P : QueuedEvent → Type 0 = λ e. precedes s e.id id ≡ false in
          All-append P (met_events side t order lots) []
          (All-ids (λ i. precedes s i id ≡ false) side t order lots (precedes-asymmetric s id order.id before.0)) (All-nil P);
      left_behind = λ id before. All-behind s id (less order lots ∷ others) before;
      best_first = λ sorted.
          IsBestFirst-append s order.id (met_events side t order lots) []
          (All-ids (λ i. i ≡ order.id) side t order lots refl) (All-nil (λ (e : QueuedEvent). precedes s e.id order.id ≡ false)) tt;
      left_after = λ sorted.
          let P : QueuedEvent → Type 0 = λ e. All (λ (o : Order). precedes s o.id e.id ≡ false) (less order lots ∷ others) in
          All-append P (met_events side t order lots) []
          (All-ids (λ i. All (λ (o : Order). precedes s o.id i ≡ false) (less order lots ∷ others)) side t order lots
          (All-cons (λ (o : Order). precedes s o.id order.id ≡ false) (less order lots) others (precedes-irreflexive s order.id) (All-behind s order.id others sorted.0)))
          (All-nil P);
    }

keeps_order-whole : (side : Side) (t : TakerTerms) (order : Order) (others : List Order) (lots : ℕ) (rest : Meeting)
    → KeepsOrder (opposite side) others rest → KeepsOrder (opposite side) (order ∷ others) (met_first side t order lots rest)
keeps_order-whole side t order others lots rest held =
    let s : Side = opposite side in
    record {
      events_behind = λ id before.
          All-append (λ (e : QueuedEvent). precedes s e.id id ≡ false) (met_events side t order lots) rest.events
          (All-ids (λ i. precedes s i id ≡ false) side t order lots (precedes-asymmetric s id order.id before.0)) (held.events_behind id before.1);
      left_behind = λ id before. held.left_behind id before.1;
      best_first = λ sorted.
          IsBestFirst-append s order.id (met_events side t order lots) rest.events
          (All-ids (λ i. i ≡ order.id) side t order lots refl) (held.events_behind order.id sorted.0) (held.best_first sorted.1);
      left_after = λ sorted.
          All-append (λ (e : QueuedEvent). All (λ (o : Order). precedes s o.id e.id ≡ false) rest.left) (met_events side t order lots) rest.events
          (All-ids (λ i. All (λ (o : Order). precedes s o.id i ≡ false) rest.left) side t order lots (held.left_behind order.id sorted.0))
          (held.left_after sorted.1);
    }

meet-keeps_order : (side : Side) (t : TakerTerms) (w : Demand) (orders : List Order) → KeepsOrder (opposite side) orders (meet side t w orders)
meet-keeps_order side t = meet-induction side t (λ w orders met. KeepsOrder (opposite side) orders met) (record {
  ended = λ w orders none. record {
    events_behind = λ id before. All-nil (λ (e : QueuedEvent). precedes (opposite side) e.id id ≡ false);
    left_behind = λ id before. All-behind (opposite side) id orders before;
    best_first = λ sorted. tt;
    left_after = λ sorted. All-nil (λ (e : QueuedEvent). All (λ (o : Order). precedes (opposite side) o.id e.id ≡ false) orders);
  };
  part = λ w order others lots takes part. keeps_order-part side t w order others lots;
  whole = λ w order others lots rest takes whole held. keeps_order-whole side t order others lots rest held;
})

-- of a side in book order the best orders are met first
pub meet-IsBestFirst : (side : Side) (t : TakerTerms) (w : Demand) (orders : List Order)
    → InBookOrder (opposite side) orders → IsBestFirst (opposite side) (meet side t w orders).events
meet-IsBestFirst side t w orders = (meet-keeps_order side t w orders).best_first

-- and no order is left that stands before one that was met
pub meet-left_after : (side : Side) (t : TakerTerms) (w : Demand) (orders : List Order) → InBookOrder (opposite side) orders
    → All (λ (e : QueuedEvent). All (λ (o : Order). precedes (opposite side) o.id e.id ≡ false) (meet side t w orders).left) (meet side t w orders).events
meet-left_after side t w orders = (meet-keeps_order side t w orders).left_after

-- in the subject's words: none with a better price, nor an older one of the same price
pub meet-none_better : (side : Side) (t : TakerTerms) (w : Demand) (orders : List Order) → InBookOrder (opposite side) orders
    → All (λ (e : QueuedEvent). All (λ (o : Order). ComesBefore (opposite side) o.id e.id → ⊥) (meet side t w orders).left) (meet side t w orders).events
meet-none_better side t w orders sorted =
    let left : List Order = (meet side t w orders).left in
    All-weaker (λ (e : QueuedEvent). All (λ (o : Order). precedes (opposite side) o.id e.id ≡ false) left)
    (λ (e : QueuedEvent). All (λ (o : Order). ComesBefore (opposite side) o.id e.id → ⊥) left)
    (λ e.
    All-weaker (λ (o : Order). precedes (opposite side) o.id e.id ≡ false) (λ (o : Order). ComesBefore (opposite side) o.id e.id → ⊥)
    (λ o behind first. false≢true (sym behind ∙ (precedes-iff (opposite side) o.id e.id).1 first)) left)
    (meet side t w orders).events (meet-left_after side t w orders sorted)

-- a fill is never of the taker's own order, and a release always is
fits-own : (owner : Option Address) (side : Side) (sizes : Lots) (order : Order) (lots : ℕ) → is_own owner order ≡ true → FitsOwner owner (releasing_out side sizes order lots)
fits-own None side sizes order lots own = absurd (false≢true own)
fits-own (Some taker) side sizes order lots own = sym (is_same-true taker order.owner own)

fits-fill : (owner : Option Address) (side : Side) (t : TakerTerms) (order : Order) (lots : ℕ) → is_own owner order ≡ false → FitsOwner owner (maker_fill side t order lots)
fits-fill None Bid t order lots other = tt
fits-fill None Ask t order lots other = tt
fits-fill (Some taker) Bid t order lots other = λ same. is_same-apart taker order.owner other (sym same)
fits-fill (Some taker) Ask t order lots other = λ same. is_same-apart taker order.owner other (sym same)

fits-out : (owner : Option Address) (side : Side) (order : Order) → is_own owner order ≡ false → FitsOwner owner (plain_out side order)
fits-out None side order other = tt
fits-out (Some taker) side order other = λ same. is_same-apart taker order.owner other (sym same)

fits-met : (side : Side) (t : TakerTerms) (order : Order) (lots : ℕ) → All (FitsOwner t.owner) (met_events side t order lots)
fits-met side t order lots =
    All-met_events (FitsOwner t.owner) side t order lots (λ own. fits-own t.owner (opposite side) t.sizes order lots own)
    (λ other. (fits-fill t.owner (opposite side) t order lots other, fits-out t.owner (opposite side) order other))

-- so every fill of a meeting is of another trader's order, and every release of the taker's own
pub meet-FitsOwner : (side : Side) (t : TakerTerms) (w : Demand) (orders : List Order) → All (FitsOwner t.owner) (meet side t w orders).events
meet-FitsOwner side t = meet-induction side t (λ w orders met. All (FitsOwner t.owner) met.events) (record {
  ended = λ w orders none. All-nil (FitsOwner t.owner);
  part = λ w order others lots takes part. All-append (FitsOwner t.owner) (met_events side t order lots) [] (fits-met side t order lots) (All-nil (FitsOwner t.owner));
  whole = λ w order others lots rest takes whole held. All-append (FitsOwner t.owner) (met_events side t order lots) rest.events (fits-met side t order lots) held;
})
