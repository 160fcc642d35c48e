-- the place of an id on a side in book order
use Rattle.std.proofs.Common.{add-one, take, drop, length-append, ℕ, zero, suc, ◌+◌, ◌≤◌, ◌<◌, ◌≡◌, ◌≢◌, ⊎_elim, Bool, true, false, eqb, List, [], ◌∷◌, ◌++◌, Some, None, length, get_or, set, refl, sym, ap, ◌∙◌, subst, arith}
use Rattle.std.specs.List.{All, slice_get}
use Rattle.std.specs.List.Sorted.{IsPartitionPoint, IsPartitionedBy}
use Rattle.std.specs.Option.{IsSome}
use Rattle.std.proofs.lemmas.Bool.{cases_Bool, cases_lt, cond-true, cond-false, ne_eqb, eqb-false}
use Rattle.std.proofs.lemmas.List.Elements.{All-weaker}
use Rattle.std.proofs.Math.Seq.{get_or-append_seam, set-append_seam, take-append_seam, drop-append-add}
use Rattle.dex_types.specs.declared.orders.Order.{Order}
use Rattle.dex_types.specs.declared.terms.Side.{Side}
use Rattle.dex_types.specs.BookSide.{best_of}
use Rattle.dex_types.specs.Cancel.{order_with}
use Rattle.dex_types.specs.Posting.{PrecedesAll, InBookOrder}
use Rattle.dex_types.specs.Side.{precedes}
use Rattle.dex_book.specs.Places.{IsPlace, with_id}
use Rattle.dex_laws.specs.Posted.{place_of}
use Rattle.dex_laws.proofs.BookSideLaws.{IsBetween, Rests, rests, order_with-none, order_with-between, order_after-between, without_order-between, with_lots-between}
use Rattle.dex_laws.proofs.BestFirstLaws.{All-PrecedesAll}
use Rattle.dex_laws.proofs.PostLaws.{place_of-at}
use Rattle.dex_laws.proofs.IdLaws.{precedes-transitive, precedes-total, precedes-apart, precedes-irreflexive}
use Rattle.dex_laws.proofs.SideLaws.{InBookOrder-at, All-before}

-- an order that stands before the id
abbrev pub is_before : Side → ℕ → Order → Bool
is_before side id order = precedes side order.id id

-- on a side in book order no order before the id comes after one that is not
pub IsPartitionedBy-sorted : (side : Side) (id : ℕ) (orders : List Order) → InBookOrder side orders → IsPartitionedBy (is_before side id) orders
IsPartitionedBy-sorted side id orders sorted i j d before within stands =
    ⊎_elim
    (λ (earlier : i < j). precedes-transitive side (get_or orders i d).id (get_or orders j d).id id (InBookOrder-at side orders i j d sorted earlier within) stands)
    (λ (later : j ≤ i). let same : j ≡ i = omega arith in subst (λ k. precedes side (get_or orders k d).id id ≡ true) same stands)
    (cases_lt i j)

-- the place that parts the orders before the id from the others is its place
pub place_of-point : (side : Side) (id : ℕ) (orders : List Order) (place : ℕ) → place ≤ length orders
    → IsPartitionPoint (λ o. is_before side id o ≡ true) (λ o. is_before side id o ≡ false) orders place → place ≡ place_of side id orders
place_of-point side id [] place within parts = omega arith
place_of-point side id (first ∷ others) zero within parts =
    sym (cond-false _ _ _ (parts.1 0 first (omega arith) (omega arith)))
place_of-point side id (first ∷ others) (suc place) within parts =
    let behind : place ≡ place_of side id others =
    place_of-point side id others place (omega arith)
    (λ k d low high. parts.0 (suc k) d (omega arith) (omega arith), λ k d low high. parts.1 (suc k) d (omega arith) (omega arith)) in
    let further : place_of side id (first ∷ others) ≡ place_of side id others + 1 = cond-true _ _ _ (parts.0 0 first (omega arith) (omega arith)) in
    omega arith

-- after an order that does not stand before the id, and has another, no order has it
none-behind : (side : Side) (id : ℕ) (first : Order) (others : List Order) → PrecedesAll side first.id others → precedes side first.id id ≡ false
    → eqb first.id id ≡ false → order_with id others ≡ None
none-behind side id first others all behind apart =
    let turned : precedes side id first.id ≡ true = precedes-total side first.id id behind (eqb-false first.id id apart) in
    order_with-none id others
    (All-weaker (λ (o : Order). precedes side first.id o.id ≡ true) (λ (o : Order). o.id ≢ id)
    (λ o after same. precedes-apart side id o.id (precedes-transitive side id first.id o.id turned after) (sym same)) others (All-PrecedesAll side first.id others all))

-- so it is found only where it comes first
found-first : (side : Side) (id : ℕ) (first : Order) (others : List Order) → PrecedesAll side first.id others → precedes side first.id id ≡ false
    → order_with id (first ∷ others) ≡ with_id id (Some first)
found-first side id first others all behind =
    ⊎_elim (λ (same : eqb first.id id ≡ true). cond-true _ _ _ same ∙ sym (cond-true _ _ _ same))
    (λ (apart : eqb first.id id ≡ false). cond-false _ _ _ apart ∙ none-behind side id first others all behind apart ∙ sym (cond-false _ _ _ apart))
    (cases_Bool (eqb first.id id))

-- the order found by an id is the one at its place, where that has the id
pub order_with-place : (side : Side) (id : ℕ) (orders : List Order) → InBookOrder side orders
    → order_with id orders ≡ with_id id (slice_get orders (place_of side id orders))
order_with-place side id [] sorted = refl
order_with-place side id (first ∷ others) sorted =
    ⊎_elim
    (λ (before : precedes side first.id id ≡ true).
    let further : place_of side id (first ∷ others) ≡ suc (place_of side id others) = cond-true _ _ _ before ∙ add-one _ in
    cond-false _ _ _ (ne_eqb first.id id (precedes-apart side first.id id before)) ∙ order_with-place side id others sorted.1
    ∙ ap (λ place. with_id id (slice_get (first ∷ others) place)) (sym further))
    (λ (behind : precedes side first.id id ≡ false).
    let here : place_of side id (first ∷ others) ≡ 0 = cond-false _ _ _ behind in
    found-first side id first others sorted.0 behind
    ∙ ap (λ place. with_id id (slice_get (first ∷ others) place)) (sym here))
    (cases_Bool (precedes side first.id id))

-- an element after others
slice_get-behind : (before after : List Order) (n : ℕ) → slice_get (before ++ after) (length before + n) ≡ slice_get after n
slice_get-behind [] after n = ap (slice_get after) (omega arith)
slice_get-behind (first ∷ before) after n =
    let further : length (first ∷ before) + n ≡ suc (length before + n) = omega arith in
    ap (slice_get (first ∷ before ++ after)) further ∙ slice_get-behind before after n

slice_get-first : (orders : List Order) → slice_get orders 0 ≡ best_of orders
slice_get-first [] = refl
slice_get-first (first ∷ others) = refl

-- the place of an order between others is how many stand before it
IsPlace-between : (id : ℕ) (before : List Order) (order : Order) (after : List Order) → IsBetween id (before ++ order ∷ after) before order after
    → IsPlace id (before ++ order ∷ after) (length before)
IsPlace-between id before order after at = record {
  within = omega (arith, length-append before (order ∷ after));
  order = λ d. order_with-between id _ before order after at ∙ ap (λ (o : Order). Some o) (sym (get_or-append_seam before order after d));
  next = order_after-between id _ before order after at ∙ sym (slice_get-behind before (order ∷ after) 1 ∙ slice_get-first after);
  without =
      without_order-between id _ before order after at
      ∙ ap (λ front. front ++ after) (sym (take-append_seam before (order ∷ after)))
      ∙ ap (λ back. take (length before) (before ++ order ∷ after) ++ back) (sym (drop-append-add before (order ∷ after) 1))
      ∙ ap (λ n. take (length before) (before ++ order ∷ after) ++ drop n (before ++ order ∷ after)) (add-one (length before));
  with = λ lots d.
      with_lots-between id lots _ before order after at
      ∙ sym (set-append_seam before order after (record order { lots = lots }))
      ∙ ap (λ (o : Order). set (before ++ order ∷ after) (length before) (record o { lots = lots })) (sym (get_or-append_seam before order after d));
}

-- on a side in book order the place of a resting order's id is that order's
pub IsPlace-place_of : (side : Side) (id : ℕ) (orders : List Order) → InBookOrder side orders → IsSome (order_with id orders) → IsPlace id orders (place_of side id orders)
IsPlace-place_of side id orders sorted some =
    let r : Rests id orders = rests id orders some in
    let whole : InBookOrder side (r.before ++ r.order ∷ r.after) = subst (InBookOrder side) r.between.is sorted in
    let first : precedes side r.order.id id ≡ false = subst (λ other. precedes side r.order.id other ≡ false) r.between.id_is (precedes-irreflexive side r.order.id) in
    let before : All (λ (o : Order). precedes side o.id id ≡ true) r.before =
    subst (λ other. All (λ (o : Order). precedes side o.id other ≡ true) r.before) r.between.id_is (All-before side r.before r.order r.after whole) in
    let none : place_of side id (r.order ∷ r.after) ≡ 0 = cond-false _ _ _ first in
    let place : place_of side id (r.before ++ r.order ∷ r.after) ≡ length r.before = omega (arith, place_of-at side id r.before (r.order ∷ r.after) before, none) in
    let at : IsBetween id (r.before ++ r.order ∷ r.after) r.before r.order r.after = record { is = refl; id_is = r.between.id_is; apart = r.between.apart } in
    let there : IsPlace id (r.before ++ r.order ∷ r.after) (place_of side id (r.before ++ r.order ∷ r.after)) =
    subst (IsPlace id (r.before ++ r.order ∷ r.after)) (sym place) (IsPlace-between id r.before r.order r.after at) in
    subst (λ os. IsPlace id os (place_of side id os)) (sym r.between.is) there
