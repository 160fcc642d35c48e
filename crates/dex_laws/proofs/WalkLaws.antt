-- laws of walks along a side of the book
use Rattle.std.proofs.Common.{append_assoc, ℕ, ◌≡◌, List, [], ◌∷◌, ◌++◌, Some, refl, sym, ap, ◌∙◌, subst}
use Rattle.std.specs.Option.{is_some}
use Rattle.std.proofs.lemmas.Bool.{cond-true, cond-false, eq-eqb, ne_eqb}
use Rattle.std.proofs.lemmas.List.Elements.{All-head, All-tail}
use Rattle.dex_types.specs.declared.orders.Order.{Order}
use Rattle.dex_types.specs.declared.terms.Side.{Side}
use Rattle.dex_types.specs.BookSide.{best_of, order_after}
use Rattle.dex_types.specs.Cancel.{order_with}
use Rattle.dex_types.specs.Posting.{InBookOrder}
use Rattle.dex_laws.specs.Walks.{from_id, orders_from, IsReached}
use Rattle.dex_laws.proofs.BookSideLaws.{IsApart, IsBetween, Rests, rests, order_with-between, order_after-between, between-sorted}

-- the orders from one on, where orders of other ids stand before it
pub from_id-between : (id : ℕ) (orders before : List Order) (order : Order) (after : List Order) → IsBetween id orders before order after
    → from_id id orders ≡ order ∷ after
from_id-between id orders before order after at =
    ap (from_id id) at.is ∙ behind before at.apart ∙ cond-true _ _ _ (eq-eqb order.id id at.id_is)
  where
    behind : (before : List Order) → IsApart id before → from_id id (before ++ order ∷ after) ≡ from_id id (order ∷ after)
    behind [] apart = refl
    behind (first ∷ before) apart =
        cond-false _ _ _ (ne_eqb first.id id (All-head (λ (o : Order). o.id ≡ id → ⊥) first before apart)) ∙ behind before (All-tail (λ (o : Order). o.id ≡ id → ⊥) first before apart)

-- a walk begins at the best order, with the whole side before it
pub walk-start : (orders : List Order) → (orders_from (best_of orders) orders ≡ orders) × IsReached (best_of orders) orders
walk-start [] = (refl, tt)
walk-start (first ∷ others) = (cond-true _ _ _ (eq-eqb first.id first.id refl), cond-true _ _ _ (eq-eqb first.id first.id refl))

-- the first order after another one on a side in book order is reached, with all after that before it
reached-behind : (side : Side) (before : List Order) (order : Order) (after : List Order) → InBookOrder side (before ++ order ∷ after)
    → (orders_from (best_of after) (before ++ order ∷ after) ≡ after) × IsReached (best_of after) (before ++ order ∷ after)
reached-behind side before order [] sorted = (refl, tt)
reached-behind side before order (next ∷ after) sorted =
    let regroup : (before ++ order ∷ []) ++ next ∷ after ≡ before ++ order ∷ next ∷ after = append_assoc before (order ∷ []) (next ∷ after) in
    let at : IsBetween next.id ((before ++ order ∷ []) ++ next ∷ after) (before ++ order ∷ []) next after =
    between-sorted side (before ++ order ∷ []) next after (subst (InBookOrder side) (sym regroup) sorted) in
    let there : IsBetween next.id (before ++ order ∷ next ∷ after) (before ++ order ∷ []) next after = record { is = sym regroup; id_is = refl; apart = at.apart } in
    (from_id-between next.id _ (before ++ order ∷ []) next after there, order_with-between next.id _ (before ++ order ∷ []) next after there)

-- a walk goes on: after an order that is reached is what the order that follows has before it
pub walk-step : (side : Side) (orders : List Order) (order : Order) → InBookOrder side orders → order_with order.id orders ≡ Some order
    → (orders_from (Some order) orders ≡ order ∷ orders_from (order_after order.id orders) orders) × IsReached (order_after order.id orders) orders
walk-step side orders order sorted found =
    let r : Rests order.id orders = rests order.id orders (ap is_some found) in
    let same : Some r.order ≡ Some order = sym (order_with-between order.id orders r.before r.order r.after r.between) ∙ found in
    let is : r.order ≡ order = cc in
    let next : order_after order.id orders ≡ best_of r.after = order_after-between order.id orders r.before r.order r.after r.between in
    let behind = reached-behind side r.before r.order r.after (subst (InBookOrder side) r.between.is sorted) in
    let rest : orders_from (order_after order.id orders) orders ≡ r.after = ap (λ o. orders_from o orders) next ∙ subst (λ os. orders_from (best_of r.after) os ≡ r.after) (sym r.between.is) behind.0 in (
      from_id-between order.id orders r.before r.order r.after r.between ∙ ap (λ (o : Order). o ∷ r.after) is ∙ ap (λ os. order ∷ os) (sym rest),
      subst (λ o. IsReached o orders) (sym next) (subst (λ os. IsReached (best_of r.after) os) (sym r.between.is) behind.1),
    )
