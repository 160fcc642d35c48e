-- an order found on a side by its id, and the side without it
use Rattle.std.proofs.Common.{ℕ, ◌+◌, ◌≡◌, ◌≢◌, true, false, eqb, List, [], ◌∷◌, Some, length, refl, sym, ap, ◌∙◌, subst, arith, ⊎_elim}
use Rattle.std.specs.List.{All}
use Rattle.std.proofs.lemmas.Bool.{cases_Bool, cond-true, cond-false, eqb-true, eq-eqb, ne_eqb}
use Rattle.std.proofs.lemmas.List.Elements.{All-cons, All-head, All-tail}
use Rattle.dex_types.specs.declared.orders.Order.{Order}
use Rattle.dex_types.specs.declared.terms.Side.{Side}
use Rattle.dex_types.specs.Cancel.{order_with, without_order}
use Rattle.dex_types.specs.Posting.{InBookOrder}
use Rattle.dex_types.specs.Side.{precedes}
use Rattle.dex_types.specs.Totals.{total}
use Rattle.dex_laws.proofs.BestFirstLaws.{All-PrecedesAll, PrecedesAll-All}

-- the look-up and the removal, at an order of the id and at one of another
order_with-here : (id : ℕ) (first : Order) (others : List Order) → eqb first.id id ≡ true → order_with id (first ∷ others) ≡ Some first
order_with-here id first others same = cond-true _ _ _ same

order_with-there : (id : ℕ) (first : Order) (others : List Order) → eqb first.id id ≡ false → order_with id (first ∷ others) ≡ order_with id others
order_with-there id first others apart = cond-false _ _ _ apart

without-here : (id : ℕ) (first : Order) (others : List Order) → eqb first.id id ≡ true → without_order id (first ∷ others) ≡ others
without-here id first others same = cond-true _ _ _ same

without-there : (id : ℕ) (first : Order) (others : List Order) → eqb first.id id ≡ false → without_order id (first ∷ others) ≡ first ∷ without_order id others
without-there id first others apart = cond-false _ _ _ apart

-- an order of the id that stands first is found
pub order_with-first : (first : Order) (others : List Order) → order_with first.id (first ∷ others) ≡ Some first
order_with-first first others = order_with-here first.id first others (eq-eqb first.id first.id refl)

-- after an order of another id one is found as without it
pub order_with-behind : (id : ℕ) (first : Order) (others : List Order) → first.id ≢ id → order_with id (first ∷ others) ≡ order_with id others
order_with-behind id first others apart = order_with-there id first others (ne_eqb first.id id apart)

-- what holds of lists that the order found stands first in, and of lists after another id, holds of each list that it
-- is found in
pub found-induction : (id : ℕ) (order : Order) (P : List Order → Type 0)
    → ((others : List Order) → eqb order.id id ≡ true → P (order ∷ others))
    → ((first : Order) (others : List Order) → eqb first.id id ≡ false → order_with id others ≡ Some order → P others → P (first ∷ others))
    → (orders : List Order) → order_with id orders ≡ Some order → P orders
found-induction id order P here there [] found = absurd (cc)
found-induction id order P here there (first ∷ others) found =
    ⊎_elim
    (λ (same : eqb first.id id ≡ true).
    let both : Some first ≡ Some order = sym (order_with-here id first others same) ∙ found in
    let one : first ≡ order = cc in
    subst (λ o. P (o ∷ others)) (sym one) (here others (subst (λ (o : Order). eqb o.id id ≡ true) one same)))
    (λ (apart : eqb first.id id ≡ false).
    let later : order_with id others ≡ Some order = sym (order_with-there id first others apart) ∙ found in
    there first others apart later (found-induction id order P here there others later))
    (cases_Bool (eqb first.id id))

-- the order found has the id
pub found-id : (id : ℕ) (order : Order) (orders : List Order) → order_with id orders ≡ Some order → order.id ≡ id
found-id id order =
    found-induction id order (λ orders. order.id ≡ id) (λ others same. eqb-true order.id id same) (λ first others apart found rest. rest)

-- and what holds of all orders
pub found-All : (P : Order → Type 0) (id : ℕ) (order : Order) (orders : List Order) → order_with id orders ≡ Some order → All P orders → P order
found-All P id order =
    found-induction id order (λ orders. All P orders → P order)
    (λ others same all. All-head P order others all) (λ first others apart found rest all. rest (All-tail P first others all))

-- a side without the order weighs so much less
pub total-without : (weight : Order → ℕ) (id : ℕ) (order : Order) (orders : List Order) → order_with id orders ≡ Some order
    → total weight (without_order id orders) + weight order ≡ total weight orders
total-without weight id order =
    found-induction id order (λ orders. total weight (without_order id orders) + weight order ≡ total weight orders)
    (λ others same. rw (without-here id order others same) (omega arith))
    (λ first others apart found rest. rw (without-there id first others apart) (omega (arith, rest)))

pub length-without : (id : ℕ) (order : Order) (orders : List Order) → order_with id orders ≡ Some order → length (without_order id orders) + 1 ≡ length orders
length-without id order =
    found-induction id order (λ orders. length (without_order id orders) + 1 ≡ length orders)
    (λ others same. rw (without-here id order others same) (omega arith))
    (λ first others apart found rest. rw (without-there id first others apart) (omega (arith, rest)))

-- what holds of all orders holds of those that stay
pub All-without : (P : Order → Type 0) (id : ℕ) (orders : List Order) → All P orders → All P (without_order id orders)
All-without P id [] all = all
All-without P id (first ∷ others) all =
    ⊎_elim
    (λ (same : eqb first.id id ≡ true). subst (All P) (sym (without-here id first others same)) (All-tail P first others all))
    (λ (apart : eqb first.id id ≡ false).
    subst (All P) (sym (without-there id first others apart))
    (All-cons P first (without_order id others) (All-head P first others all) (All-without P id others (All-tail P first others all))))
    (cases_Bool (eqb first.id id))

-- those that stay are in book order
pub InBookOrder-without_order : (side : Side) (id : ℕ) (orders : List Order) → InBookOrder side orders → InBookOrder side (without_order id orders)
InBookOrder-without_order side id [] sorted = tt
InBookOrder-without_order side id (first ∷ others) sorted =
    ⊎_elim
    (λ (same : eqb first.id id ≡ true). subst (InBookOrder side) (sym (without-here id first others same)) sorted.1)
    (λ (apart : eqb first.id id ≡ false).
    subst (InBookOrder side) (sym (without-there id first others apart)) (
      PrecedesAll-All side first.id (without_order id others)
          (All-without (λ (o : Order). precedes side first.id o.id ≡ true) id others (All-PrecedesAll side first.id others sorted.0)),
      InBookOrder-without_order side id others sorted.1,
    ))
    (cases_Bool (eqb first.id id))

-- an order of another id is found as before
pub order_with-without : (id other : ℕ) (orders : List Order) → eqb other id ≡ false → order_with id (without_order other orders) ≡ order_with id orders
order_with-without id other [] apart = refl
order_with-without id other (first ∷ others) apart =
    ⊎_elim
    (λ (gone : eqb first.id other ≡ true).
    let away : eqb first.id id ≡ false = subst (λ i. eqb i id ≡ false) (sym (eqb-true first.id other gone)) apart in
    ap (order_with id) (without-here other first others gone) ∙ sym (order_with-there id first others away))
    (λ (stays : eqb first.id other ≡ false).
    ap (order_with id) (without-there other first others stays)
    ∙ ⊎_elim
    (λ (same : eqb first.id id ≡ true). order_with-here id first (without_order other others) same ∙ sym (order_with-here id first others same))
    (λ (away : eqb first.id id ≡ false).
    order_with-there id first (without_order other others) away ∙ order_with-without id other others apart ∙ sym (order_with-there id first others away))
    (cases_Bool (eqb first.id id)))
    (cases_Bool (eqb first.id other))
