-- The prices of a side, counted along a walk.
use Rattle.std.proofs.Common.{◌≡◌, ◌∙◌, ◌+◌, ◌-◌, ◌^◌, ◌≤◌, ℕ, zero, suc, List, [], ◌∷◌, ◌++◌, Option, Some, ap, arith, subst, sym}
use Rattle.std.proofs.lemmas.Bool.{cond-true, cond-false, eq-eqb, ne_eqb}
use Rattle.dex_types.specs.declared.orders.Order.{Order}
use Rattle.dex_types.specs.declared.terms.Side.{Side}
use Rattle.dex_types.specs.BookSide.{order_after}
use Rattle.dex_types.specs.Cancel.{order_with}
use Rattle.dex_types.specs.Side.{price_of}
use Rattle.dex_laws.specs.Walks.{IsReached, orders_from}
use Rattle.dex_laws.proofs.WalkLaws.{walk-step}
use Rattle.dex_slab.specs.Slab.{IsSlab, resting}
use Rattle.dex_slab.specs.SlabSide.{slab_side}
use Rattle.dex_desk.specs.Books.{behind_price, capped, level_text, lots_at, side_lines}

-- ---- a walk along a side's bytes

-- a walk is at an order: what it has before it is this order and those behind it, of which the first is reached
pub record IsAt (side : Side) (bytes : List ℕ) (next : Option Order) (order : Order) : Type 0 where
  pub front : orders_from next (resting side bytes) ≡ order ∷ orders_from (order_after order.id (resting side bytes)) (resting side bytes)
  pub rests : order_with order.id (resting side bytes) ≡ Some order
  pub reached : IsReached (order_after order.id (resting side bytes)) (resting side bytes)

pub walk-at : (side : Side) (bytes : List ℕ) (next : Option Order) (order : Order) → IsSlab bytes → next ≡ Some order
    → IsReached next (resting side bytes) → IsAt side bytes next order
walk-at side bytes next order slab is reached =
    let all = resting side bytes in
    let rests : IsReached (Some order) all = subst (λ (o : Option Order). IsReached o all) is reached in
    let step = walk-step side all order (slab_side side bytes slab).in_order rests in
    record { front = ap (λ (o : Option Order). orders_from o all) is ∙ step.0; rests = rests; reached = step.1 }

-- ---- the orders of a price

capped-more : (a b x : ℕ) → capped (capped (a + b) + x) ≡ capped (a + (b + x))
capped-more a b x = omega arith

lots-same : (price : ℕ) (order : Order) (orders : List Order) → price_of order.id ≡ price
    → lots_at price (order ∷ orders) ≡ order.lots + lots_at price orders
lots-same price order orders is = cond-true _ _ _ (eq-eqb (price_of order.id) price is)

lots-other : (price : ℕ) (order : Order) (orders : List Order) → (price_of order.id ≡ price → ⊥) → lots_at price (order ∷ orders) ≡ 0
lots-other price order orders other = cond-false _ _ _ (ne_eqb (price_of order.id) price other)

behind-same : (price : ℕ) (order : Order) (orders : List Order) → price_of order.id ≡ price
    → behind_price price (order ∷ orders) ≡ behind_price price orders
behind-same price order orders is = cond-true _ _ _ (eq-eqb (price_of order.id) price is)

behind-other : (price : ℕ) (order : Order) (orders : List Order) → (price_of order.id ≡ price → ⊥)
    → behind_price price (order ∷ orders) ≡ order ∷ orders
behind-other price order orders other = cond-false _ _ _ (ne_eqb (price_of order.id) price other)

-- so many lots were counted of the orders of a price, and these orders are still to be looked at
pub record HasCounted (price counted : ℕ) (orders whole : List Order) : Type 0 where
  pub lots : capped (counted + lots_at price orders) ≡ capped (lots_at price whole)
  pub behind : behind_price price orders ≡ behind_price price whole
  pub small : counted ≤ 2 ^ 64 - 1

-- one order more of the price
pub counted-on : (price lots : ℕ) (order : Order) (orders rest whole : List Order) → orders ≡ order ∷ rest → price_of order.id ≡ price
    → HasCounted price lots orders whole → HasCounted price (capped (lots + order.lots)) rest whole
counted-on price lots order orders rest whole is same held = record {
  lots = capped-more lots order.lots (lots_at price rest)
      ∙ ap (λ (n : ℕ). capped (lots + n)) (sym (ap (lots_at price) is ∙ lots-same price order rest same)) ∙ held.lots;
  behind = sym (ap (behind_price price) is ∙ behind-same price order rest same) ∙ held.behind;
  small = omega arith;
}

-- the next order is of another price: that is all
pub counted-all : (price lots : ℕ) (order : Order) (orders rest whole : List Order) → orders ≡ order ∷ rest → (price_of order.id ≡ price → ⊥)
    → HasCounted price lots orders whole → (lots ≡ capped (lots_at price whole)) × (orders ≡ behind_price price whole)
counted-all price lots order orders rest whole is other held =
    let none : lots_at price orders ≡ 0 = ap (lots_at price) is ∙ lots-other price order rest other in (
      omega (arith, none, held.lots, held.small),
      is ∙ sym (behind-other price order rest other) ∙ sym (ap (behind_price price) is) ∙ held.behind,
    )

-- or no order is left
pub counted-end : (price lots : ℕ) (whole : List Order) → HasCounted price lots [] whole
    → (lots ≡ capped (lots_at price whole)) × ([] ≡ behind_price price whole)
counted-end price lots whole held = (omega (arith, held.lots, held.small), held.behind)

-- ---- the lines of a side

-- the line of the first price, and those behind it
pub side-lines-more : (side : Side) (left less : ℕ) (first : Order) (orders rest : List Order) → orders ≡ first ∷ rest → left ≡ less + 1
    → side_lines side left orders
    ≡ level_text side (price_of first.id) (capped (lots_at (price_of first.id) orders)) ++ side_lines side less (behind_price (price_of first.id) orders)
side-lines-more side zero less first orders rest is more = absurd (omega (arith, more))
side-lines-more side (suc left) less first orders rest is more =
    let price = price_of first.id in
    let same : left ≡ less = omega (arith, more) in
    ap (side_lines side (suc left)) is
    ∙ ap (λ (os : List Order). level_text side price (capped (lots_at price os)) ++ side_lines side left (behind_price price os)) (sym is)
    ∙ ap (λ (n : ℕ). level_text side price (capped (lots_at price orders)) ++ side_lines side n (behind_price price orders)) same

-- a price that was written, and the lines of those behind it
pub level-written : (side : Side) (left less : ℕ) (first : Order) (orders rest later : List Order) (of : Side) (price lots : ℕ) → orders ≡ first ∷ rest
    → left ≡ less + 1 → of ≡ side → price ≡ price_of first.id → lots ≡ capped (lots_at (price_of first.id) orders)
    → later ≡ behind_price (price_of first.id) orders → level_text of price lots ++ side_lines side less later ≡ side_lines side left orders
level-written side left less first orders rest later of price lots is more of_is price_is lots_is later_is =
    rw (of_is, price_is, lots_is, later_is) (sym (side-lines-more side left less first orders rest is more))
