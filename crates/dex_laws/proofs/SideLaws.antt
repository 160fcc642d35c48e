-- laws of a side in book order: its parts, its ids, and an order taken out of it
use Rattle.std.proofs.Common.{ℕ, zero, suc, ◌<◌, ◌≡◌, ◌≢◌, true, List, [], ◌∷◌, ◌++◌, length, get_or, sym, arith}
use Rattle.std.specs.List.{All}
use Rattle.std.proofs.lemmas.List.Elements.{All-nil, All-cons, All-head, All-tail, All-append, All-weaker}
use Rattle.dex_types.specs.declared.orders.Order.{Order}
use Rattle.dex_types.specs.declared.terms.Side.{Side}
use Rattle.dex_types.specs.Posting.{PrecedesAll, InBookOrder}
use Rattle.dex_types.specs.Side.{precedes}
use Rattle.dex_laws.proofs.BestFirstLaws.{All-PrecedesAll, PrecedesAll-All}
use Rattle.dex_laws.proofs.IdLaws.{precedes-apart, precedes-transitive}

-- an id that stands before two lists stands before both in one, and the other way round
pub PrecedesAll-append : (side : Side) (id : ℕ) (before after : List Order) → PrecedesAll side id before → PrecedesAll side id after → PrecedesAll side id (before ++ after)
PrecedesAll-append side id [] after first then = then
PrecedesAll-append side id (order ∷ before) after first then = (first.0, PrecedesAll-append side id before after first.1 then)

-- an id that stands before a list stands before its front
pub PrecedesAll-front : (side : Side) (id : ℕ) (before after : List Order) → PrecedesAll side id (before ++ after) → PrecedesAll side id before
PrecedesAll-front side id [] after all = tt
PrecedesAll-front side id (order ∷ before) after all = (all.0, PrecedesAll-front side id before after all.1)

-- and before its back
pub PrecedesAll-back : (side : Side) (id : ℕ) (before after : List Order) → PrecedesAll side id (before ++ after) → PrecedesAll side id after
PrecedesAll-back side id [] after all = all
PrecedesAll-back side id (order ∷ before) after all = PrecedesAll-back side id before after all.1

-- both parts of a side are in book order
pub InBookOrder-front : (side : Side) (before after : List Order) → InBookOrder side (before ++ after) → InBookOrder side before
InBookOrder-front side [] after sorted = tt
InBookOrder-front side (order ∷ before) after sorted = (PrecedesAll-front side order.id before after sorted.0, InBookOrder-front side before after sorted.1)

-- the back of a side in book order is in book order
pub InBookOrder-back : (side : Side) (before after : List Order) → InBookOrder side (before ++ after) → InBookOrder side after
InBookOrder-back side [] after sorted = sorted
InBookOrder-back side (order ∷ before) after sorted = InBookOrder-back side before after sorted.1

-- each order in front stands before the one that follows
pub All-before : (side : Side) (before : List Order) (order : Order) (after : List Order) → InBookOrder side (before ++ order ∷ after)
    → All (λ (o : Order). precedes side o.id order.id ≡ true) before
All-before side [] order after sorted = All-nil (λ (o : Order). precedes side o.id order.id ≡ true)
All-before side (first ∷ before) order after sorted =
    All-cons (λ (o : Order). precedes side o.id order.id ≡ true) first before (PrecedesAll-back side first.id before (order ∷ after) sorted.0).0
    (All-before side before order after sorted.1)

-- and that one stands before each after it
pub PrecedesAll-after : (side : Side) (before : List Order) (order : Order) (after : List Order) → InBookOrder side (before ++ order ∷ after) → PrecedesAll side order.id after
PrecedesAll-after side before order after sorted = (InBookOrder-back side before (order ∷ after) sorted).0

-- a side stays in book order where one order leaves
pub InBookOrder-without : (side : Side) (before : List Order) (order : Order) (after : List Order) → InBookOrder side (before ++ order ∷ after) → InBookOrder side (before ++ after)
InBookOrder-without side [] order after sorted = sorted.1
InBookOrder-without side (first ∷ before) order after sorted = (
  PrecedesAll-append side first.id before after (PrecedesAll-front side first.id before (order ∷ after) sorted.0)
      (PrecedesAll-back side first.id before (order ∷ after) sorted.0).1,
  InBookOrder-without side before order after sorted.1,
)

-- and no other has its id
pub ids-apart : (side : Side) (before : List Order) (order : Order) (after : List Order) → InBookOrder side (before ++ order ∷ after)
    → All (λ (o : Order). o.id ≢ order.id) (before ++ after)
ids-apart side before order after sorted =
    All-append (λ (o : Order). o.id ≢ order.id) before after
    (All-weaker (λ (o : Order). precedes side o.id order.id ≡ true) (λ (o : Order). o.id ≢ order.id) (λ o first. precedes-apart side o.id order.id first)
    before (All-before side before order after sorted))
    (All-weaker (λ (o : Order). precedes side order.id o.id ≡ true) (λ (o : Order). o.id ≢ order.id) (λ o first same. precedes-apart side order.id o.id first (sym same))
    after (All-PrecedesAll side order.id after (PrecedesAll-after side before order after sorted)))

-- two parts in book order are one side where the last of the first stands before the second
pub InBookOrder-append : (side : Side) (before : List Order) (order : Order) (after : List Order)
    → InBookOrder side before → InBookOrder side (order ∷ after) → All (λ (o : Order). precedes side o.id order.id ≡ true) before
    → InBookOrder side (before ++ order ∷ after)
InBookOrder-append side [] order after first then all = then
InBookOrder-append side (head ∷ before) order after first then all =
    let next : precedes side head.id order.id ≡ true = All-head (λ (o : Order). precedes side o.id order.id ≡ true) head before all in (
      PrecedesAll-append side head.id before (order ∷ after) first.0 (
        next,
        PrecedesAll-All side head.id after
            (All-weaker (λ (o : Order). precedes side order.id o.id ≡ true) (λ (o : Order). precedes side head.id o.id ≡ true)
            (λ o behind. precedes-transitive side head.id order.id o.id next behind) after (All-PrecedesAll side order.id after then.0)),
      ),
      InBookOrder-append side before order after first.1 then (All-tail (λ (o : Order). precedes side o.id order.id ≡ true) head before all),
    )

-- of two places the earlier order stands before the later
pub InBookOrder-at : (side : Side) (orders : List Order) (i j : ℕ) (default : Order) → InBookOrder side orders → i < j → j < length orders
    → precedes side (get_or orders i default).id (get_or orders j default).id ≡ true
InBookOrder-at side [] i j default sorted earlier inside = absurd (omega arith)
InBookOrder-at side (order ∷ others) i zero default sorted earlier inside = absurd (omega arith)
InBookOrder-at side (order ∷ others) zero (suc j) default sorted earlier inside =
    All-PrecedesAll side order.id others sorted.0 j default (omega arith)
InBookOrder-at side (order ∷ others) (suc i) (suc j) default sorted earlier inside =
    InBookOrder-at side others i j default sorted.1 (omega arith) (omega arith)
