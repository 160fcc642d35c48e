-- laws of what a meeting leaves of the side
use Rattle.std.proofs.Common.{ℕ, suc, ◌-◌, ◌≤◌, ◌<◌, ◌≡◌, List, [], ◌∷◌, length, map, drop, refl, sym, ap, ◌∙◌, subst, inl, inr, arith}
use Rattle.std.specs.List.{All}
use Rattle.std.proofs.lemmas.List.Elements.{All-head, All-tail, All-cons}
use Rattle.std.proofs.Math.Seq.{drop-nil}
use Rattle.dex_types.specs.declared.orders.Order.{Order}
use Rattle.dex_types.specs.declared.terms.Side.{Side}
use Rattle.dex_types.specs.Meeting.{TakerTerms, Demand, less, meet}
use Rattle.dex_types.specs.Posting.{PrecedesAll, InBookOrder}
use Rattle.dex_laws.specs.Remaining.{IsLeftOf}
use Rattle.dex_laws.proofs.MeetLaws.{meet-induction}

IsLeftOf-all : (orders : List Order) → IsLeftOf orders orders
IsLeftOf-all [] = refl
IsLeftOf-all (order ∷ others) = inl refl

-- what a meeting leaves is left of the side
pub meet-left : (side : Side) (t : TakerTerms) (w : Demand) (orders : List Order) → IsLeftOf (meet side t w orders).left orders
meet-left side t = meet-induction side t (λ w orders met. IsLeftOf met.left orders) (record {
  ended = λ w orders none. IsLeftOf-all orders;
  part = λ w order others lots takes part. inr (inl (record { lots = lots; some_go = takes.some; some_stay = part; is = refl }));
  whole = λ w order others lots rest takes whole held. inr (inr held);
})

-- what holds of a side, of the orders after its first, and of those with a part of the first, holds of what is left
pub IsLeftOf-induction : (P : List Order → Type 0)
    → ((order : Order) (others : List Order) → P (order ∷ others) → P others)
    → ((order : Order) (others : List Order) (lots : ℕ) → 0 < lots → lots < order.lots → P (order ∷ others) → P (less order lots ∷ others))
    → (left orders : List Order) → IsLeftOf left orders → P orders → P left
IsLeftOf-induction P behind part left [] is holds = subst P (sym is) holds
IsLeftOf-induction P behind part left (order ∷ others) (inl is) holds = subst P (sym is) holds
IsLeftOf-induction P behind part left (order ∷ others) (inr (inl is)) holds = subst P (sym is.is) (part order others is.lots is.some_go is.some_stay holds)
IsLeftOf-induction P behind part left (order ∷ others) (inr (inr is)) holds = IsLeftOf-induction P behind part left others is (behind order others holds)

-- a side stays in book order
PrecedesAll-less : (side : Side) (id : ℕ) (order : Order) (lots : ℕ) (others : List Order) → PrecedesAll side id (order ∷ others) → PrecedesAll side id (less order lots ∷ others)
PrecedesAll-less side id order lots others before = before

-- fewer lots of the first order change nothing in the order
pub InBookOrder-less : (side : Side) (order : Order) (lots : ℕ) (others : List Order) → InBookOrder side (order ∷ others) → InBookOrder side (less order lots ∷ others)
InBookOrder-less side order lots others sorted = sorted

-- so what is left of a side in book order is in book order
pub InBookOrder-left : (side : Side) (left orders : List Order) → IsLeftOf left orders → InBookOrder side orders → InBookOrder side left
InBookOrder-left side = IsLeftOf-induction (InBookOrder side) (λ order others sorted. sorted.1) (λ order others lots some_go some_stay sorted. sorted)

-- an id that stands before a side stands before what is left of it
pub PrecedesAll-left : (side : Side) (id : ℕ) (left orders : List Order) → IsLeftOf left orders → PrecedesAll side id orders → PrecedesAll side id left
PrecedesAll-left side id = IsLeftOf-induction (PrecedesAll side id) (λ order others before. before.1) (λ order others lots some_go some_stay before. before)

-- what holds of each order, with fewer lots too, holds of each that is left
pub All-left : (P : Order → Type 0) → ((order : Order) (lots : ℕ) → 0 < lots → lots < order.lots → P order → P (less order lots))
    → (left orders : List Order) → IsLeftOf left orders → All P orders → All P left
All-left P smaller =
    IsLeftOf-induction (All P) (λ order others holds. All-tail P order others holds)
    (λ order others lots some_go some_stay holds.
    All-cons P (less order lots) others (smaller order lots some_go some_stay (All-head P order others holds)) (All-tail P order others holds))

-- the side gets no longer
pub length-left : (left orders : List Order) → IsLeftOf left orders → length left ≤ length orders
length-left left orders is =
    IsLeftOf-induction (λ rest. length rest ≤ length orders) (λ order others within. omega arith) (λ order others lots some_go some_stay within. within)
    left orders is (omega arith)

-- the ids that are left are the last of those that were there
pub ids-left : (left orders : List Order) → IsLeftOf left orders
    → map (λ (o : Order). o.id) left ≡ drop (length orders - length left) (map (λ (o : Order). o.id) orders)
ids-left left [] is = ap (map (λ (o : Order). o.id)) is ∙ sym (drop-nil _)
ids-left left (order ∷ others) (inl is) =
    let none : length (order ∷ others) - length left ≡ 0 = omega (arith, ap length is) in rw (none, is) refl
ids-left left (order ∷ others) (inr (inl is)) =
    let none : length (order ∷ others) - length left ≡ 0 = omega (arith, ap length is.is) in rw (none, is.is) refl
ids-left left (order ∷ others) (inr (inr is)) =
    let one : length (order ∷ others) - length left ≡ suc (length others - length left) = omega (arith, length-left left others is) in
    rw one (ids-left left others is)
