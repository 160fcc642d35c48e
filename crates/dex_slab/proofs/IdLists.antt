-- Lists of orders by their ids: where an order is posted, found, changed and taken out.
use Rattle.std.proofs.Common.{◌≡◌, ◌≢◌, ℕ, ◌⊎◌, inl, inr, true, false, List, [], ◌∷◌, ◌++◌, Some, None, IsSome, refl, ap}
use Rattle.std.proofs.lemmas.Bool.{cases_eq, eq-eqb, ne_eqb}
use Rattle.dex_types.specs.declared.orders.Order.{Order}
use Rattle.dex_types.specs.declared.terms.Side.{Side}
use Rattle.dex_types.specs.BookSide.{with_lots}
use Rattle.dex_types.specs.Cancel.{order_with, without_order}
use Rattle.dex_types.specs.Posting.{posted}
use Rattle.dex_types.specs.Side.{precedes}

-- a fact of each order's id
abbrev pub AllIds : (ℕ → Type 0) → List Order → Type 0
AllIds Holds [] = Unit {0}
AllIds Holds (order ∷ others) = Holds order.id × AllIds Holds others

pub AllIds-append : (Holds : ℕ → Type 0) (xs ys : List Order) → AllIds Holds xs → AllIds Holds ys → AllIds Holds (xs ++ ys)
AllIds-append Holds [] ys hx hy = hy
AllIds-append Holds (x ∷ xs) ys hx hy = (hx.0, AllIds-append Holds xs ys hx.1 hy)

pub AllIds-map : (P Q : ℕ → Type 0) → ((id : ℕ) → P id → Q id) → (xs : List Order) → AllIds P xs → AllIds Q xs
AllIds-map P Q f [] h = tt
AllIds-map P Q f (x ∷ xs) h = (f x.id h.0, AllIds-map P Q f xs h.1)

-- an order is posted after those that stand before it
pub posted-behind : (side : Side) (order : Order) (xs ys : List Order) → AllIds (λ id. precedes side id order.id ≡ true) xs
    → posted side order (xs ++ ys) ≡ xs ++ posted side order ys
posted-behind side order [] ys h = refl
posted-behind side order (x ∷ xs) ys h = rw h.0 (ap (λ (l : List Order). x ∷ l) (posted-behind side order xs ys h.1))

-- and before those that do not
pub posted-front : (side : Side) (order : Order) (xs : List Order) → AllIds (λ id. precedes side id order.id ≡ false) xs
    → posted side order xs ≡ order ∷ xs
posted-front side order [] h = refl
posted-front side order (x ∷ xs) h = rw h.0 refl

-- the order of an id after those of other ids
pub order_with-behind : (id : ℕ) (xs : List Order) (order : Order) (ys : List Order) → AllIds (λ other. other ≢ id) xs → order.id ≡ id
    → order_with id (xs ++ order ∷ ys) ≡ Some order
order_with-behind id [] order ys h same = rw (eq-eqb order.id id same) refl
order_with-behind id (x ∷ xs) order ys h same = rw (ne_eqb x.id id h.0) (order_with-behind id xs order ys h.1 same)

pub without_order-behind : (id : ℕ) (xs : List Order) (order : Order) (ys : List Order) → AllIds (λ other. other ≢ id) xs → order.id ≡ id
    → without_order id (xs ++ order ∷ ys) ≡ xs ++ ys
without_order-behind id [] order ys h same = rw (eq-eqb order.id id same) refl
without_order-behind id (x ∷ xs) order ys h same =
    rw (ne_eqb x.id id h.0) (ap (λ (l : List Order). x ∷ l) (without_order-behind id xs order ys h.1 same))

pub with_lots-behind : (id lots : ℕ) (xs : List Order) (order : Order) (ys : List Order) → AllIds (λ other. other ≢ id) xs → order.id ≡ id
    → with_lots id lots (xs ++ order ∷ ys) ≡ xs ++ record order { lots = lots } ∷ ys
with_lots-behind id lots [] order ys h same = rw (eq-eqb order.id id same) refl
with_lots-behind id lots (x ∷ xs) order ys h same =
    rw (ne_eqb x.id id h.0) (ap (λ (l : List Order). x ∷ l) (with_lots-behind id lots xs order ys h.1 same))

-- some order has the id
abbrev pub HasId : ℕ → List Order → Type 0
HasId id [] = ⊥
HasId id (order ∷ others) = (order.id ≡ id) ⊎ HasId id others

pub HasId-found : (id : ℕ) (xs : List Order) → IsSome (order_with id xs) → HasId id xs
HasId-found id [] found = absurd cc
HasId-found id (x ∷ xs) found =
    elim (cases_eq x.id id) [
      | inl same ↦ inl same
      | inr other ↦ inr (HasId-found id xs (rw (ne_eqb x.id id other) at found))
    ]

pub HasId-append : (id : ℕ) (xs ys : List Order) → HasId id (xs ++ ys) → HasId id xs ⊎ HasId id ys
HasId-append id [] ys h = inr h
HasId-append id (x ∷ xs) ys (inl same) = inl (inl same)
HasId-append id (x ∷ xs) ys (inr others) =
    elim (HasId-append id xs ys others) [ inl here ↦ inl (inr here) | inr there ↦ inr there ]

-- a new id is no order's
pub AllIds-new : (id : ℕ) (xs : List Order) → order_with id xs ≡ None → AllIds (λ other. other ≢ id) xs
AllIds-new id [] none = tt
AllIds-new id (x ∷ xs) none =
    elim (cases_eq x.id id) [
      | inl same ↦ absurd (let found : order_with id (x ∷ xs) ≡ Some x = rw (eq-eqb x.id id same) refl in cc)
      | inr other ↦ (other, AllIds-new id xs (rw (ne_eqb x.id id other) at none))
    ]

pub AllIds-front : (Holds : ℕ → Type 0) (xs ys : List Order) → AllIds Holds (xs ++ ys) → AllIds Holds xs
AllIds-front Holds [] ys h = tt
AllIds-front Holds (x ∷ xs) ys h = (h.0, AllIds-front Holds xs ys h.1)

pub AllIds-back : (Holds : ℕ → Type 0) (xs ys : List Order) → AllIds Holds (xs ++ ys) → AllIds Holds ys
AllIds-back Holds [] ys h = h
AllIds-back Holds (x ∷ xs) ys h = AllIds-back Holds xs ys h.1
