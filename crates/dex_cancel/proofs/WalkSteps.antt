-- one step of a walk along a side that looks at an owner's orders
use Rattle.std.proofs.Common.{ℕ, ◌+◌, ◌≤◌, ◌≡◌, Bool, true, false, ◌&&◌, eqb, leb, List, [], ◌∷◌, ◌++◌, ◌⊎◌, inl, inr, Option, Some, None, length, refl, sym, ap, ◌∙◌, subst, arith, ⊎_elim}
use Rattle.std.proofs.lemmas.Bool.{cases_Bool, cond_both, cond-true, cond-false, and_parts, leb-true, leb-false, le-leb, lt-leb}
use Rattle.dex_types.specs.declared.addresses.Address.{Address}
use Rattle.dex_types.specs.declared.orders.Order.{Order}
use Rattle.dex_types.specs.declared.terms.Side.{Side}
use Rattle.dex_types.specs.Addresses.{is_same}
use Rattle.dex_types.specs.BookSide.{IsBookSide, order_after}
use Rattle.dex_types.specs.Cancel.{RestingOrder, orders_of, age_of, older, oldest}
use Rattle.dex_laws.specs.Walks.{orders_from, IsReached}
use Rattle.dex_laws.proofs.WalkLaws.{walk-step}
use Rattle.dex_cancel.specs.Counting.{count_of_client}
use Rattle.dex_cancel.specs.Finding.{older_of}

-- where an order is next, it comes first of what is left, and after it is what follows
pub stepped : (side : Side) (room : ℕ) (orders : List Order) (next : Option Order) (order : Order) (following : Option Order) → IsBookSide side room orders
    → IsReached next orders → next ≡ Some order → following ≡ order_after order.id orders
    → (orders_from next orders ≡ order ∷ orders_from following orders) × IsReached following orders
stepped side room orders next order following held reached is after =
    let step = walk-step side orders order held.in_order (subst (λ o. IsReached o orders) is reached) in (
      ap (λ o. orders_from o orders) is ∙ step.0 ∙ ap (λ o. order ∷ orders_from o orders) (sym after),
      subst (λ o. IsReached o orders) (sym after) step.1,
    )

-- an order of a side
abbrev pub on : Side → Order → RestingOrder
on side order = record { side = side; order = order }

-- an order is the owner's, and has the client id
abbrev pub is_named : Address → ℕ → Order → Bool
is_named owner client order = is_same owner order.owner && eqb order.client client

-- the owner's orders from its own order on, and from another's
pub orders_of-own : (owner : Address) (side : Side) (order : Order) (others : List Order) → is_same owner order.owner ≡ true
    → orders_of owner side (order ∷ others) ≡ on side order ∷ orders_of owner side others
orders_of-own owner side order others own = cond-true _ _ _ own

pub orders_of-other : (owner : Address) (side : Side) (order : Order) (others : List Order) → is_same owner order.owner ≡ false
    → orders_of owner side (order ∷ others) ≡ orders_of owner side others
orders_of-other owner side order others other = cond-false _ _ _ other

-- what is so where the order is named, and where it is another's or has another client id, is so by the test
named-cases : (owner : Address) (client : ℕ) (order : Order) → is_named owner client order ≡ false
    → (is_same owner order.owner ≡ false) ⊎ ((is_same owner order.owner ≡ true) × (eqb order.client client ≡ false))
named-cases owner client order not =
    ⊎_elim
    (λ (own : is_same owner order.owner ≡ true). inr (own, sym (ap (λ b. b && eqb order.client client) own) ∙ not))
    (λ (other : is_same owner order.owner ≡ false). inl other)
    (cases_Bool (is_same owner order.owner))

-- how many have the client id
pub count-named : (owner : Address) (side : Side) (client : ℕ) (order : Order) (others : List Order) → is_named owner client order ≡ true
    → count_of_client client (orders_of owner side (order ∷ others)) ≡ count_of_client client (orders_of owner side others) + 1
count-named owner side client order others named =
    let parts = and_parts (is_same owner order.owner) (eqb order.client client) named in
    ap (count_of_client client) (orders_of-own owner side order others parts.0) ∙ cond-true _ _ _ parts.1

pub count-unnamed : (owner : Address) (side : Side) (client : ℕ) (order : Order) (others : List Order) → is_named owner client order ≡ false
    → count_of_client client (orders_of owner side (order ∷ others)) ≡ count_of_client client (orders_of owner side others)
count-unnamed owner side client order others unnamed =
    ⊎_elim
    (λ (other : is_same owner order.owner ≡ false). ap (count_of_client client) (orders_of-other owner side order others other))
    (λ (parts : (is_same owner order.owner ≡ true) × (eqb order.client client ≡ false)).
    ap (count_of_client client) (orders_of-own owner side order others parts.0) ∙ cond-false _ _ _ parts.1)
    (named-cases owner client order unnamed)

-- no more of them than there are orders
pub length-orders_of : (owner : Address) (side : Side) (orders : List Order) → length (orders_of owner side orders) ≤ length orders
length-orders_of owner side [] = omega arith
length-orders_of owner side (order ∷ others) =
    cond_both (is_same owner order.owner) (on side order ∷ orders_of owner side others) (orders_of owner side others) (λ own. length own ≤ length (order ∷ others))
    (λ own. omega (arith, length-orders_of owner side others)) (λ other. omega (arith, length-orders_of owner side others))

pub count_of_client-length : (client : ℕ) (resting : List RestingOrder) → count_of_client client resting ≤ length resting
count_of_client-length client [] = omega arith
count_of_client-length client (first ∷ others) =
    cond_both (eqb first.order.client client) (count_of_client client others + 1) (count_of_client client others) (λ n. n ≤ length (first ∷ others))
    (λ same. omega (arith, count_of_client-length client others)) (λ other. omega (arith, count_of_client-length client others))

pub count_of_client-append : (client : ℕ) (first later : List RestingOrder) → count_of_client client (first ++ later) ≡ count_of_client client first + count_of_client client later
count_of_client-append client [] later = omega arith
count_of_client-append client (one ∷ first) later =
    ⊎_elim
    (λ (same : eqb one.order.client client ≡ true). rw same (omega (arith, count_of_client-append client first later)))
    (λ (other : eqb one.order.client client ≡ false). rw other (omega (arith, count_of_client-append client first later)))
    (cases_Bool (eqb one.order.client client))

-- the older of three is the older of one and the older of the others, whichever are compared first
older-left : (a b : RestingOrder) → leb (age_of a) (age_of b) ≡ true → older a (Some b) ≡ a
older-left a b is = cond-true _ _ _ is

older-right : (a b : RestingOrder) → leb (age_of a) (age_of b) ≡ false → older a (Some b) ≡ b
older-right a b is = cond-false _ _ _ is

older-older : (a b : RestingOrder) (c : Option RestingOrder) → older (older a (Some b)) c ≡ older a (Some (older b c))
older-older a b None = refl
older-older a b (Some c) =
    ⊎_elim
    (λ (ab : leb (age_of a) (age_of b) ≡ true).
    ap (λ x. older x (Some c)) (older-left a b ab)
    ∙ ⊎_elim
    (λ (bc : leb (age_of b) (age_of c) ≡ true).
    older-left a c (le-leb (age_of a) (age_of c) (omega (arith, leb-true (age_of a) (age_of b) ab, leb-true (age_of b) (age_of c) bc)))
    ∙ sym (ap (λ x. older a (Some x)) (older-left b c bc) ∙ older-left a b ab))
    (λ (cb : leb (age_of b) (age_of c) ≡ false). sym (ap (λ x. older a (Some x)) (older-right b c cb)))
    (cases_Bool (leb (age_of b) (age_of c))))
    (λ (ba : leb (age_of a) (age_of b) ≡ false).
    ap (λ x. older x (Some c)) (older-right a b ba)
    ∙ ⊎_elim
    (λ (bc : leb (age_of b) (age_of c) ≡ true). older-left b c bc ∙ sym (ap (λ x. older a (Some x)) (older-left b c bc) ∙ older-right a b ba))
    (λ (cb : leb (age_of b) (age_of c) ≡ false).
    older-right b c cb
    ∙ sym
    (ap (λ x. older a (Some x)) (older-right b c cb)
    ∙ older-right a c (lt-leb (age_of a) (age_of c) (omega (arith, leb-false (age_of a) (age_of b) ba, leb-false (age_of b) (age_of c) cb)))))
    (cases_Bool (leb (age_of b) (age_of c))))
    (cases_Bool (leb (age_of a) (age_of b)))

pub older_of-older : (found : Option RestingOrder) (first : RestingOrder) (other : Option RestingOrder)
    → older_of (older_of found (Some first)) other ≡ older_of found (Some (older first other))
older_of-older None first other = refl
older_of-older (Some found) first other = ap Some (older-older found first other)

-- the oldest of two lists is the older of their oldest
pub oldest-append : (client : ℕ) (first later : List RestingOrder) → oldest client (first ++ later) ≡ older_of (oldest client first) (oldest client later)
oldest-append client [] later = refl
oldest-append client (one ∷ first) later =
    ⊎_elim
    (λ (same : eqb one.order.client client ≡ true).
    cond-true _ _ _ same
    ∙ ap (λ o. Some (older one o)) (oldest-append client first later)
    ∙ joined one (oldest client first) (oldest client later)
    ∙ ap (λ o. older_of o (oldest client later)) (sym (cond-true _ _ _ same)))
    (λ (other : eqb one.order.client client ≡ false).
    cond-false _ _ _ other ∙ oldest-append client first later ∙ ap (λ o. older_of o (oldest client later)) (sym (cond-false _ _ _ other)))
    (cases_Bool (eqb one.order.client client))
  where
    joined : (one : RestingOrder) (first later : Option RestingOrder) → Some (older one (older_of first later)) ≡ older_of (Some (older one first)) later
    joined one None later = refl
    joined one (Some first) later = ap Some (sym (older-older one first later))

-- the oldest from a named order on, and from another on
pub oldest-named : (owner : Address) (side : Side) (client : ℕ) (order : Order) (others : List Order) → is_named owner client order ≡ true
    → oldest client (orders_of owner side (order ∷ others)) ≡ Some (older (on side order) (oldest client (orders_of owner side others)))
oldest-named owner side client order others named =
    let parts = and_parts (is_same owner order.owner) (eqb order.client client) named in
    ap (oldest client) (orders_of-own owner side order others parts.0) ∙ cond-true _ _ _ parts.1

pub oldest-unnamed : (owner : Address) (side : Side) (client : ℕ) (order : Order) (others : List Order) → is_named owner client order ≡ false
    → oldest client (orders_of owner side (order ∷ others)) ≡ oldest client (orders_of owner side others)
oldest-unnamed owner side client order others unnamed =
    ⊎_elim
    (λ (other : is_same owner order.owner ≡ false). ap (oldest client) (orders_of-other owner side order others other))
    (λ (parts : (is_same owner order.owner ≡ true) × (eqb order.client client ≡ false)).
    ap (oldest client) (orders_of-own owner side order others parts.0) ∙ cond-false _ _ _ parts.1)
    (named-cases owner client order unnamed)
