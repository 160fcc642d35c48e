-- the orders of an owner on the two sides: each rests, they are apart, and what is left of them when one leaves
use Rattle.std.proofs.Common.{append-nil, ℕ, ◌≡◌, true, false, eqb, List, [], ◌∷◌, ◌++◌, Option, Some, None, refl, sym, ap, ◌∙◌, ⊎_elim}
use Rattle.std.specs.List.{All}
use Rattle.std.proofs.lemmas.Bool.{cases_Bool, cond_both, cond-true, cond-false, eqb-false, eq-eqb, ne_eqb, and_left, and_right}
use Rattle.std.proofs.lemmas.List.Elements.{All-nil, All-cons, All-append, All-weaker}
use Rattle.dex_types.specs.declared.addresses.Address.{Address}
use Rattle.dex_types.specs.declared.orders.Order.{Order}
use Rattle.dex_types.specs.declared.terms.Side.{Side}
use Rattle.dex_types.specs.declared.terms.Side.TheVariants.{Bid, Ask}
use Rattle.dex_types.specs.Addresses.{is_same}
use Rattle.dex_types.specs.Cancel.{RestingOrder, order_with, without_order, orders_of, all_orders_of, oldest, is_same_order, without_taken, at_most_one, on_side, taken_by}
use Rattle.dex_types.specs.Posting.{PrecedesAll, InBookOrder}
use Rattle.dex_types.specs.Side.{by_side, precedes}
use Rattle.dex_types.specs.Tokens.{is_same_side}
use Rattle.dex_laws.proofs.BestFirstLaws.{All-PrecedesAll}
use Rattle.dex_laws.proofs.IdLaws.{precedes-apart}
use Rattle.dex_sound.specs.Cancels.{AreApart}
use Rattle.dex_sound.proofs.CancelledLaws.{AreApart-append, oldest-All, at_most_one-All, taken_by-All}
use Rattle.dex_sound.proofs.WithoutLaws.{order_with-first, order_with-behind, found-All, found-id, found-induction}
use Rattle.dex_cancel.specs.TakenOff.{DoRest, without_all}
use Rattle.dex_cancel.proofs.WalkSteps.{on, orders_of-own, orders_of-other}

-- an order of a side: found there by its id, and the owner's
record IsOn (owner : Address) (side : Side) (orders : List Order) (resting : RestingOrder) : Type 0 where
  pub there : resting.side ≡ side
  pub found : order_with resting.order.id orders ≡ Some resting.order
  pub own : is_same owner resting.order.owner ≡ true

on-behind : (owner : Address) (named side : Side) (first : Order) (others : List Order) → PrecedesAll side first.id others → (resting : RestingOrder)
    → IsOn owner named others resting → IsOn owner named (first ∷ others) resting
on-behind owner named side first others before resting on =
    let precedes_it : precedes side first.id resting.order.id ≡ true =
    found-All (λ (o : Order). precedes side first.id o.id ≡ true) resting.order.id resting.order others on.found (All-PrecedesAll side first.id others before) in
    record {
      there = on.there;
      found = order_with-behind resting.order.id first others (precedes-apart side first.id resting.order.id precedes_it) ∙ on.found;
      own = on.own;
    }

orders_of-on : (owner : Address) (named side : Side) (orders : List Order) → InBookOrder side orders → All (IsOn owner named orders) (orders_of owner named orders)
orders_of-on owner named side [] sorted = All-nil _
orders_of-on owner named side (first ∷ others) sorted =
    let later : All (IsOn owner named (first ∷ others)) (orders_of owner named others) =
    All-weaker (IsOn owner named others) (IsOn owner named (first ∷ others)) (on-behind owner named side first others sorted.0) (orders_of owner named others)
    (orders_of-on owner named side others sorted.1) in
    cond_both (is_same owner first.owner) (on named first ∷ orders_of owner named others) (orders_of owner named others)
    (λ (all : List RestingOrder). All (IsOn owner named (first ∷ others)) all)
    (λ own. All-cons (IsOn owner named (first ∷ others)) (on named first) (orders_of owner named others)
    (record { there = refl; found = order_with-first first others; own = own }) later)
    (λ other. later)

orders_of-apart : (owner : Address) (named side : Side) (orders : List Order) → InBookOrder side orders → AreApart (orders_of owner named orders)
orders_of-apart owner named side [] sorted = tt
orders_of-apart owner named side (first ∷ others) sorted =
    let away : All (λ (other : RestingOrder). is_same_order (on named first) other ≡ false) (orders_of owner named others) =
    All-weaker (IsOn owner named others) (λ (other : RestingOrder). is_same_order (on named first) other ≡ false)
    (λ other there. and_right (is_same_side named other.side) (eqb first.id other.order.id) (ne_eqb first.id other.order.id
    (precedes-apart side first.id other.order.id
    (found-All (λ (o : Order). precedes side first.id o.id ≡ true) other.order.id other.order others there.found (All-PrecedesAll side first.id others sorted.0)))))
    (orders_of owner named others) (orders_of-on owner named side others sorted.1) in
    cond_both (is_same owner first.owner) (on named first ∷ orders_of owner named others) (orders_of owner named others) AreApart
    (λ own. (away, orders_of-apart owner named side others sorted.1)) (λ other. orders_of-apart owner named side others sorted.1)

-- an order that rests on its side, and is the owner's
pub record IsMine (owner : Address) (bids asks : List Order) (resting : RestingOrder) : Type 0 where
  pub rests : order_with resting.order.id (by_side resting.side bids asks) ≡ Some resting.order
  pub own : is_same owner resting.order.owner ≡ true

pub all-mine : (owner : Address) (first later : Side) (bids asks : List Order) → InBookOrder first bids → InBookOrder later asks → All (IsMine owner bids asks) (all_orders_of owner bids asks)
all-mine owner first later bids asks bids_sorted asks_sorted =
    All-append (IsMine owner bids asks) (orders_of owner Bid bids) (orders_of owner Ask asks)
    (All-weaker (IsOn owner Bid bids) (IsMine owner bids asks)
    (λ r on. record { rests = ap (λ s. order_with r.order.id (by_side s bids asks)) on.there ∙ on.found; own = on.own })
    (orders_of owner Bid bids) (orders_of-on owner Bid first bids bids_sorted))
    (All-weaker (IsOn owner Ask asks) (IsMine owner bids asks)
    (λ r on. record { rests = ap (λ s. order_with r.order.id (by_side s bids asks)) on.there ∙ on.found; own = on.own })
    (orders_of owner Ask asks) (orders_of-on owner Ask later asks asks_sorted))

pub all-apart : (owner : Address) (first later : Side) (bids asks : List Order) → InBookOrder first bids → InBookOrder later asks → AreApart (all_orders_of owner bids asks)
all-apart owner first later bids asks bids_sorted asks_sorted =
    let own_bids : List RestingOrder = orders_of owner Bid bids in
    let own_asks : List RestingOrder = orders_of owner Ask asks in
    AreApart-append own_bids own_asks (orders_of-apart owner Bid first bids bids_sorted) (orders_of-apart owner Ask later asks asks_sorted)
    (All-weaker (IsOn owner Bid bids) (λ (bid : RestingOrder). All (λ (ask : RestingOrder). is_same_order bid ask ≡ false) own_asks)
    (λ bid on. All-weaker (IsOn owner Ask asks) (λ (ask : RestingOrder). is_same_order bid ask ≡ false)
    (λ ask there. and_left (is_same_side bid.side ask.side) (eqb bid.order.id ask.order.id)
    (ap (λ s. is_same_side s ask.side) on.there ∙ ap (is_same_side Bid) there.there))
    own_asks (orders_of-on owner Ask later asks asks_sorted))
    own_bids (orders_of-on owner Bid first bids bids_sorted))

-- the oldest order of a client id rests, and so does one found by its id
pub oldest-rests : (owner : Address) (client : ℕ) (bids asks : List Order) → All (IsMine owner bids asks) (all_orders_of owner bids asks)
    → DoRest (at_most_one (oldest client (all_orders_of owner bids asks))) bids asks
oldest-rests owner client bids asks mine =
    at_most_one-All (λ (r : RestingOrder). order_with r.order.id (by_side r.side bids asks) ≡ Some r.order) (oldest client (all_orders_of owner bids asks))
    (λ found is. (oldest-All (IsMine owner bids asks) client (all_orders_of owner bids asks) mine found is).rests)

pub taken-rests : (owner : Address) (client : ℕ) (bids asks : List Order) → All (IsMine owner bids asks) (all_orders_of owner bids asks)
    → DoRest (at_most_one (taken_by client (all_orders_of owner bids asks))) bids asks
taken-rests owner client bids asks mine =
    at_most_one-All (λ (r : RestingOrder). order_with r.order.id (by_side r.side bids asks) ≡ Some r.order) (taken_by client (all_orders_of owner bids asks))
    (λ found is. (taken_by-All (IsMine owner bids asks) client (all_orders_of owner bids asks) mine found is).rests)

pub on_side-rests : (side : Side) (id : ℕ) (bids asks : List Order) → DoRest (on_side side (order_with id (by_side side bids asks))) bids asks
on_side-rests side id bids asks = each (order_with id (by_side side bids asks)) refl
  where
    each : (found : Option Order) → order_with id (by_side side bids asks) ≡ found → DoRest (on_side side found) bids asks
    each None is = All-nil _
    each (Some order) is =
        All-cons (λ (r : RestingOrder). order_with r.order.id (by_side r.side bids asks) ≡ Some r.order) (on side order) []
        (ap (λ i. order_with i (by_side side bids asks)) (found-id id order (by_side side bids asks) is) ∙ is) (All-nil _)

-- an order is the same as itself
pub same-self : (side : Side) (order : Order) → is_same_order (on side order) (on side order) ≡ true
same-self Bid order = eq-eqb order.id order.id refl
same-self Ask order = eq-eqb order.id order.id refl

-- where an own order leaves its side, it leaves the owner's orders there
without-own : (owner : Address) (side : Side) (id : ℕ) (order : Order) (later : List RestingOrder) → is_same owner order.owner ≡ true
    → (orders : List Order) → order_with id orders ≡ Some order
    → orders_of owner side (without_order id orders) ++ later ≡ without_taken (Some (on side order)) (orders_of owner side orders ++ later)
without-own owner side id order later own =
    let gone : Option RestingOrder = Some (on side order) in
    found-induction id order (λ orders. orders_of owner side (without_order id orders) ++ later ≡ without_taken gone (orders_of owner side orders ++ later))
    (λ others same.
    ap (λ os. orders_of owner side os ++ later) (cond-true _ _ _ same)
    ∙ sym (ap (λ os. without_taken gone (os ++ later)) (orders_of-own owner side order others own) ∙ cond-true _ _ _ (same-self side order)))
    (λ first others apart found held.
    ap (λ os. orders_of owner side os ++ later) (cond-false _ _ _ apart)
    ∙ ⊎_elim
    (λ (is : is_same owner first.owner ≡ true).
    let differ : is_same_order (on side order) (on side first) ≡ false =
    and_right (is_same_side side side) (eqb order.id first.id)
    (ne_eqb order.id first.id (λ same. eqb-false first.id id apart (sym same ∙ found-id id order others found))) in
    ap (λ os. os ++ later) (orders_of-own owner side first (without_order id others) is)
    ∙ ap (λ os. on side first ∷ os) held
    ∙ sym (ap (λ os. without_taken gone (os ++ later)) (orders_of-own owner side first others is) ∙ cond-false _ _ _ differ))
    (λ (other : is_same owner first.owner ≡ false).
    ap (λ os. os ++ later) (orders_of-other owner side first (without_order id others) other)
    ∙ held
    ∙ sym (ap (λ os. without_taken gone (os ++ later)) (orders_of-other owner side first others other)))
    (cases_Bool (is_same owner first.owner)))

-- an ask is none of the bids
past-bids : (owner : Address) (order : Order) (later : List RestingOrder) (bids : List Order)
    → without_taken (Some (on Ask order)) (orders_of owner Bid bids ++ later) ≡ orders_of owner Bid bids ++ without_taken (Some (on Ask order)) later
past-bids owner order later [] = refl
past-bids owner order later (first ∷ others) =
    let gone : Option RestingOrder = Some (on Ask order) in
    ⊎_elim
    (λ (is : is_same owner first.owner ≡ true).
    ap (λ os. without_taken gone (os ++ later)) (orders_of-own owner Bid first others is)
    ∙ ap (λ os. on Bid first ∷ os) (past-bids owner order later others)
    ∙ sym (ap (λ os. os ++ without_taken gone later) (orders_of-own owner Bid first others is)))
    (λ (other : is_same owner first.owner ≡ false).
    ap (λ os. without_taken gone (os ++ later)) (orders_of-other owner Bid first others other)
    ∙ past-bids owner order later others
    ∙ sym (ap (λ os. os ++ without_taken gone later) (orders_of-other owner Bid first others other)))
    (cases_Bool (is_same owner first.owner))

-- so what is left of the owner's orders when one leaves
pub all-without : (owner : Address) (resting : RestingOrder) (bids asks : List Order) → IsMine owner bids asks resting
    → all_orders_of owner (without_all Bid (resting ∷ []) bids) (without_all Ask (resting ∷ []) asks) ≡ without_taken (Some resting) (all_orders_of owner bids asks)
all-without owner resting bids asks mine = by resting.side resting.order mine.rests mine.own
  where
    by : (side : Side) (order : Order) → order_with order.id (by_side side bids asks) ≡ Some order → is_same owner order.owner ≡ true
        → all_orders_of owner (without_all Bid (on side order ∷ []) bids) (without_all Ask (on side order ∷ []) asks) ≡ without_taken (Some (on side order)) (all_orders_of owner bids asks)
    by Bid order found own = without-own owner Bid order.id order (orders_of owner Ask asks) own bids found
    by Ask order found own =
        ap (λ os. orders_of owner Bid bids ++ os)
        (sym (append-nil (orders_of owner Ask (without_order order.id asks)))
        ∙ without-own owner Ask order.id order [] own asks found
        ∙ ap (without_taken (Some (on Ask order))) (append-nil (orders_of owner Ask asks)))
        ∙ sym (past-bids owner order (orders_of owner Ask asks) bids)
