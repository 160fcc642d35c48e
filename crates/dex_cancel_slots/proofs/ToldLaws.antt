-- the slots of an account name its resting orders, each once
use Rattle.std.proofs.Common.{ℕ, zero, suc, ◌≡◌, ◌≢◌, Bool, true, false, ◌&&◌, cond, eqb, List, [], ◌∷◌, ◌++◌, Option, Some, None, filter, refl, sym, ap, ◌∙◌, subst, arith, append_assoc, ⊎_elim}
use Rattle.std.specs.List.{All}
use Rattle.std.proofs.lemmas.Bool.{and_parts, both_ways, cases_Bool, cond_both, cond-true, cond-false, eq-eqb, eqb-true, false_from_ne_true, false≢true}
use Rattle.std.proofs.lemmas.List.Elements.{All-append, All-head, All-nil, All-cons, All-tail}
use Rattle.dex_types.specs.declared.addresses.Address.{Address}
use Rattle.dex_types.specs.declared.orders.Order.{Order}
use Rattle.dex_types.specs.declared.terms.Side.{Side}
use Rattle.dex_types.specs.declared.terms.Side.TheVariants.{Bid, Ask}
use Rattle.dex_types.specs.Addresses.{is_same}
use Rattle.dex_types.specs.Cancel.{RestingOrder, age_of, all_orders_of, on_side, order_with, orders_of}
use Rattle.dex_types.specs.Posting.{InBookOrder, PrecedesAll}
use Rattle.dex_types.specs.Side.{by_side, sequence_of}
use Rattle.dex_types.specs.Soundness.{is_one_order, order_holding}
use Rattle.dex_types.specs.Tokens.{is_same_side}
use Rattle.dex_types.specs.Trader.{Holding}
use Rattle.dex_laws.proofs.IdLaws.{precedes-apart}
use Rattle.dex_sound.proofs.PlaceLaws.{is_same_side-true}
use Rattle.dex_sound.proofs.WithoutLaws.{found-id, order_with-behind, order_with-first}
use Rattle.dex_cancel.proofs.WalkSteps.{on, orders_of-other, orders_of-own}
use Rattle.dex_cancel_slots.specs.Slots.{AreApart, DoSlotsName, DoSlotsNameOn, IsAsHeld, IsHeldIn, held_in, named_by_slot, orders_in}
use Rattle.dex_cancel_slots.proofs.MixedLaws.{AreAgesApart, IsInserted, IsMixed}

-- the holding of a resting order passes the test
abbrev pub passes : (Holding → Bool) → RestingOrder → Bool
passes test resting = test (order_holding resting.side resting.order)

-- one order more where the test is true, else none
abbrev IsAdded : Bool → RestingOrder → List RestingOrder → List RestingOrder → Type 0
IsAdded true one old new = IsInserted one old new
IsAdded false one old new = new ≡ old

-- and so after others
added-behind : (test : Bool) (one : RestingOrder) (front front_now old new : List RestingOrder) → front_now ≡ front → IsAdded test one old new
    → IsAdded test one (front ++ old) (front_now ++ new)
added-behind true one front front_now old new same at = record {
  before = front ++ at.before;
  after = at.after;
  old_is = ap (λ os. front ++ os) at.old_is ∙ simp append_assoc;
  new_is = ap (λ os. os ++ new) same ∙ ap (λ os. front ++ os) at.new_is ∙ simp append_assoc;
}
added-behind false one front front_now old new same is = ap (λ os. os ++ new) same ∙ ap (λ os. front ++ os) is

-- an order comes first on its side, and the other side stays
record IsFirst (side : Side) (first : Order) (bids asks bids_now asks_now : List Order) : Type 0 where
  added : by_side side bids_now asks_now ≡ first ∷ by_side side bids asks
  same : (other : Side) → is_same_side other side ≡ false → by_side other bids_now asks_now ≡ by_side other bids asks
  apart : order_with first.id (by_side side bids asks) ≡ None

module _ (test : Holding → Bool) (side : Side) (first : Order) (bids asks bids_now asks_now : List Order) (is_first : IsFirst side first bids asks bids_now asks_now) where
  abbrev this : Holding
  this = order_holding side first

  -- what a slot of another order names stays
  looked : (held : Holding) → is_one_order held this ≡ false
      → order_with held.id (by_side held.side bids_now asks_now) ≡ order_with held.id (by_side held.side bids asks)
  looked held other =
      ⊎_elim
      (λ (same : is_same_side held.side side ≡ true).
      let is : held.side ≡ side = is_same_side-true held.side side same in
      let away : first.id ≢ held.id = λ ids. both_ways (is_one_order held this) other
      (ap (λ b. b && is_same_side held.side side) (eq-eqb held.id first.id (sym ids)) ∙ same) in
      ap (λ s. order_with held.id (by_side s bids_now asks_now)) is
      ∙ ap (order_with held.id) is_first.added
      ∙ order_with-behind held.id first (by_side side bids asks) away
      ∙ sym (ap (λ s. order_with held.id (by_side s bids asks)) is))
      (λ (differ : is_same_side held.side side ≡ false). ap (order_with held.id) (is_first.same held.side differ))
      (cases_Bool (is_same_side held.side side))

  other-slot : (slot : Option Holding) → ((held : Holding) → slot ≡ Some held → is_one_order held this ≡ false)
      → named_by_slot test bids_now asks_now slot ≡ named_by_slot test bids asks slot
  other-slot None other = refl
  other-slot (Some held) other = ap (λ o. cond (test held) (on_side held.side o) []) (looked held (other held refl))

  -- its own slot names it now, and named none
  slot-now : (slot : Option Holding) → slot ≡ Some this → test this ≡ true → named_by_slot test bids_now asks_now slot ≡ on side first ∷ []
  slot-now slot is pass =
      ap (named_by_slot test bids_now asks_now) is
      ∙ cond-true _ _ _ pass
      ∙ ap (on_side side) (ap (order_with first.id) is_first.added ∙ order_with-first first (by_side side bids asks))

  slot-before : (slot : Option Holding) → slot ≡ Some this → named_by_slot test bids asks slot ≡ []
  slot-before slot is =
      ap (named_by_slot test bids asks) is
      ∙ cond_both (test this) (on_side side (order_with first.id (by_side side bids asks))) [] (λ os. os ≡ []) (λ pass. ap (on_side side) is_first.apart) (λ fail. refl)

  slot-failed : (slot : Option Holding) → slot ≡ Some this → test this ≡ false → named_by_slot test bids_now asks_now slot ≡ []
  slot-failed slot is fail = ap (named_by_slot test bids_now asks_now) is ∙ cond-false _ _ _ fail

  -- where no slot holds it, nothing changes
  none-held : (slots : List (Option Holding)) → ((slot : ℕ) (held : Holding) → held_in slots slot ≡ Some held → is_one_order held this ≡ false)
      → orders_in test bids_now asks_now slots ≡ orders_in test bids asks slots
  none-held [] other = refl
  none-held (slot ∷ slots) other =
      ap (λ os. os ++ orders_in test bids_now asks_now slots) (other-slot slot (λ held is. other zero held is))
      ∙ ap (λ os. named_by_slot test bids asks slot ++ os) (none-held slots (λ at held is. other (suc at) held is))

  -- where one does, it is one more
  one-held : (slots : List (Option Holding)) (at : ℕ) → held_in slots at ≡ Some this
      → ((slot : ℕ) (held : Holding) → held_in slots slot ≡ Some held → is_one_order held this ≡ true → slot ≡ at)
      → (pass : Bool) → test this ≡ pass → IsAdded pass (on side first) (orders_in test bids asks slots) (orders_in test bids_now asks_now slots)
  one-held [] at is once pass tested = absurd (cc)
  one-held (slot ∷ slots) zero is once pass tested =
      let rest = none-held slots (λ at held holds. false_from_ne_true (is_one_order held this) (λ one. absurd (omega (arith, once (suc at) held holds one)))) in
      here pass tested rest
    where
      here : (pass : Bool) → test this ≡ pass → orders_in test bids_now asks_now slots ≡ orders_in test bids asks slots
          → IsAdded pass (on side first) (orders_in test bids asks (slot ∷ slots)) (orders_in test bids_now asks_now (slot ∷ slots))
      here true tested rest = record {
        before = [];
        after = orders_in test bids asks slots;
        old_is = ap (λ os. os ++ orders_in test bids asks slots) (slot-before slot is);
        new_is = ap (λ os. os ++ orders_in test bids_now asks_now slots) (slot-now slot is tested) ∙ ap (λ os. on side first ∷ os) rest;
      }
      here false tested rest =
          ap (λ os. os ++ orders_in test bids_now asks_now slots) (slot-failed slot is tested)
          ∙ rest
          ∙ sym (ap (λ os. os ++ orders_in test bids asks slots) (slot-before slot is))
  one-held (slot ∷ slots) (suc at) is once pass tested =
      let away = other-slot slot (λ held here. false_from_ne_true (is_one_order held this) (λ one. absurd (omega (arith, once zero held here one)))) in
      added-behind pass (on side first) (named_by_slot test bids asks slot) (named_by_slot test bids_now asks_now slot)
      (orders_in test bids asks slots) (orders_in test bids_now asks_now slots) away
      (one-held slots at is (λ there held holds one. omega (arith, once (suc there) held holds one)) pass tested)

  -- so it is one more exactly where it is the owner's
  added-own : (owner : Address) (slots : List (Option Holding)) → DoSlotsName owner slots bids_now asks_now
      → (own : Bool) → is_same owner first.owner ≡ own
      → IsAdded (own && test this) (on side first) (orders_in test bids asks slots) (orders_in test bids_now asks_now slots)
  added-own owner slots names true own =
      let there : DoSlotsNameOn owner slots side (first ∷ by_side side bids asks) = subst (DoSlotsNameOn owner slots side) is_first.added (names.on side) in
      let holds : held_in slots first.slot ≡ Some this = All-head (IsHeldIn owner slots side) first (by_side side bids asks) there.held own in
      one-held slots first.slot holds (λ slot held at one.
      let parts = and_parts (eqb held.id first.id) (is_same_side held.side side) one in
      names.once slot first.slot held this at holds
      (ap (λ s. sequence_of s held.id) (is_same_side-true held.side side parts.1) ∙ ap (sequence_of side) (eqb-true held.id first.id parts.0))) (test this) refl
  added-own owner slots names false other =
      let there : DoSlotsNameOn owner slots side (first ∷ by_side side bids asks) = subst (DoSlotsNameOn owner slots side) is_first.added (names.on side) in
      none-held slots (λ slot held at. false_from_ne_true (is_one_order held this) (λ one.
      both_ways (is_same owner first.owner) other (All-head (IsAsHeld owner slots side) first (by_side side bids asks) there.as_held slot held at one).0))

-- ---- over all orders of both sides

-- no order after another one has its id
new-id : (side : Side) (id : ℕ) (orders : List Order) → PrecedesAll side id orders → order_with id orders ≡ None
new-id side id [] before = refl
new-id side id (first ∷ others) before =
    order_with-behind id first others (λ same. precedes-apart side id first.id before.0 (sym same)) ∙ new-id side id others before.1

-- the first bid, and the first ask
other-asks : (first : Order) (bids asks : List Order) (other : Side) → is_same_side other Bid ≡ false → by_side other (first ∷ bids) asks ≡ by_side other bids asks
other-asks first bids asks Bid differ = absurd (false≢true (sym differ))
other-asks first bids asks Ask differ = refl

other-bids : (first : Order) (bids asks : List Order) (other : Side) → is_same_side other Ask ≡ false → by_side other bids (first ∷ asks) ≡ by_side other bids asks
other-bids first bids asks Bid differ = refl
other-bids first bids asks Ask differ = absurd (false≢true (sym differ))

first-bid : (first : Order) (bids asks : List Order) → InBookOrder Bid (first ∷ bids) → IsFirst Bid first bids asks (first ∷ bids) asks
first-bid first bids asks sorted = record { added = refl; same = other-asks first bids asks; apart = new-id Bid first.id bids sorted.0 }

first-ask : (first : Order) (bids asks : List Order) → InBookOrder Ask (first ∷ asks) → IsFirst Ask first bids asks bids (first ∷ asks)
first-ask first bids asks sorted = record { added = refl; same = other-bids first bids asks; apart = new-id Ask first.id asks sorted.0 }

-- without it
module _ (owner : Address) (slots : List (Option Holding)) where
  on-behind : (side : Side) (first : Order) (others : List Order) → DoSlotsNameOn owner slots side (first ∷ others) → DoSlotsNameOn owner slots side others
  on-behind side first others names = record {
    in_order = names.in_order.1;
    held = All-tail (IsHeldIn owner slots side) first others names.held;
    as_held = All-tail (IsAsHeld owner slots side) first others names.as_held;
  }

  names-by : (bids asks : List Order) → AreApart slots → DoSlotsNameOn owner slots Bid bids → DoSlotsNameOn owner slots Ask asks → DoSlotsName owner slots bids asks
  names-by bids asks once bid ask = record { on = each; once = once }
    where
      each : (side : Side) → DoSlotsNameOn owner slots side (by_side side bids asks)
      each Bid = bid
      each Ask = ask

-- what the slots name of empty sides
no-orders : (side : Side) → (let none : List Order = by_side side [] [] in none) ≡ []
no-orders Bid = refl
no-orders Ask = refl

names-nothing : (test : Holding → Bool) (slot : Option Holding) → named_by_slot test [] [] slot ≡ []
names-nothing test None = refl
names-nothing test (Some held) =
    cond_both (test held) (on_side held.side (order_with held.id (by_side held.side [] []))) [] (λ os. os ≡ [])
    (λ pass. ap (λ os. on_side held.side (order_with held.id os)) (no-orders held.side)) (λ fail. refl)

name-nothing : (test : Holding → Bool) (slots : List (Option Holding)) → orders_in test [] [] slots ≡ []
name-nothing test [] = refl
name-nothing test (slot ∷ slots) = ap (λ os. os ++ orders_in test [] [] slots) (names-nothing test slot) ∙ name-nothing test slots

-- those of some orders that pass, with one more before them
passing-first : (test : Holding → Bool) (side : Side) (first : Order) (rest whole : List RestingOrder) (own : Bool)
    → (own ≡ true → whole ≡ on side first ∷ rest) → (own ≡ false → whole ≡ rest)
    → filter (passes test) whole
    ≡ cond own (cond (test (order_holding side first)) (on side first ∷ filter (passes test) rest) (filter (passes test) rest)) (filter (passes test) rest)
passing-first test side first rest whole true is other = ap (filter (passes test)) (is refl)
passing-first test side first rest whole false is other = ap (filter (passes test)) (other refl)

mixed-more : (own pass : Bool) (one : RestingOrder) (old new rest : List RestingOrder) → IsAdded (own && pass) one old new → IsMixed old rest
    → IsMixed new (cond own (cond pass (one ∷ rest) rest) rest)
mixed-more true true one old new rest added mixed = (old, added, mixed)
mixed-more true false one old new rest added mixed = subst (λ os. IsMixed os rest) (sym added) mixed
mixed-more false pass one old new rest added mixed = subst (λ os. IsMixed os rest) (sym added) mixed

module _ (owner : Address) (slots : List (Option Holding)) (test : Holding → Bool) where
  mixed-asks : (asks : List Order) → DoSlotsName owner slots [] asks → IsMixed (orders_in test [] asks slots) (filter (passes test) (orders_of owner Ask asks))
  mixed-asks [] names = name-nothing test slots
  mixed-asks (first ∷ asks) names =
      let rest : List RestingOrder = orders_of owner Ask asks in
      let own : Bool = is_same owner first.owner in
      let fewer : DoSlotsName owner slots [] asks = names-by owner slots [] asks names.once (names.on Bid) (on-behind owner slots Ask first asks (names.on Ask)) in
      subst (IsMixed (orders_in test [] (first ∷ asks) slots))
      (sym (passing-first test Ask first rest (orders_of owner Ask (first ∷ asks)) own (orders_of-own owner Ask first asks) (orders_of-other owner Ask first asks)))
      (mixed-more own (test (order_holding Ask first)) (on Ask first) (orders_in test [] asks slots) (orders_in test [] (first ∷ asks) slots) (filter (passes test) rest)
      (added-own test Ask first [] asks [] (first ∷ asks) (first-ask first [] asks (names.on Ask).in_order) owner slots names own refl)
      (mixed-asks asks fewer))

  pub mixed-own : (bids asks : List Order) → DoSlotsName owner slots bids asks → IsMixed (orders_in test bids asks slots) (filter (passes test) (all_orders_of owner bids asks))
  mixed-own [] asks names = mixed-asks asks names
  mixed-own (first ∷ bids) asks names =
      let rest : List RestingOrder = all_orders_of owner bids asks in
      let own : Bool = is_same owner first.owner in
      let fewer : DoSlotsName owner slots bids asks = names-by owner slots bids asks names.once (on-behind owner slots Bid first bids (names.on Bid)) (names.on Ask) in
      let Later : List RestingOrder → List RestingOrder = λ os. os ++ orders_of owner Ask asks in
      subst (IsMixed (orders_in test (first ∷ bids) asks slots))
      (sym (passing-first test Bid first rest (all_orders_of owner (first ∷ bids) asks) own
      (λ is. ap Later (orders_of-own owner Bid first bids is)) (λ other. ap Later (orders_of-other owner Bid first bids other))))
      (mixed-more own (test (order_holding Bid first)) (on Bid first) (orders_in test bids asks slots) (orders_in test (first ∷ bids) asks slots) (filter (passes test) rest)
      (added-own test Bid first bids asks (first ∷ bids) asks (first-bid first bids asks (names.on Bid).in_order) owner slots names own refl)
      (mixed-own bids asks fewer))

-- ---- their ages

-- what holds of each order that a slot could name holds of those that the slots name
All-named : (P : RestingOrder → Type 0) (test : Holding → Bool) (bids asks : List Order) (slots : List (Option Holding))
    → ((slot : ℕ) (held : Holding) (order : Order) → held_in slots slot ≡ Some held → order.id ≡ held.id → P (on held.side order)) → All P (orders_in test bids asks slots)
All-named P test bids asks [] each = All-nil P
All-named P test bids asks (slot ∷ slots) each =
    All-append P (named_by_slot test bids asks slot) (orders_in test bids asks slots)
    (at slot (λ held order is. each zero held order is)) (All-named P test bids asks slots (λ there. each (suc there)))
  where
    found : (held : Holding) (order : Option Order) → order_with held.id (by_side held.side bids asks) ≡ order
        → ((o : Order) → o.id ≡ held.id → P (on held.side o)) → All P (on_side held.side order)
    found held None is here = All-nil P
    found held (Some order) is here = All-cons P (on held.side order) [] (here order (found-id held.id order (by_side held.side bids asks) is)) (All-nil P)

    at : (slot : Option Holding) → ((held : Holding) (order : Order) → slot ≡ Some held → order.id ≡ held.id → P (on held.side order))
        → All P (named_by_slot test bids asks slot)
    at None here = All-nil P
    at (Some held) here =
        cond_both (test held) (on_side held.side (order_with held.id (by_side held.side bids asks))) [] (All P)
        (λ pass. found held (order_with held.id (by_side held.side bids asks)) refl (λ o. here held o refl)) (λ fail. All-nil P)

pub ages-apart : (test : Holding → Bool) (bids asks : List Order) (slots : List (Option Holding)) → AreApart slots → AreAgesApart (orders_in test bids asks slots)
ages-apart test bids asks [] once = tt
ages-apart test bids asks (slot ∷ slots) once =
    at slot refl (ages-apart test bids asks slots (λ there also held same at is ages. omega (arith, once (suc there) (suc also) held same at is ages)))
  where
    rest : List RestingOrder
    rest = orders_in test bids asks slots

    found : (held : Holding) → slot ≡ Some held → (order : Option Order) → order_with held.id (by_side held.side bids asks) ≡ order → AreAgesApart rest
        → AreAgesApart (on_side held.side order ++ rest)
    found held here None is apart = apart
    found held here (Some order) is apart = (
      All-named (λ (other : RestingOrder). sequence_of held.side order.id ≢ age_of other) test bids asks slots (λ there same later at ids ages.
          absurd (omega (
            arith,
            once zero (suc there) held same here at
                (ap (sequence_of held.side) (sym (found-id held.id order (by_side held.side bids asks) is)) ∙ ages ∙ ap (sequence_of same.side) ids),
          ))),
      apart,
    )

    at : (slot_is : Option Holding) → slot ≡ slot_is → AreAgesApart rest → AreAgesApart (named_by_slot test bids asks slot_is ++ rest)
    at None here apart = apart
    at (Some held) here apart =
        cond_both (test held) (on_side held.side (order_with held.id (by_side held.side bids asks))) [] (λ os. AreAgesApart (os ++ rest))
        (λ pass. found held here (order_with held.id (by_side held.side bids asks)) refl apart) (λ fail. apart)
