-- taking an owner's first orders off a side, one after the other
use Rattle.std.proofs.Common.{ℕ, ◌+◌, ◌≤◌, ◌<◌, ◌^◌, ◌≡◌, ◌≢◌, true, false, List, [], ◌∷◌, Option, Some, None, length, take, drop, refl, sym, ap, ◌∙◌, subst, arith, ⊎_elim}
use Rattle.std.specs.List.{All}
use Rattle.std.proofs.lemmas.Bool.{both_ways, cases_Bool, cond_both, cond-true, cond-false, eqb-false, eqb-true}
use Rattle.std.proofs.lemmas.List.{length-drop, take_all}
use Rattle.std.proofs.lemmas.List.Elements.{All-cons, All-head, All-nil, All-tail, All-weaker}
use Rattle.dex_types.specs.declared.addresses.Address.{Address}
use Rattle.dex_types.specs.declared.orders.Order.{Order}
use Rattle.dex_types.specs.declared.terms.Lots.{Lots}
use Rattle.dex_types.specs.declared.terms.Side.{Side}
use Rattle.dex_types.specs.Addresses.{is_same}
use Rattle.dex_types.specs.Cancel.{RestingOrder, order_with, orders_of, without_order}
use Rattle.dex_types.specs.Owed.{order_lock}
use Rattle.dex_types.specs.Posting.{InBookOrder}
use Rattle.dex_types.specs.Side.{precedes}
use Rattle.dex_types.specs.Trader.{Holding}
use Rattle.dex_laws.proofs.BestFirstLaws.{All-PrecedesAll}
use Rattle.dex_laws.proofs.IdLaws.{precedes-apart, precedes-total}
use Rattle.dex_sound.proofs.WithoutLaws.{All-without, found-All, found-induction}
use Rattle.dex_cancel.specs.TakenOff.{DoOrdersFit, Queue, with_outs, without_all}
use Rattle.dex_cancel.proofs.TakenOffLaws.{All-without_all, with_outs-append, without-on, without_all-append}
use Rattle.dex_cancel.proofs.PruneLaws.{IsNext, next-taken}
use Rattle.dex_cancel.proofs.WalkSteps.{on, orders_of-other, orders_of-own}
use Rattle.dex_cancel_slots.specs.FirstOwn.{IsFirstOwn, StandsBehind, StandsNotAhead}
use Rattle.dex_cancel_slots.specs.Slots.{DoSlotsNameOn}
use Rattle.dex_cancel_slots.proofs.PremiseLaws.{on-without_all}

all-behind-none : (owner : Address) (side : Side) (orders : List Order) → All (StandsBehind owner side None) orders
all-behind-none owner side [] = All-nil (StandsBehind owner side None)
all-behind-none owner side (first ∷ others) = All-cons (StandsBehind owner side None) first others (λ own. refl) (all-behind-none owner side others)

-- an order that does not stand before the first and has another id stands after it
behind-apart : (owner : Address) (side : Side) (first : Order) (orders : List Order) → All (StandsNotAhead owner side (Some first)) orders
    → All (λ (o : Order). o.id ≢ first.id) orders → All (StandsBehind owner side (Some first.id)) orders
behind-apart owner side first [] ahead apart = All-nil (StandsBehind owner side (Some first.id))
behind-apart owner side first (one ∷ others) ahead apart =
    let Apart : Order → Type 0 = λ o. o.id ≢ first.id in
    All-cons (StandsBehind owner side (Some first.id)) one others
    (λ own. precedes-total side one.id first.id (All-head (StandsNotAhead owner side (Some first)) one others ahead own) (All-head Apart one others apart))
    (behind-apart owner side first others (All-tail (StandsNotAhead owner side (Some first)) one others ahead) (All-tail Apart one others apart))

-- without the order of an id, none has it
without-apart : (side : Side) (id : ℕ) (order : Order) (orders : List Order) → InBookOrder side orders → order_with id orders ≡ Some order
    → All (λ (o : Order). o.id ≢ id) (without_order id orders)
without-apart side id order orders sorted found =
    let Apart : Order → Type 0 = λ o. o.id ≢ id in
    found-induction id order (λ os. InBookOrder side os → All Apart (without_order id os))
    (λ others same sorted.
    subst (All Apart) (sym (cond-true _ _ _ same))
    (All-weaker (λ (o : Order). precedes side order.id o.id ≡ true) Apart
    (λ o before is. precedes-apart side order.id o.id before (eqb-true order.id id same ∙ sym is)) others (All-PrecedesAll side order.id others sorted.0)))
    (λ first others apart found rest sorted.
    subst (All Apart) (sym (cond-false _ _ _ apart)) (All-cons Apart first (without_order id others) (eqb-false first.id id apart) (rest sorted.1)))
    orders found sorted

-- the first order of the owner, where none of its orders stands before
first-of-own : (owner : Address) (side : Side) (order : Order) (orders : List Order) → is_same owner order.owner ≡ true → InBookOrder side orders
    → order_with order.id orders ≡ Some order → All (StandsNotAhead owner side (Some order)) orders
    → orders_of owner side orders ≡ on side order ∷ orders_of owner side (without_order order.id orders)
first-of-own owner side order orders own sorted found ahead =
    found-induction order.id order
    (λ os. InBookOrder side os → All (StandsNotAhead owner side (Some order)) os → orders_of owner side os ≡ on side order ∷ orders_of owner side (without_order order.id os))
    (λ others same sorted ahead.
    orders_of-own owner side order others own ∙ ap (λ os. on side order ∷ orders_of owner side os) (sym (cond-true _ _ _ same)))
    (λ first others apart found rest sorted ahead.
    ⊎_elim
    (λ (mine : is_same owner first.owner ≡ true).
    let before : precedes side first.id order.id ≡ true =
    found-All (λ (o : Order). precedes side first.id o.id ≡ true) order.id order others found (All-PrecedesAll side first.id others sorted.0) in
    absurd (both_ways (precedes side first.id order.id) (All-head (StandsNotAhead owner side (Some order)) first others ahead mine) before))
    (λ (other : is_same owner first.owner ≡ false).
    orders_of-other owner side first others other
    ∙ rest sorted.1 (All-tail (StandsNotAhead owner side (Some order)) first others ahead)
    ∙ ap (λ os. on side order ∷ os)
    (sym (ap (orders_of owner side) (cond-false _ _ _ apart) ∙ orders_of-other owner side first (without_order order.id others) other)))
    (cases_Bool (is_same owner first.owner)))
    orders found sorted ahead

-- the owner's first n orders left a side, and its others there stand after the last id that left
pub record IsPrunedTo (sizes : Lots) (owner : Address) (slots : List (Option Holding)) (side : Side) (count : ℕ) (orders : List Order) (ring : Queue) (last : Option ℕ) (now : List Order) (ring_now : Queue) : Type 0 where
  pub orders_are : now ≡ without_all side (take count (orders_of owner side orders)) orders
  pub ring_is : ring_now ≡ with_outs sizes (take count (orders_of owner side orders)) ring
  pub rest : orders_of owner side now ≡ drop count (orders_of owner side orders)
  pub within : count ≤ length (orders_of owner side orders)
  pub names : DoSlotsNameOn owner slots side now
  pub behind : All (StandsBehind owner side last) now

pub pruned-none : (sizes : Lots) (owner : Address) (slots : List (Option Holding)) (side : Side) (orders : List Order) (ring : Queue)
    → DoSlotsNameOn owner slots side orders → IsPrunedTo sizes owner slots side 0 orders ring None orders ring
pruned-none sizes owner slots side orders ring names = record {
  orders_are = refl;
  ring_is = refl;
  rest = refl;
  within = omega arith;
  names = names;
  behind = all-behind-none owner side orders;
}

-- one more step takes the first of them
module _ (sizes : Lots) (owner : Address) (slots : List (Option Holding)) (side : Side) (count : ℕ) (orders : List Order) (ring : Queue) (last : Option ℕ) (now : List Order) (ring_now : Queue)
    (held : IsPrunedTo sizes owner slots side count orders ring last now ring_now) (order : Order) (first : IsFirstOwn owner side (Some order) now) where
  abbrev all : List RestingOrder
  all = orders_of owner side orders

  abbrev gone : List RestingOrder
  gone = on side order ∷ []

  pub pruned-next : IsNext all count gone (orders_of owner side (without_all side gone now))
  pruned-next =
      next-taken all count gone (orders_of owner side (without_all side gone now)) held.within
      (sym held.rest ∙ first-of-own owner side order now first.rests.own held.names.in_order first.rests.rests first.ahead
      ∙ ap (λ os. on side order ∷ orders_of owner side os) (sym (without-on side order now)))

  pub pruned-more : (then : List Order) (ring_then : Queue) → then ≡ without_all side gone now → ring_then ≡ with_outs sizes gone ring_now
      → IsPrunedTo sizes owner slots side (count + 1) orders ring (Some order.id) then ring_then
  pruned-more then ring_then then_is outs =
      let step = pruned-next in record {
        orders_are =
            then_is ∙ ap (without_all side gone) held.orders_are ∙ sym (without_all-append side (take count all) gone orders)
            ∙ ap (λ os. without_all side os orders) (sym step.taken);
        ring_is =
            outs ∙ ap (with_outs sizes gone) held.ring_is ∙ sym (with_outs-append sizes (take count all) gone ring)
            ∙ ap (λ os. with_outs sizes os ring) (sym step.taken);
        rest = ap (orders_of owner side) then_is ∙ sym step.left;
        within = step.within;
        names = subst (DoSlotsNameOn owner slots side) (sym then_is) (on-without_all owner slots side gone now held.names);
        behind =
            subst (All (StandsBehind owner side (Some order.id))) (sym (then_is ∙ without-on side order now))
            (behind-apart owner side order (without_order order.id now) (All-without (StandsNotAhead owner side (Some order)) order.id now first.ahead)
            (without-apart side order.id order now held.names.in_order first.rests.rests));
      }

-- where none comes first, all of the owner's orders left
none-own : (owner : Address) (side : Side) (orders : List Order) → All (StandsNotAhead owner side None) orders → orders_of owner side orders ≡ []
none-own owner side [] ahead = refl
none-own owner side (first ∷ others) ahead =
    cond_both (is_same owner first.owner) (on side first ∷ orders_of owner side others) (orders_of owner side others) (λ os. os ≡ [])
    (λ own. absurd (let no : true ≡ false = All-head (StandsNotAhead owner side None) first others ahead own in cc))
    (λ other. none-own owner side others (All-tail (StandsNotAhead owner side None) first others ahead))

pub pruned-all : (sizes : Lots) (owner : Address) (slots : List (Option Holding)) (side : Side) (count limit : ℕ) (orders : List Order) (ring : Queue) (last : Option ℕ) (now : List Order) (ring_now : Queue)
    → IsPrunedTo sizes owner slots side count orders ring last now ring_now → IsFirstOwn owner side None now → count ≤ limit
    → take count (orders_of owner side orders) ≡ take limit (orders_of owner side orders)
pruned-all sizes owner slots side count limit orders ring last now ring_now held is most =
    let all : List RestingOrder = orders_of owner side orders in
    let none : drop count all ≡ [] = sym held.rest ∙ none-own owner side now is.ahead in
    let gone : length all ≤ count = omega (arith, ap length none, length-drop count all) in
    take_all count all gone ∙ sym (take_all limit all (omega (arith, most, gone)))

-- what the orders of a side lock fits, where some left
pub fit-now : (sizes : Lots) (side : Side) (gone : List RestingOrder) (orders now : List Order) → DoOrdersFit side sizes orders → now ≡ without_all side gone orders
    → DoOrdersFit side sizes now
fit-now sizes side gone orders now fit is =
    let Fits : Order → Type 0 = λ o. order_lock side sizes o < 2 ^ 64 in
    subst (All Fits) (sym is) (All-without_all Fits side gone orders fit)
