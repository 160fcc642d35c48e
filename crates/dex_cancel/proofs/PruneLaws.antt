-- taking an owner's first orders off a side in one walk along it
use Rattle.std.proofs.Common.{append_assoc, length-append, ℕ, zero, suc, ◌+◌, ◌-◌, ◌≤◌, ◌<◌, ◌^◌, ◌≡◌, true, false, List, [], ◌∷◌, ◌++◌, Option, Some, None, length, take, drop, refl, sym, ap, ◌∙◌, subst, arith, ⊎_elim}
use Rattle.std.specs.List.{All}
use Rattle.std.specs.Option.{is_some}
use Rattle.std.proofs.lemmas.Bool.{cases_Bool, cond_both, cond-false}
use Rattle.std.proofs.lemmas.List.{take-append-drop, take_at, drop_at, take_all, length-take-le, length-drop}
use Rattle.std.proofs.lemmas.List.Elements.{All-nil, All-cons, All-head, All-tail, All-take}
use Rattle.dex_types.specs.declared.addresses.Address.{Address}
use Rattle.dex_types.specs.declared.orders.Order.{Order}
use Rattle.dex_types.specs.declared.terms.Lots.{Lots}
use Rattle.dex_types.specs.declared.terms.Side.{Side}
use Rattle.dex_types.specs.declared.terms.Side.TheVariants.{Bid, Ask}
use Rattle.dex_types.specs.Addresses.{is_same}
use Rattle.dex_types.specs.BookSide.{IsBookSide, best_of, order_after}
use Rattle.dex_types.specs.Cancel.{RestingOrder, order_with, without_order, orders_of, all_orders_of}
use Rattle.dex_types.specs.Owed.{order_lock}
use Rattle.dex_types.specs.Posting.{InBookOrder}
use Rattle.dex_types.specs.Tokens.{is_same_side}
use Rattle.dex_laws.specs.Walks.{orders_from, IsReached}
use Rattle.dex_laws.proofs.BookSideLaws.{Rests, rests, order_with-between, order_after-between, without_order-between, between-sorted}
use Rattle.dex_laws.proofs.SideLaws.{InBookOrder-without}
use Rattle.dex_laws.proofs.WalkLaws.{from_id-between, walk-step}
use Rattle.dex_sound.proofs.WithoutLaws.{found-All}
use Rattle.dex_cancel.specs.TakenOff.{DoOrdersFit, Queue, with_outs, without_all}
use Rattle.dex_cancel.proofs.TakenOffLaws.{All-without_all, without-on, without_all-append, with_outs-append}
use Rattle.dex_cancel.proofs.WalkSteps.{on, length-orders_of, orders_of-own, orders_of-other, stepped}

-- the first of the orders after others is reached, with all of them before it
reached-behind : (side : Side) (before after : List Order) → InBookOrder side (before ++ after)
    → (orders_from (best_of after) (before ++ after) ≡ after) × IsReached (best_of after) (before ++ after)
reached-behind side before [] sorted = (refl, tt)
reached-behind side before (next ∷ after) sorted =
    let at = between-sorted side before next after sorted in
    (from_id-between next.id _ before next after at, order_with-between next.id _ before next after at)

-- a walk goes on in the same way after an order that left the side
walk-without : (side : Side) (orders : List Order) (order : Order) → InBookOrder side orders → order_with order.id orders ≡ Some order
    → (orders_from (order_after order.id orders) (without_order order.id orders) ≡ orders_from (order_after order.id orders) orders)
    × IsReached (order_after order.id orders) (without_order order.id orders)
walk-without side orders order sorted found =
    let r : Rests order.id orders = rests order.id orders (ap is_some found) in
    let next : order_after order.id orders ≡ best_of r.after = order_after-between order.id orders r.before r.order r.after r.between in
    let left : without_order order.id orders ≡ r.before ++ r.after = without_order-between order.id orders r.before r.order r.after r.between in
    let behind = reached-behind side r.before r.after (InBookOrder-without side r.before r.order r.after (subst (InBookOrder side) r.between.is sorted)) in
    let both : order ∷ orders_from (order_after order.id orders) orders ≡ r.order ∷ r.after =
    sym (walk-step side orders order sorted found).0 ∙ from_id-between order.id orders r.before r.order r.after r.between in
    let rest : orders_from (order_after order.id orders) orders ≡ r.after = cc in (
      ap (λ o. orders_from o (without_order order.id orders)) next ∙ ap (orders_from (best_of r.after)) left ∙ behind.0 ∙ sym rest,
      subst (λ o. IsReached o (without_order order.id orders)) (sym next) (subst (IsReached (best_of r.after)) (sym left) behind.1),
    )

-- and so after one that left if it was the owner's
walk-left : (owner : Address) (side named : Side) (orders : List Order) (order : Order) (next : Option Order) (then : List Order)
    → InBookOrder side orders → order_with order.id orders ≡ Some order → next ≡ order_after order.id orders
    → then ≡ without_all named (orders_of owner named (order ∷ [])) orders
    → (orders_from next then ≡ orders_from next orders) × IsReached next then
walk-left owner side named orders order next then sorted found is left =
    let Goes : List Order → Type 0 = λ os. (orders_from next os ≡ orders_from next orders) × IsReached next os in
    subst Goes (sym left)
    (cond_both (is_same owner order.owner) (on named order ∷ []) [] (λ own. Goes (without_all named own orders))
    (λ own. subst Goes (sym (without-on named order orders))
    (subst (λ o. (orders_from o (without_order order.id orders) ≡ orders_from o orders) × IsReached o (without_order order.id orders)) (sym is)
    (walk-without side orders order sorted found)))
    (λ other. (refl, subst (λ o. IsReached o orders) (sym is) (walk-step side orders order sorted found).1)))

-- an owner's orders are those of the first place and those after it
orders_of-first : (owner : Address) (side : Side) (order : Order) (others : List Order)
    → orders_of owner side (order ∷ others) ≡ orders_of owner side (order ∷ []) ++ orders_of owner side others
orders_of-first owner side order others =
    ⊎_elim
    (λ (own : is_same owner order.owner ≡ true).
    orders_of-own owner side order others own ∙ ap (λ os. os ++ orders_of owner side others) (sym (orders_of-own owner side order [] own)))
    (λ (other : is_same owner order.owner ≡ false).
    orders_of-other owner side order others other ∙ ap (λ os. os ++ orders_of owner side others) (sym (orders_of-other owner side order [] other)))
    (cases_Bool (is_same owner order.owner))

-- some more of a list are taken, where these come next
pub record IsNext (all : List RestingOrder) (count : ℕ) (some rest : List RestingOrder) : Type 0 where
  pub taken : take (count + length some) all ≡ take count all ++ some
  pub left : drop (count + length some) all ≡ rest
  pub within : count + length some ≤ length all

pub next-taken : (all : List RestingOrder) (count : ℕ) (some rest : List RestingOrder) → count ≤ length all → drop count all ≡ some ++ rest → IsNext all count some rest
next-taken all count some rest within is =
    let whole : all ≡ (take count all ++ some) ++ rest =
    sym (take-append-drop count all) ∙ ap (λ os. take count all ++ os) is ∙ sym (append_assoc (take count all) some rest) in
    let long : length (take count all ++ some) ≡ count + length some = omega (arith, length-append (take count all) some, length-take-le count all within) in
    record {
      taken = ap (take (count + length some)) whole ∙ take_at (take count all ++ some) rest (count + length some) long;
      left = ap (drop (count + length some)) whole ∙ drop_at (take count all ++ some) rest (count + length some) long;
      within = omega (arith, long, ap length whole, length-append (take count all ++ some) rest);
    }

-- the owner's first n orders left a side, and a walk goes on after them: what it has before it has the others
pub record IsPruned (sizes : Lots) (owner : Address) (side : Side) (count : ℕ) (orders : List Order) (ring : Queue) (next : Option Order) (orders_now : List Order) (ring_now : Queue) : Type 0 where
  pub orders_are : orders_now ≡ without_all side (take count (orders_of owner side orders)) orders
  pub ring_is : ring_now ≡ with_outs sizes (take count (orders_of owner side orders)) ring
  pub rest : orders_of owner side (orders_from next orders_now) ≡ drop count (orders_of owner side orders)
  pub within : count ≤ length (orders_of owner side orders)
  pub reached : IsReached next orders_now

-- one more step takes the next order, if it is the owner's
pub pruned-next : (sizes : Lots) (owner : Address) (side named : Side) (room count : ℕ) (orders : List Order) (ring : Queue) (next : Option Order) (now : List Order) (ring_now : Queue)
    (order : Order) → IsBookSide side room now → IsPruned sizes owner named count orders ring next now ring_now → next ≡ Some order
    → IsNext (orders_of owner named orders) count (orders_of owner named (order ∷ [])) (orders_of owner named (orders_from (order_after order.id now) now))
pruned-next sizes owner side named room count orders ring next now ring_now order book held is =
    let step = stepped side room now next order (order_after order.id now) book held.reached is refl in
    let later : List Order = orders_from (order_after order.id now) now in
    next-taken (orders_of owner named orders) count (orders_of owner named (order ∷ [])) (orders_of owner named later) held.within
    (sym held.rest ∙ ap (orders_of owner named) step.0 ∙ orders_of-first owner named order later)

pub pruned-more : (sizes : Lots) (owner : Address) (side named : Side) (room count : ℕ) (orders : List Order) (ring : Queue) (next : Option Order) (now : List Order) (ring_now : Queue)
    (order : Order) (following : Option Order) (then : List Order) (ring_then : Queue) (more : ℕ)
    → IsBookSide side room now → IsPruned sizes owner named count orders ring next now ring_now → next ≡ Some order → following ≡ order_after order.id now
    → more ≡ count + length (orders_of owner named (order ∷ []))
    → then ≡ without_all named (orders_of owner named (order ∷ [])) now → ring_then ≡ with_outs sizes (orders_of owner named (order ∷ [])) ring_now
    → IsPruned sizes owner named more orders ring following then ring_then
pruned-more sizes owner side named room count orders ring next now ring_now order following then ring_then more book held is after counted then_is ring_is =
    let all : List RestingOrder = orders_of owner named orders in
    let own : List RestingOrder = orders_of owner named (order ∷ []) in
    let step = pruned-next sizes owner side named room count orders ring next now ring_now order book held is in
    let found : order_with order.id now ≡ Some order = subst (λ o. IsReached o now) is held.reached in
    let goes = walk-left owner side named now order following then book.in_order found after then_is in
    subst (λ n. IsPruned sizes owner named n orders ring following then ring_then) (sym counted) (record {
      orders_are =
          then_is ∙ ap (without_all named own) held.orders_are ∙ sym (without_all-append named (take count all) own orders)
          ∙ ap (λ gone. without_all named gone orders) (sym step.taken);
      ring_is =
          ring_is ∙ ap (with_outs sizes own) held.ring_is ∙ sym (with_outs-append sizes (take count all) own ring)
          ∙ ap (λ gone. with_outs sizes gone ring) (sym step.taken);
      rest = ap (orders_of owner named) goes.0 ∙ ap (λ o. orders_of owner named (orders_from o now)) after ∙ sym step.left;
      within = step.within;
      reached = goes.1;
    })

-- with fewer orders before the walk
pub pruned-shorter : (sizes : Lots) (owner : Address) (side named : Side) (room count : ℕ) (orders : List Order) (ring : Queue) (next : Option Order) (now : List Order) (ring_now : Queue)
    (order : Order) (following : Option Order) (then : List Order)
    → IsBookSide side room now → IsPruned sizes owner named count orders ring next now ring_now → next ≡ Some order → following ≡ order_after order.id now
    → then ≡ without_all named (orders_of owner named (order ∷ [])) now → length (orders_from following then) < length (orders_from next now)
pruned-shorter sizes owner side named room count orders ring next now ring_now order following then book held is after then_is =
    let step = stepped side room now next order following book held.reached is after in
    let goes = walk-left owner side named now order following then book.in_order (subst (λ o. IsReached o now) is held.reached) after then_is in
    omega (arith, ap length goes.0, ap length step.0)

-- an order is at most one of the owner's
pub one-own : (owner : Address) (side : Side) (order : Order) → length (orders_of owner side (order ∷ [])) ≤ 1
one-own owner side order = length-orders_of owner side (order ∷ [])

-- where the walk is over, all of the owner's orders left
pub pruned-all : (sizes : Lots) (owner : Address) (side : Side) (count limit : ℕ) (orders : List Order) (ring : Queue) (next : Option Order) (now : List Order) (ring_now : Queue)
    → IsPruned sizes owner side count orders ring next now ring_now → next ≡ None → count ≤ limit → take count (orders_of owner side orders) ≡ take limit (orders_of owner side orders)
pruned-all sizes owner side count limit orders ring next now ring_now held is most =
    let all : List RestingOrder = orders_of owner side orders in
    let none : drop count all ≡ [] = sym held.rest ∙ ap (λ o. orders_of owner side (orders_from o now)) is in
    let all_gone : length all ≤ count = omega (arith, ap length none, length-drop count all) in
    take_all count all all_gone ∙ sym (take_all limit all (omega (arith, most, all_gone)))

-- the lock of an order that still rests fits
pub fits-now : (sizes : Lots) (side : Side) (gone : List RestingOrder) (orders now : List Order) (order : Order) → DoOrdersFit side sizes orders
    → now ≡ without_all side gone orders → order_with order.id now ≡ Some order → order_lock side sizes order < 2 ^ 64
fits-now sizes side gone orders now order fit is found =
    let Fits : Order → Type 0 = λ o. order_lock side sizes o < 2 ^ 64 in
    found-All Fits order.id order now found (subst (All Fits) (sym is) (All-without_all Fits side gone orders fit))

-- the first n of two lists are those of the first and, as far as they are too few, of the second
take-both : {A : Type 0} (count : ℕ) (first later : List A) → take count (first ++ later) ≡ take count first ++ take (count - length (take count first)) later
take-both zero first later = refl
take-both (suc count) [] later = let all : suc count ≡ suc count - 0 = omega arith in ap (λ n. take n later) all
take-both (suc count) (one ∷ first) later =
    let less : suc count - length (one ∷ take count first) ≡ count - length (take count first) = omega arith in
    ap (λ os. one ∷ os) (take-both count first later) ∙ ap (λ n. one ∷ take count first ++ take n later) (sym less)

-- orders of the other side leave a side as it was
without_all-elsewhere : (side : Side) (gone : List RestingOrder) (orders : List Order) → All (λ (r : RestingOrder). is_same_side side r.side ≡ false) gone
    → without_all side gone orders ≡ orders
without_all-elsewhere side [] orders away = refl
without_all-elsewhere side (first ∷ gone) orders away =
    let IsAway : RestingOrder → Type 0 = λ r. is_same_side side r.side ≡ false in
    ap (without_all side gone) (cond-false _ _ _ (All-head IsAway first gone away)) ∙ without_all-elsewhere side gone orders (All-tail IsAway first gone away)

orders_of-away : (owner : Address) (side named : Side) (orders : List Order) → is_same_side side named ≡ false
    → All (λ (r : RestingOrder). is_same_side side r.side ≡ false) (orders_of owner named orders)
orders_of-away owner side named [] away = All-nil _
orders_of-away owner side named (order ∷ others) away =
    let IsAway : RestingOrder → Type 0 = λ r. is_same_side side r.side ≡ false in
    let later : All IsAway (orders_of owner named others) = orders_of-away owner side named others away in
    cond_both (is_same owner order.owner) (on named order ∷ orders_of owner named others) (orders_of owner named others) (All IsAway)
    (λ own. All-cons IsAway (on named order) (orders_of owner named others) away later) (λ other. later)

other-side : (owner : Address) (side named : Side) (count : ℕ) (orders others : List Order) → is_same_side side named ≡ false
    → without_all side (take count (orders_of owner named others)) orders ≡ orders
other-side owner side named count orders others away =
    without_all-elsewhere side (take count (orders_of owner named others)) orders
    (All-take (λ (r : RestingOrder). is_same_side side r.side ≡ false) count (orders_of owner named others) (orders_of-away owner side named others away))

-- how many of an owner's first orders are asks
abbrev pub asks_of_first : Address → ℕ → List Order → ℕ
asks_of_first owner limit bids = limit - length (take limit (orders_of owner Bid bids))

pub asks_of_first-left : (owner : Address) (limit most taken : ℕ) (bids : List Order) → most ≡ limit → taken ≡ length (take most (orders_of owner Bid bids))
    → most - taken ≡ asks_of_first owner limit bids
asks_of_first-left owner limit most taken bids is count = ap (λ n. most - n) count ∙ ap (λ n. asks_of_first owner n bids) is

-- what an owner's first orders leave of each side, and which outs they give, bids before asks
pub bids-pruned : (owner : Address) (limit : ℕ) (bids asks : List Order)
    → without_all Bid (take limit (all_orders_of owner bids asks)) bids ≡ without_all Bid (take limit (orders_of owner Bid bids)) bids
bids-pruned owner limit bids asks =
    let own : List RestingOrder = take limit (orders_of owner Bid bids) in
    let later : List RestingOrder = take (asks_of_first owner limit bids) (orders_of owner Ask asks) in
    ap (λ gone. without_all Bid gone bids) (take-both limit (orders_of owner Bid bids) (orders_of owner Ask asks))
    ∙ without_all-append Bid own later bids
    ∙ other-side owner Bid Ask (asks_of_first owner limit bids) (without_all Bid own bids) asks refl

pub asks-pruned : (owner : Address) (limit : ℕ) (bids asks : List Order)
    → without_all Ask (take limit (all_orders_of owner bids asks)) asks ≡ without_all Ask (take (asks_of_first owner limit bids) (orders_of owner Ask asks)) asks
asks-pruned owner limit bids asks =
    let own : List RestingOrder = take limit (orders_of owner Bid bids) in
    let later : List RestingOrder = take (asks_of_first owner limit bids) (orders_of owner Ask asks) in
    ap (λ gone. without_all Ask gone asks) (take-both limit (orders_of owner Bid bids) (orders_of owner Ask asks))
    ∙ without_all-append Ask own later asks
    ∙ ap (without_all Ask later) (other-side owner Ask Bid limit asks bids refl)

pub outs-pruned : (sizes : Lots) (owner : Address) (limit : ℕ) (bids asks : List Order) (ring : Queue)
    → with_outs sizes (take limit (all_orders_of owner bids asks)) ring
    ≡ with_outs sizes (take (asks_of_first owner limit bids) (orders_of owner Ask asks)) (with_outs sizes (take limit (orders_of owner Bid bids)) ring)
outs-pruned sizes owner limit bids asks ring =
    ap (λ gone. with_outs sizes gone ring) (take-both limit (orders_of owner Bid bids) (orders_of owner Ask asks))
    ∙ with_outs-append sizes (take limit (orders_of owner Bid bids)) (take (asks_of_first owner limit bids) (orders_of owner Ask asks)) ring
