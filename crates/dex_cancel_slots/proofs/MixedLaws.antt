-- two lists of resting orders with the same orders, each as often
use Rattle.std.proofs.Common.{◌≡◌, ◌≢◌, true, false, leb, List, [], ◌∷◌, ◌++◌, Option, Some, length, refl, sym, ap, ◌∙◌, subst, arith, ⊎_elim}
use Rattle.std.specs.List.{All}
use Rattle.std.specs.List.Sorted.{IsPermutation}
use Rattle.std.proofs.lemmas.Bool.{cases_Bool, cond-true, cond-false, leb-true, leb-false, le-leb, lt-leb}
use Rattle.std.proofs.lemmas.List.Elements.{All-cons, All-head, All-tail}
use Rattle.std.proofs.lemmas.List.Sorted.{All-permutation, IsPermutation-cons, IsPermutation-middle, IsPermutation-refl, IsPermutation-sym, IsPermutation-trans, length_permutation}
use Rattle.dex_types.specs.declared.terms.Side.{Side}
use Rattle.dex_types.specs.Cancel.{RestingOrder, age_of, older}
use Rattle.dex_types.specs.Side.{precedes}
use Rattle.dex_laws.proofs.IdLaws.{precedes-asymmetric}
use Rattle.dex_cancel.specs.Finding.{older_of}
use Rattle.dex_cancel.proofs.WalkSteps.{older_of-older}
use Rattle.dex_cancel_slots.specs.Slots.{in_book_order, oldest_of, put_in_order}

-- the new list is the old one with one order more, somewhere
pub record IsInserted (one : RestingOrder) (old new : List RestingOrder) : Type 0 where
  pub before : List RestingOrder
  pub after : List RestingOrder
  pub old_is : old ≡ before ++ after
  pub new_is : new ≡ before ++ one ∷ after

-- the first list has the orders of the second, each as often, in some order
abbrev pub IsMixed : List RestingOrder → List RestingOrder → Type 0
IsMixed mixed [] = mixed ≡ []
IsMixed mixed (one ∷ others) = (left : List RestingOrder) × IsInserted one left mixed × IsMixed left others

pub permutation-mixed : (orders mixed : List RestingOrder) → IsMixed mixed orders → IsPermutation orders mixed
permutation-mixed [] mixed none = subst (IsPermutation []) (sym none) (IsPermutation-refl [])
permutation-mixed (one ∷ others) mixed is =
    let at = is.1 in
    let rest : IsPermutation others (at.before ++ at.after) = subst (IsPermutation others) at.old_is (permutation-mixed others is.0 is.2) in
    subst (IsPermutation (one ∷ others)) (sym at.new_is)
    (IsPermutation-trans (one ∷ others) (one ∷ (at.before ++ at.after)) (at.before ++ one ∷ at.after)
    (IsPermutation-cons one others (at.before ++ at.after) rest)
    (IsPermutation-sym (at.before ++ one ∷ at.after) (one ∷ (at.before ++ at.after)) (IsPermutation-middle at.before one at.after)))

pub length-mixed : (orders mixed : List RestingOrder) → IsMixed mixed orders → length mixed ≡ length orders
length-mixed orders mixed is = length_permutation orders mixed (permutation-mixed orders mixed is)

-- ---- the oldest of them

-- no two of these have one sequence number
abbrev pub AreAgesApart : List RestingOrder → Type 0
AreAgesApart [] = Unit {0}
AreAgesApart (first ∷ others) = All (λ (other : RestingOrder). age_of first ≢ age_of other) others × AreAgesApart others

All-middle : (P : RestingOrder → Type 0) (before : List RestingOrder) (one : RestingOrder) (after : List RestingOrder) → All P (before ++ one ∷ after) → All P (one ∷ (before ++ after))
All-middle P before one after all = All-permutation P (before ++ one ∷ after) (one ∷ (before ++ after)) (IsPermutation-middle before one after) all

apart-middle : (before : List RestingOrder) (one : RestingOrder) (after : List RestingOrder) → AreAgesApart (before ++ one ∷ after) → AreAgesApart (one ∷ (before ++ after))
apart-middle [] one after apart = apart
apart-middle (first ∷ before) one after apart =
    let Away : RestingOrder → Type 0 = λ other. age_of first ≢ age_of other in
    let FromOne : RestingOrder → Type 0 = λ other. age_of one ≢ age_of other in
    let away : All Away (one ∷ (before ++ after)) = All-middle Away before one after apart.0 in
    let rest = apart-middle before one after apart.1 in (
      All-cons FromOne first (before ++ after) (λ same. All-head Away one (before ++ after) away (sym same)) rest.0,
      (All-tail Away one (before ++ after) away, rest.1),
    )

older-turned : (a b : RestingOrder) → age_of a ≢ age_of b → older a (Some b) ≡ older b (Some a)
older-turned a b apart =
    ⊎_elim
    (λ (ab : leb (age_of a) (age_of b) ≡ true).
    cond-true _ _ _ ab ∙ sym (cond-false _ _ _ (lt-leb (age_of b) (age_of a) (omega (arith, leb-true (age_of a) (age_of b) ab, apart)))))
    (λ (ba : leb (age_of a) (age_of b) ≡ false).
    cond-false _ _ _ ba ∙ sym (cond-true _ _ _ (le-leb (age_of b) (age_of a) (omega (arith, leb-false (age_of a) (age_of b) ba)))))
    (cases_Bool (leb (age_of a) (age_of b)))

older-swap : (a b : RestingOrder) (others : Option RestingOrder) → age_of a ≢ age_of b → older_of (Some a) (Some (older b others)) ≡ older_of (Some b) (Some (older a others))
older-swap a b others apart =
    sym (older_of-older (Some a) b others)
    ∙ ap (λ o. older_of (Some o) others) (older-turned a b apart)
    ∙ older_of-older (Some b) a others

oldest_of-middle : (before : List RestingOrder) (one : RestingOrder) (after : List RestingOrder) → All (λ (other : RestingOrder). age_of one ≢ age_of other) (before ++ after)
    → oldest_of (before ++ one ∷ after) ≡ Some (older one (oldest_of (before ++ after)))
oldest_of-middle [] one after away = refl
oldest_of-middle (first ∷ before) one after away =
    let Away : RestingOrder → Type 0 = λ other. age_of one ≢ age_of other in
    ap (older_of (Some first)) (oldest_of-middle before one after (All-tail Away first (before ++ after) away))
    ∙ older-swap first one (oldest_of (before ++ after)) (λ same. All-head Away first (before ++ after) away (sym same))

pub oldest-mixed : (orders mixed : List RestingOrder) → IsMixed mixed orders → AreAgesApart mixed → oldest_of mixed ≡ oldest_of orders
oldest-mixed [] mixed none apart = ap oldest_of none
oldest-mixed (one ∷ others) mixed is apart =
    let at = is.1 in
    let rest : AreAgesApart (one ∷ (at.before ++ at.after)) = apart-middle at.before one at.after (subst AreAgesApart at.new_is apart) in
    ap oldest_of at.new_is
    ∙ oldest_of-middle at.before one at.after rest.0
    ∙ ap (λ os. Some (older one (oldest_of os))) (sym at.old_is)
    ∙ ap (λ o. Some (older one o)) (oldest-mixed others is.0 is.2 (subst AreAgesApart (sym at.old_is) rest.1))

-- ---- those of a side in book order

-- each of these comes before all that follow it
abbrev pub AreInOrder : Side → List RestingOrder → Type 0
AreInOrder side [] = Unit {0}
AreInOrder side (first ∷ others) = All (λ (other : RestingOrder). precedes side first.order.id other.order.id ≡ true) others × AreInOrder side others

put-first : (side : Side) (one : RestingOrder) (orders : List RestingOrder) → All (λ (other : RestingOrder). precedes side one.order.id other.order.id ≡ true) orders
    → put_in_order side one orders ≡ one ∷ orders
put-first side one [] before = refl
put-first side one (first ∷ orders) before =
    cond-false _ _ _ (precedes-asymmetric side one.order.id first.order.id
    (All-head (λ (other : RestingOrder). precedes side one.order.id other.order.id ≡ true) first orders before))

put-behind : (side : Side) (first one : RestingOrder) (orders : List RestingOrder) → precedes side one.order.id first.order.id ≡ true
    → put_in_order side first (one ∷ orders) ≡ one ∷ put_in_order side first orders
put-behind side first one orders before = cond-true _ _ _ before

All-put : (P : RestingOrder → Type 0) (side : Side) (one : RestingOrder) (orders : List RestingOrder) → P one → All P orders → All P (put_in_order side one orders)
All-put P side one [] here all = All-cons P one [] here all
All-put P side one (first ∷ orders) here all =
    ⊎_elim
    (λ (before : precedes side first.order.id one.order.id ≡ true).
    subst (All P) (sym (cond-true _ _ _ before))
    (All-cons P first (put_in_order side one orders) (All-head P first orders all) (All-put P side one orders here (All-tail P first orders all))))
    (λ (behind : precedes side first.order.id one.order.id ≡ false).
    subst (All P) (sym (cond-false _ _ _ behind)) (All-cons P one (first ∷ orders) here all))
    (cases_Bool (precedes side first.order.id one.order.id))

All-in_order : (P : RestingOrder → Type 0) (side : Side) (orders : List RestingOrder) → All P orders → All P (in_book_order side orders)
All-in_order P side [] all = all
All-in_order P side (first ∷ orders) all = All-put P side first (in_book_order side orders) (All-head P first orders all) (All-in_order P side orders (All-tail P first orders all))

in_book_order-middle : (side : Side) (before : List RestingOrder) (one : RestingOrder) (after : List RestingOrder)
    → All (λ (other : RestingOrder). precedes side one.order.id other.order.id ≡ true) (before ++ after)
    → in_book_order side (before ++ one ∷ after) ≡ one ∷ in_book_order side (before ++ after)
in_book_order-middle side [] one after first =
    put-first side one (in_book_order side after) (All-in_order (λ (other : RestingOrder). precedes side one.order.id other.order.id ≡ true) side after first)
in_book_order-middle side (next ∷ before) one after first =
    let Behind : RestingOrder → Type 0 = λ other. precedes side one.order.id other.order.id ≡ true in
    ap (put_in_order side next) (in_book_order-middle side before one after (All-tail Behind next (before ++ after) first))
    ∙ put-behind side next one (in_book_order side (before ++ after)) (All-head Behind next (before ++ after) first)

pub book-mixed : (side : Side) (orders mixed : List RestingOrder) → IsMixed mixed orders → AreInOrder side orders → in_book_order side mixed ≡ orders
book-mixed side [] mixed none sorted = ap (in_book_order side) none
book-mixed side (one ∷ others) mixed is sorted =
    let at = is.1 in
    let Behind : RestingOrder → Type 0 = λ other. precedes side one.order.id other.order.id ≡ true in
    let first : All Behind (at.before ++ at.after) = subst (All Behind) at.old_is (All-permutation Behind others is.0 (permutation-mixed others is.0 is.2) sorted.0) in
    ap (in_book_order side) at.new_is
    ∙ in_book_order-middle side at.before one at.after first
    ∙ ap (λ os. one ∷ in_book_order side os) (sym at.old_is)
    ∙ ap (λ os. one ∷ os) (book-mixed side others is.0 is.2 sorted.1)
