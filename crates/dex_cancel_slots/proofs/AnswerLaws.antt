-- what the slots of an account tell of its orders: which they are, how many, the oldest, and those of a side in book
-- order
use Rattle.std.proofs.Common.{ℕ, ◌+◌, ◌≡◌, true, false, eqb, ltb, List, [], ◌∷◌, ◌++◌, Option, Some, append-nil, filter, length, refl, sym, ap, ◌∙◌, subst, arith, ⊎_elim}
use Rattle.std.specs.List.{All}
use Rattle.std.specs.Option.{is_some}
use Rattle.std.specs.List.Sorted.{IsPermutation}
use Rattle.std.proofs.lemmas.Bool.{cases_Bool, cond_both, cond-true, cond-false, lt-ltb}
use Rattle.std.proofs.lemmas.List.Elements.{All-nil, All-cons, All-head, All-tail, filter-append}
use Rattle.dex_types.specs.declared.addresses.Address.{Address}
use Rattle.dex_types.specs.declared.orders.Order.{Order}
use Rattle.dex_types.specs.declared.terms.Side.{Side}
use Rattle.dex_types.specs.declared.terms.Side.TheVariants.{Bid, Ask}
use Rattle.dex_types.specs.Addresses.{is_same}
use Rattle.dex_types.specs.Cancel.{RestingOrder, all_orders_of, older, oldest, orders_of, without_taken}
use Rattle.dex_types.specs.Posting.{InBookOrder}
use Rattle.dex_types.specs.Side.{by_side, precedes}
use Rattle.dex_types.specs.Tokens.{is_same_side}
use Rattle.dex_types.specs.Trader.{Holding}
use Rattle.dex_laws.proofs.BestFirstLaws.{All-PrecedesAll}
use Rattle.dex_sound.proofs.PlaceLaws.{is_same_side-refl}
use Rattle.dex_cancel.specs.Counting.{count_of_client}
use Rattle.dex_cancel.specs.TakenOff.{without_one}
use Rattle.dex_cancel.proofs.OwnLaws.{IsMine, all-mine, all-without, same-self}
use Rattle.dex_cancel.proofs.WalkSteps.{on}
use Rattle.dex_cancel_slots.specs.Slots.{DoSlotsName, any_holding, has_client, in_book_order, is_on, oldest_of, orders_in}
use Rattle.dex_cancel_slots.proofs.MixedLaws.{AreInOrder, IsMixed, book-mixed, length-mixed, oldest-mixed, permutation-mixed}
use Rattle.dex_cancel_slots.proofs.ToldLaws.{ages-apart, mixed-own, passes}

-- ---- those that pass a test

passing-any : (orders : List RestingOrder) → filter (passes any_holding) orders ≡ orders
passing-any [] = refl
passing-any (first ∷ others) = ap (λ os. first ∷ os) (passing-any others)

passing-client : (client : ℕ) (orders : List RestingOrder) → length (filter (passes (has_client client)) orders) ≡ count_of_client client orders
passing-client client [] = refl
passing-client client (first ∷ others) =
    ⊎_elim
    (λ (same : eqb first.order.client client ≡ true). rw same (omega (arith, passing-client client others)))
    (λ (other : eqb first.order.client client ≡ false). rw other (passing-client client others))
    (cases_Bool (eqb first.order.client client))

oldest-passing : (client : ℕ) (orders : List RestingOrder) → oldest_of (filter (passes (has_client client)) orders) ≡ oldest client orders
oldest-passing client [] = refl
oldest-passing client (first ∷ others) =
    ⊎_elim
    (λ (same : eqb first.order.client client ≡ true).
    ap oldest_of (cond-true _ _ _ same) ∙ ap (λ o. Some (older first o)) (oldest-passing client others) ∙ sym (cond-true _ _ _ same))
    (λ (other : eqb first.order.client client ≡ false).
    ap oldest_of (cond-false _ _ _ other) ∙ oldest-passing client others ∙ sym (cond-false _ _ _ other))
    (cases_Bool (eqb first.order.client client))

passing-side : (owner : Address) (side : Side) (orders : List Order) → filter (passes (is_on side)) (orders_of owner side orders) ≡ orders_of owner side orders
passing-side owner side [] = refl
passing-side owner side (first ∷ others) =
    cond_both (is_same owner first.owner) (on side first ∷ orders_of owner side others) (orders_of owner side others) (λ os. filter (passes (is_on side)) os ≡ os)
    (λ own. cond-true _ _ _ (is_same_side-refl side) ∙ ap (λ os. on side first ∷ os) (passing-side owner side others)) (λ other. passing-side owner side others)

passing-other : (owner : Address) (side other : Side) (orders : List Order) → is_same_side other side ≡ false → filter (passes (is_on side)) (orders_of owner other orders) ≡ []
passing-other owner side other [] differ = refl
passing-other owner side other (first ∷ others) differ =
    cond_both (is_same owner first.owner) (on other first ∷ orders_of owner other others) (orders_of owner other others) (λ os. filter (passes (is_on side)) os ≡ [])
    (λ own. cond-false _ _ _ differ ∙ passing-other owner side other others differ) (λ not. passing-other owner side other others differ)

-- one of a client id rests where it counts one
pub any-client : (client : ℕ) (orders : List RestingOrder) → ltb 0 (count_of_client client orders) ≡ is_some (oldest client orders)
any-client client [] = refl
any-client client (first ∷ others) =
    ⊎_elim
    (λ (same : eqb first.order.client client ≡ true). rw same (lt-ltb 0 (count_of_client client others + 1) (omega arith)))
    (λ (other : eqb first.order.client client ≡ false). rw other (any-client client others))
    (cases_Bool (eqb first.order.client client))

-- ---- what the slots tell

module _ (owner : Address) (slots : List (Option Holding)) (bids asks : List Order) (names : DoSlotsName owner slots bids asks) where
  pub told-orders : IsPermutation (all_orders_of owner bids asks) (orders_in any_holding bids asks slots)
  told-orders =
      subst (λ os. IsPermutation os (orders_in any_holding bids asks slots)) (passing-any (all_orders_of owner bids asks))
      (permutation-mixed _ _ (mixed-own owner slots any_holding bids asks names))

  pub told-length : length (orders_in any_holding bids asks slots) ≡ length (all_orders_of owner bids asks)
  told-length = length-mixed _ _ (mixed-own owner slots any_holding bids asks names) ∙ ap length (passing-any (all_orders_of owner bids asks))

  pub told-count : (client : ℕ) → length (orders_in (has_client client) bids asks slots) ≡ count_of_client client (all_orders_of owner bids asks)
  told-count client = length-mixed _ _ (mixed-own owner slots (has_client client) bids asks names) ∙ passing-client client (all_orders_of owner bids asks)

  pub told-oldest : (client : ℕ) → oldest_of (orders_in (has_client client) bids asks slots) ≡ oldest client (all_orders_of owner bids asks)
  told-oldest client =
      oldest-mixed _ _ (mixed-own owner slots (has_client client) bids asks names) (ages-apart (has_client client) bids asks slots names.once)
      ∙ oldest-passing client (all_orders_of owner bids asks)

-- ---- those of a side in book order

-- an owner's orders of a side are in book order
All-orders_of : (P : Order → Type 0) (owner : Address) (side : Side) (orders : List Order) → All P orders → All (λ (r : RestingOrder). P r.order) (orders_of owner side orders)
All-orders_of P owner side [] all = All-nil _
All-orders_of P owner side (first ∷ others) all =
    let rest = All-orders_of P owner side others (All-tail P first others all) in
    cond_both (is_same owner first.owner) (on side first ∷ orders_of owner side others) (orders_of owner side others) (All (λ (r : RestingOrder). P r.order))
    (λ own. All-cons (λ (r : RestingOrder). P r.order) (on side first) (orders_of owner side others) (All-head P first others all) rest) (λ other. rest)

orders_of-in_order : (owner : Address) (side : Side) (orders : List Order) → InBookOrder side orders → AreInOrder side (orders_of owner side orders)
orders_of-in_order owner side [] sorted = tt
orders_of-in_order owner side (first ∷ others) sorted =
    let rest = orders_of-in_order owner side others sorted.1 in
    cond_both (is_same owner first.owner) (on side first ∷ orders_of owner side others) (orders_of owner side others) (AreInOrder side)
    (λ own. (All-orders_of (λ (o : Order). precedes side first.id o.id ≡ true) owner side others (All-PrecedesAll side first.id others sorted.0), rest)) (λ other. rest)

passing-all : (owner : Address) (side : Side) (bids asks : List Order)
    → filter (passes (is_on side)) (all_orders_of owner bids asks) ≡ orders_of owner side (by_side side bids asks)
passing-all owner Bid bids asks =
    filter-append (passes (is_on Bid)) (orders_of owner Bid bids) (orders_of owner Ask asks)
    ∙ ap (λ os. os ++ filter (passes (is_on Bid)) (orders_of owner Ask asks)) (passing-side owner Bid bids)
    ∙ ap (λ os. orders_of owner Bid bids ++ os) (passing-other owner Bid Ask asks refl)
    ∙ append-nil (orders_of owner Bid bids)
passing-all owner Ask bids asks =
    filter-append (passes (is_on Ask)) (orders_of owner Bid bids) (orders_of owner Ask asks)
    ∙ ap (λ os. os ++ filter (passes (is_on Ask)) (orders_of owner Ask asks)) (passing-other owner Ask Bid bids refl)
    ∙ passing-side owner Ask asks

pub told-side : (owner : Address) (slots : List (Option Holding)) (bids asks : List Order) → DoSlotsName owner slots bids asks
    → (side : Side) → in_book_order side (orders_in (is_on side) bids asks slots) ≡ orders_of owner side (by_side side bids asks)
told-side owner slots bids asks names side =
    book-mixed side (orders_of owner side (by_side side bids asks)) (orders_in (is_on side) bids asks slots)
    (subst (IsMixed (orders_in (is_on side) bids asks slots)) (passing-all owner side bids asks) (mixed-own owner slots (is_on side) bids asks names))
    (orders_of-in_order owner side (by_side side bids asks) (names.on side).in_order)

-- ---- where the first leaves, the others are left

pub told-first : (owner : Address) (slots : List (Option Holding)) (bids asks : List Order) → DoSlotsName owner slots bids asks
    → (first : RestingOrder) (rest : List RestingOrder) → all_orders_of owner bids asks ≡ first ∷ rest
    → all_orders_of owner (without_one Bid first bids) (without_one Ask first asks) ≡ rest
told-first owner slots bids asks names first rest is =
    let mine = all-mine owner Bid Ask bids asks (names.on Bid).in_order (names.on Ask).in_order in
    all-without owner first bids asks (All-head (IsMine owner bids asks) first rest (subst (All (IsMine owner bids asks)) is mine))
    ∙ ap (without_taken (Some first)) is
    ∙ cond-true _ _ _ (same-self first.side first.order)
