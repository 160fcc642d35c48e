-- laws of a book side's calls: an order looked up by its id, the one that follows it, and the side without it or with
-- other lots of it
use Rattle.std.proofs.Common.{append-nil, ℕ, suc, ◌+◌, ◌-◌, ◌≤◌, ◌<◌, ◌≡◌, ◌≢◌, ⊎_elim, true, false, eqb, List, [], ◌∷◌, ◌++◌, Some, None, length, take, refl, sym, ap, ◌∙◌, subst, arith, length-append}
use Rattle.std.specs.List.{All, slice_get}
use Rattle.std.specs.Option.{IsSome, is_some}
use Rattle.std.proofs.lemmas.Bool.{cases_Bool, cond-true, cond-false, cond_both, eq-eqb, ne_eqb, eqb-true, eqb-false, false≢true}
use Rattle.std.proofs.lemmas.List.Elements.{All-nil, All-cons, All-head, All-tail, All-weaker}
use Rattle.dex_types.specs.declared.orders.Order.{Order}
use Rattle.dex_types.specs.declared.terms.Side.{Side}
use Rattle.dex_types.specs.BookSide.{best_of, order_after, with_lots, CanRest, IsNewId, IsBookSide}
use Rattle.dex_types.specs.Cancel.{order_with, without_order}
use Rattle.dex_types.specs.Posting.{PrecedesAll, InBookOrder, post, posted, last_of}
use Rattle.dex_types.specs.Side.{precedes}
use Rattle.dex_laws.proofs.IdLaws.{precedes-apart}
use Rattle.dex_laws.proofs.PostLaws.{length-posted, posted-induction, last_of-split, last_of-none, post-full, All-posted, InBookOrder-posted}
use Rattle.dex_laws.proofs.SideLaws.{All-before}

-- each of these orders has another id
abbrev pub IsApart : ℕ → List Order → Type 0
IsApart id orders = All (λ (o : Order). o.id ≢ id) orders

-- an order of the id stands between these
pub record IsBetween (id : ℕ) (orders before : List Order) (order : Order) (after : List Order) : Type 0 where
  pub is : orders ≡ before ++ order ∷ after
  pub id_is : order.id ≡ id
  pub apart : IsApart id before

-- what holds where the id's order comes first, and after an order of another id, holds of all
pub by_id-induction : (id : ℕ) (P : List Order → Type 0) → P []
    → ((first : Order) (others : List Order) → eqb first.id id ≡ true → P (first ∷ others))
    → ((first : Order) (others : List Order) → eqb first.id id ≡ false → P others → P (first ∷ others))
    → (orders : List Order) → P orders
by_id-induction id P none here behind [] = none
by_id-induction id P none here behind (first ∷ others) =
    ⊎_elim (λ (same : eqb first.id id ≡ true). here first others same)
    (λ (apart : eqb first.id id ≡ false). behind first others apart (by_id-induction id P none here behind others))
    (cases_Bool (eqb first.id id))

-- no order that is looked up has another id
pub id-order_with : (id : ℕ) (orders : List Order) (order : Order) → order_with id orders ≡ Some order → order.id ≡ id
id-order_with id orders order =
    by_id-induction id (λ orders. order_with id orders ≡ Some order → order.id ≡ id) (λ found. absurd (cc))
    (λ first others same found.
    let e : Some first ≡ Some order = sym (cond-true _ _ _ same) ∙ found in
    let is : first ≡ order = cc in subst (λ (o : Order). o.id ≡ id) is (eqb-true first.id id same))
    (λ first others apart held found. held (sym (cond-false _ _ _ apart) ∙ found))
    orders

-- an id that none of the orders has is not found
pub order_with-none : (id : ℕ) (orders : List Order) → IsApart id orders → order_with id orders ≡ None
order_with-none id [] apart = refl
order_with-none id (first ∷ others) apart =
    cond-false _ _ _ (ne_eqb first.id id (All-head (λ (o : Order). o.id ≢ id) first others apart))
    ∙ order_with-none id others (All-tail (λ (o : Order). o.id ≢ id) first others apart)

-- and the other way round
pub apart-order_with : (id : ℕ) (orders : List Order) → order_with id orders ≡ None → IsApart id orders
apart-order_with id =
    by_id-induction id (λ orders. order_with id orders ≡ None → IsApart id orders) (λ none. All-nil (λ (o : Order). o.id ≢ id))
    (λ first others same none. let e : Some first ≡ None = sym (cond-true _ _ _ same) ∙ none in absurd (cc))
    (λ first others apart held none.
    All-cons (λ (o : Order). o.id ≢ id) first others (eqb-false first.id id apart) (held (sym (cond-false _ _ _ apart) ∙ none)))

-- after orders of other ids the calls are those of what follows
pub order_with-behind : (id : ℕ) (before after : List Order) → IsApart id before → order_with id (before ++ after) ≡ order_with id after
order_with-behind id [] after apart = refl
order_with-behind id (first ∷ before) after apart =
    cond-false _ _ _ (ne_eqb first.id id (All-head (λ (o : Order). o.id ≢ id) first before apart))
    ∙ order_with-behind id before after (All-tail (λ (o : Order). o.id ≢ id) first before apart)

pub order_after-behind : (id : ℕ) (before after : List Order) → IsApart id before → order_after id (before ++ after) ≡ order_after id after
order_after-behind id [] after apart = refl
order_after-behind id (first ∷ before) after apart =
    cond-false _ _ _ (ne_eqb first.id id (All-head (λ (o : Order). o.id ≢ id) first before apart))
    ∙ order_after-behind id before after (All-tail (λ (o : Order). o.id ≢ id) first before apart)

pub without_order-behind : (id : ℕ) (before after : List Order) → IsApart id before → without_order id (before ++ after) ≡ before ++ without_order id after
without_order-behind id [] after apart = refl
without_order-behind id (first ∷ before) after apart =
    cond-false _ _ _ (ne_eqb first.id id (All-head (λ (o : Order). o.id ≢ id) first before apart))
    ∙ ap (λ rest. first ∷ rest) (without_order-behind id before after (All-tail (λ (o : Order). o.id ≢ id) first before apart))

pub with_lots-behind : (id lots : ℕ) (before after : List Order) → IsApart id before → with_lots id lots (before ++ after) ≡ before ++ with_lots id lots after
with_lots-behind id lots [] after apart = refl
with_lots-behind id lots (first ∷ before) after apart =
    cond-false _ _ _ (ne_eqb first.id id (All-head (λ (o : Order). o.id ≢ id) first before apart))
    ∙ ap (λ rest. first ∷ rest) (with_lots-behind id lots before after (All-tail (λ (o : Order). o.id ≢ id) first before apart))

-- the calls at an order that stands between others
pub order_with-between : (id : ℕ) (orders before : List Order) (order : Order) (after : List Order) → IsBetween id orders before order after
    → order_with id orders ≡ Some order
order_with-between id orders before order after at =
    ap (order_with id) at.is ∙ order_with-behind id before (order ∷ after) at.apart ∙ cond-true _ _ _ (eq-eqb order.id id at.id_is)

-- the order that follows it is the first after it
pub order_after-between : (id : ℕ) (orders before : List Order) (order : Order) (after : List Order) → IsBetween id orders before order after
    → order_after id orders ≡ best_of after
order_after-between id orders before order after at =
    ap (order_after id) at.is ∙ order_after-behind id before (order ∷ after) at.apart ∙ cond-true _ _ _ (eq-eqb order.id id at.id_is)

-- the side without it is what stands before and after
pub without_order-between : (id : ℕ) (orders before : List Order) (order : Order) (after : List Order) → IsBetween id orders before order after
    → without_order id orders ≡ before ++ after
without_order-between id orders before order after at =
    ap (without_order id) at.is ∙ without_order-behind id before (order ∷ after) at.apart
    ∙ ap (λ rest. before ++ rest) (cond-true _ _ _ (eq-eqb order.id id at.id_is))

-- other lots of it change that order alone
pub with_lots-between : (id lots : ℕ) (orders before : List Order) (order : Order) (after : List Order) → IsBetween id orders before order after
    → with_lots id lots orders ≡ before ++ record order { lots = lots } ∷ after
with_lots-between id lots orders before order after at =
    ap (with_lots id lots) at.is ∙ with_lots-behind id lots before (order ∷ after) at.apart
    ∙ ap (λ rest. before ++ rest) (cond-true _ _ _ (eq-eqb order.id id at.id_is))

-- an order of the id rests
pub record Rests (id : ℕ) (orders : List Order) : Type 0 where
  pub before : List Order
  pub order : Order
  pub after : List Order
  pub between : IsBetween id orders before order after

-- an order that is found stands between others
pub rests : (id : ℕ) (orders : List Order) → IsSome (order_with id orders) → Rests id orders
rests id =
    by_id-induction id (λ orders. IsSome (order_with id orders) → Rests id orders) (λ some. absurd (false≢true some))
    (λ first others same some. record {
      before = [];
      order = first;
      after = others;
      between = record { is = refl; id_is = eqb-true first.id id same; apart = All-nil (λ (o : Order). o.id ≢ id) };
    })
    (λ first others apart held some.
    let behind : Rests id others = held (subst IsSome (cond-false _ _ _ apart) some) in record {
      before = first ∷ behind.before;
      order = behind.order;
      after = behind.after;
      between = record {
        is = ap (λ rest. first ∷ rest) behind.between.is;
        id_is = behind.between.id_is;
        apart = All-cons (λ (o : Order). o.id ≢ id) first behind.before (eqb-false first.id id apart) behind.between.apart;
      };
    })

-- on a side in book order the orders before one have other ids
pub between-sorted : (side : Side) (before : List Order) (order : Order) (after : List Order) → InBookOrder side (before ++ order ∷ after)
    → IsBetween order.id (before ++ order ∷ after) before order after
between-sorted side before order after sorted = record {
  is = refl;
  id_is = refl;
  apart = All-weaker (λ (o : Order). precedes side o.id order.id ≡ true) (λ (o : Order). o.id ≢ order.id) (λ o first. precedes-apart side o.id order.id first)
      before (All-before side before order after sorted);
}

-- a side that loses an order stays in book order
PrecedesAll-without : (side : Side) (before id : ℕ) (orders : List Order) → PrecedesAll side before orders → PrecedesAll side before (without_order id orders)
PrecedesAll-without side before id [] all = tt
PrecedesAll-without side before id (first ∷ others) all =
    cond_both (eqb first.id id) others (first ∷ without_order id others) (PrecedesAll side before) (λ same. all.1) (λ apart. (all.0, PrecedesAll-without side before id others all.1))

pub InBookOrder-without_order : (side : Side) (id : ℕ) (orders : List Order) → InBookOrder side orders → InBookOrder side (without_order id orders)
InBookOrder-without_order side id [] sorted = tt
InBookOrder-without_order side id (first ∷ others) sorted =
    cond_both (eqb first.id id) others (first ∷ without_order id others) (InBookOrder side) (λ same. sorted.1)
    (λ apart. (PrecedesAll-without side first.id id others sorted.0, InBookOrder-without_order side id others sorted.1))

-- what holds of each order holds of each that is left
pub All-without_order : (P : Order → Type 0) (id : ℕ) (orders : List Order) → All P orders → All P (without_order id orders)
All-without_order P id [] all = All-nil P
All-without_order P id (first ∷ others) all =
    cond_both (eqb first.id id) others (first ∷ without_order id others) (All P) (λ same. All-tail P first others all)
    (λ apart. All-cons P first (without_order id others) (All-head P first others all) (All-without_order P id others (All-tail P first others all)))

-- the side gets shorter by one where the order rests, and no longer in any case
pub length-without_order : (id : ℕ) (orders : List Order) → length (without_order id orders) ≤ length orders
length-without_order id [] = omega arith
length-without_order id (first ∷ others) =
    cond_both (eqb first.id id) others (first ∷ without_order id others) (λ left. length left ≤ suc (length others)) (λ same. omega arith) (λ apart. omega (arith, length-without_order id others))

pub length-without_resting : (id : ℕ) (orders : List Order) → IsSome (order_with id orders) → length (without_order id orders) + 1 ≡ length orders
length-without_resting id orders some =
    let r : Rests id orders = rests id orders some in
    omega (
      arith,
      ap length (without_order-between id orders r.before r.order r.after r.between),
      length-append r.before r.after,
      ap length r.between.is,
      length-append r.before (r.order ∷ r.after),
    )

-- a side with other lots of an order stays in book order
PrecedesAll-with_lots : (side : Side) (before id lots : ℕ) (orders : List Order) → PrecedesAll side before orders → PrecedesAll side before (with_lots id lots orders)
PrecedesAll-with_lots side before id lots [] all = tt
PrecedesAll-with_lots side before id lots (first ∷ others) all =
    cond_both (eqb first.id id) (record first { lots = lots } ∷ others) (first ∷ with_lots id lots others) (PrecedesAll side before) (λ same. all)
    (λ apart. (all.0, PrecedesAll-with_lots side before id lots others all.1))

pub InBookOrder-with_lots : (side : Side) (id lots : ℕ) (orders : List Order) → InBookOrder side orders → InBookOrder side (with_lots id lots orders)
InBookOrder-with_lots side id lots [] sorted = tt
InBookOrder-with_lots side id lots (first ∷ others) sorted =
    cond_both (eqb first.id id) (record first { lots = lots } ∷ others) (first ∷ with_lots id lots others) (InBookOrder side) (λ same. sorted)
    (λ apart. (PrecedesAll-with_lots side first.id id lots others sorted.0, InBookOrder-with_lots side id lots others sorted.1))

-- as many orders rest as before
pub length-with_lots : (id lots : ℕ) (orders : List Order) → length (with_lots id lots orders) ≡ length orders
length-with_lots id lots [] = refl
length-with_lots id lots (first ∷ others) =
    cond_both (eqb first.id id) (record first { lots = lots } ∷ others) (first ∷ with_lots id lots others) (λ after. length after ≡ suc (length others)) (λ same. refl)
    (λ apart. omega (arith, length-with_lots id lots others))

-- each order can still rest where the lots are not 0
All-with_lots : (id lots : ℕ) → 1 ≤ lots → (orders : List Order) → All CanRest orders → All CanRest (with_lots id lots orders)
All-with_lots id lots some [] all = All-nil CanRest
All-with_lots id lots some (first ∷ others) all =
    let here : CanRest first = All-head CanRest first others all in
    let behind : All CanRest others = All-tail CanRest first others all in
    cond_both (eqb first.id id) (record first { lots = lots } ∷ others) (first ∷ with_lots id lots others) (All CanRest)
    (λ same. All-cons CanRest (record first { lots = lots }) others (record { price = here.price; lots = some; slot = here.slot; tier = here.tier }) behind)
    (λ apart. All-cons CanRest first (with_lots id lots others) here (All-with_lots id lots some others behind))

-- each writing call leaves a side of the book
pub IsBookSide-posted : (side : Side) (room : ℕ) (order : Order) (orders : List Order) → IsNewId order.id orders → CanRest order → length orders < room
    → IsBookSide side room orders → IsBookSide side room (posted side order orders)
IsBookSide-posted side room order orders new can space held = record {
  in_order = InBookOrder-posted side order orders (apart-order_with order.id orders new) held.in_order;
  can_rest = All-posted CanRest side order can orders held.can_rest;
  within = omega (arith, length-posted side order orders);
}

pub IsBookSide-without_order : (side : Side) (room id : ℕ) (orders : List Order) → IsBookSide side room orders → IsBookSide side room (without_order id orders)
IsBookSide-without_order side room id orders held = record {
  in_order = InBookOrder-without_order side id orders held.in_order;
  can_rest = All-without_order CanRest id orders held.can_rest;
  within = omega (arith, length-without_order id orders, held.within);
}

pub IsBookSide-with_lots : (side : Side) (room id lots : ℕ) (orders : List Order) → 1 ≤ lots → IsBookSide side room orders → IsBookSide side room (with_lots id lots orders)
IsBookSide-with_lots side room id lots orders some held = record {
  in_order = InBookOrder-with_lots side id lots orders held.in_order;
  can_rest = All-with_lots id lots some orders held.can_rest;
  within = omega (arith, length-with_lots id lots orders, held.within);
}

-- on a side in book order the last order is found by its id, and the side without it is the front
pub last_of-between : (side : Side) (orders : List Order) (last : Order) → InBookOrder side orders → last_of orders ≡ Some last
    → IsBetween last.id orders (take (length orders - 1) orders) last []
last_of-between side orders last sorted is =
    let split : orders ≡ take (length orders - 1) orders ++ last ∷ [] = last_of-split orders last is in record {
      is = split;
      id_is = refl;
      apart = (between-sorted side (take (length orders - 1) orders) last [] (subst (InBookOrder side) split sorted)).apart;
    }

-- the last order stands at the last place
pub last_of-slice_get : (orders : List Order) → last_of orders ≡ slice_get orders (length orders - 1)
last_of-slice_get [] = refl
last_of-slice_get (order ∷ []) = refl
last_of-slice_get (order ∷ next ∷ others) =
    let place : length (order ∷ next ∷ others) - 1 ≡ suc (length (next ∷ others) - 1) = omega arith in
    rw place (last_of-slice_get (next ∷ others))

-- what the last order of a full side tells, where another is to be posted in its place
pub record GivesWay (side : Side) (room : ℕ) (order : Order) (orders : List Order) (last : Order) : Type 0 where
  pub found : order_with last.id orders ≡ Some last
  pub new : IsNewId order.id (without_order last.id orders)
  pub space : length (without_order last.id orders) < room
  pub posting : post side room order orders ≡ record { side = posted side order (without_order last.id orders); booted = Some last }

pub gives-way : (side : Side) (room : ℕ) (order : Order) (orders : List Order) (last : Order) → IsBookSide side room orders → IsNewId order.id orders → 1 ≤ order.lots
    → room ≤ length orders → last_of orders ≡ Some last → GivesWay side room order orders last
gives-way side room order orders last held new lots full is =
    let at : IsBetween last.id orders (take (length orders - 1) orders) last [] = last_of-between side orders last held.in_order is in
    let left : without_order last.id orders ≡ take (length orders - 1) orders =
    without_order-between last.id orders (take (length orders - 1) orders) last [] at ∙ append-nil (take (length orders - 1) orders) in
    let found : order_with last.id orders ≡ Some last = order_with-between last.id orders (take (length orders - 1) orders) last [] at in record {
      found = found;
      new =
          order_with-none order.id (without_order last.id orders)
          (All-without_order (λ (o : Order). o.id ≢ order.id) last.id orders (apart-order_with order.id orders new));
      space = omega (arith, length-without_resting last.id orders (ap is_some found), held.within);
      posting =
          post-full side room order orders (omega arith) full
          ∙ cc;
    }

-- only an empty side has no last order
pub last_of-some : (orders : List Order) → 0 < length orders → last_of orders ≡ None → ⊥
last_of-some orders some none = let empty : length orders ≡ 0 = ap length (last_of-none orders none) in omega arith

-- an order rests on where another is posted, and so does the order that is posted
pub rests-posted : (side : Side) (id : ℕ) (order : Order) (orders : List Order) → IsSome (order_with id orders) → IsSome (order_with id (posted side order orders))
rests-posted side id order =
    posted-induction side order (λ orders after. IsSome (order_with id orders) → IsSome (order_with id after)) (λ some. absurd (false≢true some))
    (λ first others behind some. cond_both (eqb order.id id) (Some order) (order_with id (first ∷ others)) IsSome (λ same. refl) (λ apart. some))
    (λ first others rest before held some.
    cond_both (eqb first.id id) (Some first) (order_with id rest) IsSome (λ same. refl) (λ apart. held (subst IsSome (cond-false _ _ _ apart) some)))

pub posted-rests : (side : Side) (order : Order) (orders : List Order) → IsSome (order_with order.id (posted side order orders))
posted-rests side order =
    posted-induction side order (λ orders after. IsSome (order_with order.id after))
    (cond_both (eqb order.id order.id) (Some order) None IsSome (λ same. refl) (λ apart. absurd (eqb-false order.id order.id apart refl)))
    (λ first others behind. cond_both (eqb order.id order.id) (Some order) (order_with order.id (first ∷ others)) IsSome (λ same. refl) (λ apart. absurd (eqb-false order.id order.id apart refl)))
    (λ first others rest before held. cond_both (eqb first.id order.id) (Some first) (order_with order.id rest) IsSome (λ same. refl) (λ apart. held))

-- and where another leaves
pub rests-without : (id other : ℕ) → id ≢ other → (orders : List Order) → IsSome (order_with id orders) → IsSome (order_with id (without_order other orders))
rests-without id other differ [] some = some
rests-without id other differ (first ∷ others) some =
    cond_both (eqb first.id other) others (first ∷ without_order other others) (λ left. IsSome (order_with id left))
    (λ gone. subst IsSome (cond-false _ _ _ (ne_eqb first.id id (λ same. differ (sym same ∙ eqb-true first.id other gone)))) some)
    (λ stays. cond_both (eqb first.id id) (Some first) (order_with id (without_order other others)) IsSome (λ same. refl)
    (λ apart. rests-without id other differ others (subst IsSome (cond-false _ _ _ apart) some)))
