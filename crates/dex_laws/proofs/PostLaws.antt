-- laws of posting an order in its place, and of the order that leaves a full side for it
use Rattle.std.proofs.Common.{ℕ, zero, suc, ◌+◌, ◌-◌, ◌*◌, ◌≤◌, ◌<◌, ◌≡◌, ◌≢◌, ⊎_elim, true, false, cond, eqb, List, [], ◌∷◌, ◌++◌, Option, Some, None, length, take, refl, sym, ap, ◌∙◌, subst, arith, ◌↔◌, length-take, length-append}
use Rattle.std.specs.List.{All, insert}
use Rattle.std.proofs.lemmas.Bool.{cases_Bool, cases_lt, cond_both, cond-true, cond-false, eq-eqb, ne_eqb, lt-ltb, le-ltb}
use Rattle.std.proofs.lemmas.List.Elements.{All-nil, All-cons, All-head, All-tail, All-take}
use Rattle.dex_types.specs.declared.orders.Order.{Order}
use Rattle.dex_types.specs.declared.terms.Lots.{Lots}
use Rattle.dex_types.specs.declared.terms.Side.{Side}
use Rattle.dex_types.specs.NewOrder.{last_events}
use Rattle.dex_types.specs.Posting.{Posting, PrecedesAll, InBookOrder, posted, post, last_of}
use Rattle.dex_types.specs.Side.{precedes}
use Rattle.dex_laws.specs.Posted.{place_of, weight_of}
use Rattle.dex_types.specs.Totals.{total}
use Rattle.dex_laws.proofs.IdLaws.{precedes-total, precedes-transitive}

-- an order is posted after those that stand before it
pub posted-behind : (side : Side) (order first : Order) (others : List Order) → precedes side first.id order.id ≡ true
    → posted side order (first ∷ others) ≡ first ∷ posted side order others
posted-behind side order first others before = cond-true _ _ _ before

-- and before one that does not stand before it
pub posted-here : (side : Side) (order first : Order) (others : List Order) → precedes side first.id order.id ≡ false
    → posted side order (first ∷ others) ≡ order ∷ first ∷ others
posted-here side order first others behind = cond-false _ _ _ behind

-- what holds of the order put first, and of it put after a first that stands before it, holds of it in its place
pub posted-induction : (side : Side) (order : Order) (P : List Order → List Order → Type 0) → P [] (order ∷ [])
    → ((first : Order) (others : List Order) → precedes side first.id order.id ≡ false → P (first ∷ others) (order ∷ first ∷ others))
    → ((first : Order) (others : List Order) (rest : List Order) → precedes side first.id order.id ≡ true → P others rest → P (first ∷ others) (first ∷ rest))
    → (orders : List Order) → P orders (posted side order orders)
posted-induction side order P alone here behind [] = alone
posted-induction side order P alone here behind (first ∷ others) =
    ⊎_elim
    (λ (before : precedes side first.id order.id ≡ true).
    subst (P (first ∷ others)) (sym (posted-behind side order first others before))
    (behind first others (posted side order others) before (posted-induction side order P alone here behind others)))
    (λ (after : precedes side first.id order.id ≡ false).
    subst (P (first ∷ others)) (sym (posted-here side order first others after)) (here first others after))
    (cases_Bool (precedes side first.id order.id))

-- the side gets longer by one, and heavier by the order's weight
pub length-posted : (side : Side) (order : Order) (orders : List Order) → length (posted side order orders) ≡ length orders + 1
length-posted side order =
    posted-induction side order (λ orders after. length after ≡ length orders + 1) refl (λ first others after. omega arith) (λ first others rest before held. omega arith)

-- the side gets heavier by the order's weight
pub total-posted : (weight : Order → ℕ) (side : Side) (order : Order) (orders : List Order) → total weight (posted side order orders) ≡ weight order + total weight orders
total-posted weight side order =
    posted-induction side order (λ orders after. total weight after ≡ weight order + total weight orders) refl (λ first others after. refl) (λ first others rest before held. omega arith)

-- what holds of the order and of each on the side holds of each after
pub All-posted : (P : Order → Type 0) (side : Side) (order : Order) → P order → (orders : List Order) → All P orders → All P (posted side order orders)
All-posted P side order here =
    posted-induction side order (λ orders after. All P orders → All P after)
    (λ holds. All-cons P order [] here (All-nil P))
    (λ first others after holds. All-cons P order (first ∷ others) here holds)
    (λ first others rest before held holds. All-cons P first rest (All-head P first others holds) (held (All-tail P first others holds)))

-- a side stays in book order where the order's id is new
PrecedesAll-behind : (side : Side) (id next : ℕ) (orders : List Order) → precedes side id next ≡ true → PrecedesAll side next orders → PrecedesAll side id orders
PrecedesAll-behind side id next [] before all = tt
PrecedesAll-behind side id next (order ∷ others) before all =
    (precedes-transitive side id next order.id before all.0, PrecedesAll-behind side id next others before all.1)

-- an id that stands before the order and the side stands before both in one
pub PrecedesAll-posted : (side : Side) (id : ℕ) (order : Order) → precedes side id order.id ≡ true
    → (orders : List Order) → PrecedesAll side id orders → PrecedesAll side id (posted side order orders)
PrecedesAll-posted side id order before =
    posted-induction side order (λ orders after. PrecedesAll side id orders → PrecedesAll side id after)
    (λ all. (before, tt)) (λ first others after all. (before, all)) (λ first others rest first_before held all. (all.0, held all.1))

-- the side with the order in its place is in book order
pub InBookOrder-posted : (side : Side) (order : Order) (orders : List Order) → All (λ (o : Order). o.id ≢ order.id) orders
    → InBookOrder side orders → InBookOrder side (posted side order orders)
InBookOrder-posted side order [] new sorted = (tt, tt)
InBookOrder-posted side order (first ∷ others) new sorted =
    let apart : first.id ≢ order.id = All-head (λ (o : Order). o.id ≢ order.id) first others new in
    ⊎_elim
    (λ (before : precedes side first.id order.id ≡ true).
    subst (InBookOrder side) (sym (posted-behind side order first others before)) (
      PrecedesAll-posted side first.id order before others sorted.0,
      InBookOrder-posted side order others (All-tail (λ (o : Order). o.id ≢ order.id) first others new) sorted.1,
    ))
    (λ (after : precedes side first.id order.id ≡ false).
    let turned : precedes side order.id first.id ≡ true = precedes-total side first.id order.id after apart in
    subst (InBookOrder side) (sym (posted-here side order first others after))
    ((turned, PrecedesAll-behind side order.id first.id others turned sorted.0), sorted))
    (cases_Bool (precedes side first.id order.id))

-- the order's place, counted from 0
pub place_of-le : (side : Side) (id : ℕ) (orders : List Order) → place_of side id orders ≤ length orders
place_of-le side id [] = omega arith
place_of-le side id (first ∷ others) =
    cond_both (precedes side first.id id) (place_of side id others + 1) 0 (λ place. place ≤ suc (length others)) (λ before. omega (arith, place_of-le side id others)) (λ after. omega arith)

-- the first of these, if there is one, does not stand before the order
abbrev pub IsNextBehind : Side → Order → List Order → Type 0
IsNextBehind side order [] = Unit {0}
IsNextBehind side order (first ∷ others) = precedes side first.id order.id ≡ false

-- an order whose place is known is put there
pub posted-at : (side : Side) (order : Order) (before after : List Order) → All (λ (o : Order). precedes side o.id order.id ≡ true) before
    → IsNextBehind side order after → posted side order (before ++ after) ≡ before ++ order ∷ after
posted-at side order [] [] all next = refl
posted-at side order [] (first ∷ others) all next = posted-here side order first others next
posted-at side order (first ∷ before) after all next =
    posted-behind side order first (before ++ after) (All-head (λ (o : Order). precedes side o.id order.id ≡ true) first before all)
    ∙ ap (λ rest. first ∷ rest) (posted-at side order before after (All-tail (λ (o : Order). precedes side o.id order.id ≡ true) first before all) next)

-- posting by cases: an order with no lots; room on the side; a full side
pub post-none : (side : Side) (room : ℕ) (order : Order) (orders : List Order) → order.lots ≡ 0 → post side room order orders ≡ record { side = orders; booted = None }
post-none side room order orders none = cond-true _ _ _ (eq-eqb order.lots 0 none)

-- on a side with room the order is posted, and none leaves
pub post-room : (side : Side) (room : ℕ) (order : Order) (orders : List Order) → 0 < order.lots → length orders < room
    → post side room order orders ≡ record { side = posted side order orders; booted = None }
post-room side room order orders some space =
    cond-false _ _ _ (ne_eqb order.lots 0 (λ none. omega arith)) ∙ cond-true _ _ _ (lt-ltb (length orders) room space)

-- on a full side the last order leaves first
pub post-full : (side : Side) (room : ℕ) (order : Order) (orders : List Order) → 0 < order.lots → room ≤ length orders
    → post side room order orders ≡ record { side = posted side order (take (length orders - 1) orders); booted = last_of orders }
post-full side room order orders some full =
    cond-false _ _ _ (ne_eqb order.lots 0 (λ none. omega arith)) ∙ cond-false _ _ _ (le-ltb (length orders) room full)

-- what holds in the three cases holds of every posting
pub post-induction : (side : Side) (room : ℕ) (order : Order) (orders : List Order) (P : Posting → Type 0)
    → (order.lots ≡ 0 → P (record { side = orders; booted = None }))
    → (0 < order.lots → length orders < room → P (record { side = posted side order orders; booted = None }))
    → (0 < order.lots → room ≤ length orders → P (record { side = posted side order (take (length orders - 1) orders); booted = last_of orders }))
    → P (post side room order orders)
post-induction side room order orders P none space full =
    ⊎_elim (λ (few : order.lots < 1). let is : order.lots ≡ 0 = omega arith in subst P (sym (post-none side room order orders is)) (none is))
    (λ (some : 1 ≤ order.lots). ⊎_elim
    (λ (free : length orders < room). subst P (sym (post-room side room order orders some free)) (space some free))
    (λ (filled : room ≤ length orders). subst P (sym (post-full side room order orders some filled)) (full some filled))
    (cases_lt (length orders) room))
    (cases_lt order.lots 1)

-- the last order, and those before it
pub last_of-split : (orders : List Order) (last : Order) → last_of orders ≡ Some last → orders ≡ take (length orders - 1) orders ++ last ∷ []
last_of-split [] last is = absurd (cc)
last_of-split (order ∷ []) last is = let same : order ≡ last = cc in ap (λ (o : Order). o ∷ []) same
last_of-split (order ∷ next ∷ others) last is =
    let fewer : length (order ∷ next ∷ others) - 1 ≡ suc (length (next ∷ others) - 1) = omega arith in
    rw fewer (ap (λ rest. order ∷ rest) (last_of-split (next ∷ others) last is))

-- only an empty side has no last order
pub last_of-none : (orders : List Order) → last_of orders ≡ None → orders ≡ []
last_of-none [] none = refl
last_of-none (order ∷ []) none = absurd (cc)
last_of-none (order ∷ next ∷ others) none = absurd (some_last next others none)
  where
    some_last : (order : Order) (others : List Order) → last_of (order ∷ others) ≡ None → ⊥
    some_last order [] none = cc
    some_last order (next ∷ others) none = some_last next others none

-- the last order takes its weight with it
pub total-last_of : (weight : Order → ℕ) (orders : List Order)
    → total weight orders ≡ total weight (take (length orders - 1) orders) + weight_of weight (last_of orders)
total-last_of weight [] = refl
total-last_of weight (order ∷ []) = omega arith
total-last_of weight (order ∷ next ∷ others) =
    let fewer : length (order ∷ next ∷ others) - 1 ≡ suc (length (next ∷ others) - 1) = omega arith in
    rw fewer (omega (arith, total-last_of weight (next ∷ others)))

PrecedesAll-take : (side : Side) (id count : ℕ) (orders : List Order) → PrecedesAll side id orders → PrecedesAll side id (take count orders)
PrecedesAll-take side id zero orders all = tt
PrecedesAll-take side id (suc count) [] all = tt
PrecedesAll-take side id (suc count) (order ∷ others) all = (all.0, PrecedesAll-take side id count others all.1)

-- the front of a side in book order is in book order
pub InBookOrder-take : (side : Side) (count : ℕ) (orders : List Order) → InBookOrder side orders → InBookOrder side (take count orders)
InBookOrder-take side zero orders sorted = tt
InBookOrder-take side (suc count) [] sorted = tt
InBookOrder-take side (suc count) (order ∷ others) sorted = (PrecedesAll-take side order.id count others sorted.0, InBookOrder-take side count others sorted.1)

-- what is posted is in book order, where the order's id is new
pub InBookOrder-post : (side : Side) (room : ℕ) (order : Order) (orders : List Order) → All (λ (o : Order). o.id ≢ order.id) orders
    → InBookOrder side orders → InBookOrder side (post side room order orders).side
InBookOrder-post side room order orders new sorted =
    post-induction side room order orders (λ posting. InBookOrder side posting.side)
    (λ none. sorted)
    (λ some space. InBookOrder-posted side order orders new sorted)
    (λ some full. InBookOrder-posted side order (take (length orders - 1) orders) (All-take (λ (o : Order). o.id ≢ order.id) (length orders - 1) orders new)
    (InBookOrder-take side (length orders - 1) orders sorted))

-- a side never holds more than it has room for
pub length-post : (side : Side) (room : ℕ) (order : Order) (orders : List Order) → 0 < room → length orders ≤ room → length (post side room order orders).side ≤ room
length-post side room order orders some within =
    post-induction side room order orders (λ posting. length posting.side ≤ room)
    (λ none. within)
    (λ lots space. omega (arith, length-posted side order orders))
    (λ lots full. omega (arith, length-posted side order (take (length orders - 1) orders), length-take (length orders - 1) orders))

-- an order leaves exactly where one with lots is posted on a full side
pub post-boots : (side : Side) (room : ℕ) (order : Order) (orders : List Order) → 0 < room
    → ((post side room order orders).booted ≢ None) ↔ ((0 < order.lots) × (room ≤ length orders))
post-boots side room order orders some_room =
    post-induction side room order orders (λ posting. (posting.booted ≢ None) ↔ ((0 < order.lots) × (room ≤ length orders)))
    (λ none. (λ some. absurd (some refl), λ both. absurd (omega (arith, both.0))))
    (λ some space. (λ booted. absurd (booted refl), λ both. absurd (omega (arith, both.1))))
    (λ some full. (λ booted. (some, full), λ both none. omega (arith, ap length (last_of-none orders none))))

-- what is posted, with what had to leave, weighs what stood and the order
pub total-post : (weight : Order → ℕ) (side : Side) (room : ℕ) (order : Order) (orders : List Order)
    → total weight (post side room order orders).side + weight_of weight (post side room order orders).booted
    ≡ total weight orders + cond (eqb order.lots 0) 0 (weight order)
total-post weight side room order orders =
    post-induction side room order orders (λ posting. total weight posting.side + weight_of weight posting.booted ≡ total weight orders + cond (eqb order.lots 0) 0 (weight order))
    (λ none. rw (eq-eqb order.lots 0 none) refl)
    (λ some space.
    let lots : eqb order.lots 0 ≡ false = ne_eqb order.lots 0 (λ none. omega arith) in
    rw lots (omega (arith, total-posted weight side order orders)))
    (λ some full.
    let lots : eqb order.lots 0 ≡ false = ne_eqb order.lots 0 (λ none. omega arith) in
    rw lots (omega (arith, total-posted weight side order (take (length orders - 1) orders), total-last_of weight orders)))

-- an order is put at its place
pub posted-insert : (side : Side) (order : Order) (orders : List Order) → posted side order orders ≡ insert orders (place_of side order.id orders) order
posted-insert side order [] = refl
posted-insert side order (first ∷ others) =
    ⊎_elim
    (λ (before : precedes side first.id order.id ≡ true).
    let place : place_of side order.id (first ∷ others) ≡ suc (place_of side order.id others) = rw before (omega arith) in
    posted-behind side order first others before ∙ ap (λ rest. first ∷ rest) (posted-insert side order others)
    ∙ ap (λ at. insert (first ∷ others) at order) (sym place))
    (λ (after : precedes side first.id order.id ≡ false).
    let place : place_of side order.id (first ∷ others) ≡ 0 = rw after refl in
    posted-here side order first others after ∙ ap (λ at. insert (first ∷ others) at order) (sym place))
    (cases_Bool (precedes side first.id order.id))

-- the place of an id, from the orders in front of it
pub place_of-at : (side : Side) (id : ℕ) (before after : List Order) → All (λ (o : Order). precedes side o.id id ≡ true) before
    → place_of side id (before ++ after) ≡ length before + place_of side id after
place_of-at side id [] after all = omega arith
place_of-at side id (first ∷ before) after all =
    let next : precedes side first.id id ≡ true = All-head (λ (o : Order). precedes side o.id id ≡ true) first before all in
    rw next (omega (arith, place_of-at side id before after (All-tail (λ (o : Order). precedes side o.id id ≡ true) first before all)))

-- a posting and its last event: the side and the event grow by at most two halves
pub length-last_events : (side : Side) (sizes : Lots) (room : ℕ) (order : Order) (orders : List Order)
    → length (last_events side sizes order (post side room order orders).booted) + 2 * length (post side room order orders).side ≤ 2 * length orders + 2
length-last_events side sizes room order orders =
    post-induction side room order orders (λ posting. length (last_events side sizes order posting.booted) + 2 * length posting.side ≤ 2 * length orders + 2)
    (λ none. rw (eq-eqb order.lots 0 none) (omega arith))
    (λ some space.
    let lots : eqb order.lots 0 ≡ false = ne_eqb order.lots 0 (λ none. omega arith) in
    rw lots (omega (arith, length-posted side order orders)))
    (λ some full. booted-length side sizes order orders some (last_of orders) refl)
  where
    booted-length : (side : Side) (sizes : Lots) (order : Order) (orders : List Order) → 0 < order.lots → (last : Option Order) → last_of orders ≡ last
        → length (last_events side sizes order last) + 2 * length (posted side order (take (length orders - 1) orders)) ≤ 2 * length orders + 2
    booted-length side sizes order orders some None is =
        let lots : eqb order.lots 0 ≡ false = ne_eqb order.lots 0 (λ none. omega arith) in
        rw lots (omega (arith, length-posted side order (take (length orders - 1) orders), length-take (length orders - 1) orders))
    booted-length side sizes order orders some (Some last) is =
        omega (arith, length-posted side order (take (length orders - 1) orders), length-take (length orders - 1) orders, ap length (last_of-split orders last is), length-append (take (length orders - 1) orders) (last ∷ []))
