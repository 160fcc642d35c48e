-- laws of what orders lock, and of the slots that they take
use Rattle.std.proofs.Common.{[], ◌∷◌, ℕ, ◌+◌, ◌-◌, ◌≤◌, ◌<◌, ◌≡◌, true, false, cond, eqb, List, Option, Some, None, length, take, refl, sym, ap, ◌∙◌, arith}
use Rattle.std.specs.List.{All}
use Rattle.std.proofs.Math.Nat.{mul-le-mul_left, mul-le-mul_right, mul-pos}
use Rattle.std.proofs.lemmas.Bool.{eq-eqb, ne_eqb}
use Rattle.dex_types.specs.declared.addresses.Address.{Address}
use Rattle.dex_types.specs.declared.orders.Order.{Order}
use Rattle.dex_types.specs.declared.terms.Lots.{Lots}
use Rattle.dex_types.specs.declared.terms.Side.{Side}
use Rattle.dex_types.specs.declared.terms.Side.TheVariants.{Bid, Ask}
use Rattle.dex_types.specs.Meeting.{TakerTerms, Demand, less, maker_fill, plain_out, releasing_out, meet}
use Rattle.dex_types.specs.NewOrder.{last_events}
use Rattle.dex_types.specs.Posting.{posted, post, last_of}
use Rattle.dex_types.specs.QueuedEvent.{QueuedEvent}
use Rattle.dex_types.specs.Side.{price_of, opposite, lock}
use Rattle.dex_types.specs.Owed.{order_lock}
use Rattle.dex_laws.specs.Locks.{locked, unlocked}
use Rattle.dex_types.specs.Totals.{weighed_where}
use Rattle.dex_laws.specs.Places.{frees, is_order_at, is_event_at, rest_at, freed_at}
use Rattle.dex_laws.specs.Posted.{weight_of}
use Rattle.dex_types.specs.Totals.{total}
use Rattle.dex_laws.proofs.MovedLaws.{Tells, Tells-where, IsTestOfOrder, meet-told, lock-less, unlocked-releasing_out, unlocked-plain_out}
use Rattle.dex_laws.proofs.PostLaws.{post-induction, total-posted, total-last_of, last_of-none}
use Rattle.dex_laws.proofs.TotalLaws.{total-each}

-- more lots lock more
pub lock-monotone : (side : Side) (sizes : Lots) (price lots more : ℕ) → lots ≤ more → lock side sizes price lots ≤ lock side sizes price more
lock-monotone Bid sizes price lots more grows = mul-le-mul_right sizes.pc (mul-le-mul_left price grows)
lock-monotone Ask sizes price lots more grows = mul-le-mul_right sizes.coin grows

-- no lots lock nothing
pub lock-none : (side : Side) (sizes : Lots) (price : ℕ) → lock side sizes price 0 ≡ 0
lock-none Bid sizes price = omega arith
lock-none Ask sizes price = omega arith

-- some lots at some price lock something
pub lock-some : (side : Side) (sizes : Lots) (price lots : ℕ) → 0 < sizes.coin → 0 < sizes.pc → 0 < price → 0 < lots → 0 < lock side sizes price lots
lock-some Bid sizes price lots coin pc priced some = mul-pos (mul-pos priced some) pc
lock-some Ask sizes price lots coin pc priced some = mul-pos some coin

-- each order's lock is part of what the side locks
pub order_lock-le : (side : Side) (sizes : Lots) (orders : List Order) → All (λ (o : Order). order_lock side sizes o ≤ locked side sizes orders) orders
order_lock-le side sizes orders = total-each (order_lock side sizes) orders

-- what an order locks, by a part of its lots and the rest
pub order_lock-less : (side : Side) (sizes : Lots) (order : Order) (lots : ℕ) → lots ≤ order.lots
    → order_lock side sizes order ≡ order_lock side sizes (less order lots) + lock side sizes (price_of order.id) lots
order_lock-less side sizes order lots within = lock-less side sizes (price_of order.id) order.lots lots within

-- a posted order adds its lock
pub locked-posted : (sizes : Lots) (side : Side) (order : Order) (orders : List Order)
    → locked side sizes (posted side order orders) ≡ order_lock side sizes order + locked side sizes orders
locked-posted sizes side = total-posted (order_lock side sizes) side

-- a posting with its last event: what stands and what the event tells is what stood and the order, by any weights that
-- an out of an order with no lots, and one of an order that leaves with all its lots, tell
pub post-told : (side : Side) (sizes : Lots) (weight : Order → ℕ) (told : QueuedEvent → ℕ)
    → ((order : Order) → told (releasing_out side sizes order order.lots) ≡ weight order)
    → (room : ℕ) (order : Order) (orders : List Order) → 0 < room → (order.lots ≡ 0 → told (plain_out side order) ≡ weight order)
    → total weight (post side room order orders).side + total told (last_events side sizes order (post side room order orders).booted)
    ≡ total weight orders + weight order
post-told side sizes weight told releases room order orders some_room gone =
    post-induction side room order orders
    (λ posting. total weight posting.side + total told (last_events side sizes order posting.booted) ≡ total weight orders + weight order)
    (λ none. rw (eq-eqb order.lots 0 none) (omega (arith, gone none)))
    (λ some space.
    let lots : eqb order.lots 0 ≡ false = ne_eqb order.lots 0 (λ none. omega arith) in
    rw lots (omega (arith, total-posted weight side order orders)))
    (λ some full. booted-told side sizes weight told releases order orders some (omega arith) (last_of orders) refl)
  where
    booted-told : (side : Side) (sizes : Lots) (weight : Order → ℕ) (told : QueuedEvent → ℕ)
        → ((order : Order) → told (releasing_out side sizes order order.lots) ≡ weight order)
        → (order : Order) (orders : List Order) → 0 < order.lots → 0 < length orders → (last : Option Order) → last_of orders ≡ last
        → total weight (posted side order (take (length orders - 1) orders)) + total told (last_events side sizes order last) ≡ total weight orders + weight order
    booted-told side sizes weight told releases order orders some stands None is = absurd (omega (arith, ap length (last_of-none orders is)))
    booted-told side sizes weight told releases order orders some stands (Some last) is =
        let all : total weight orders ≡ total weight (take (length orders - 1) orders) + weight last =
        total-last_of weight orders ∙ ap (λ o. total weight (take (length orders - 1) orders) + weight_of weight o) is in
        omega (arith, total-posted weight side order (take (length orders - 1) orders), all, releases last)

-- what a posting locks, and what its last event unlocks
pub post-locked : (side : Side) (sizes : Lots) (room : ℕ) (order : Order) (orders : List Order) → 0 < room
    → locked side sizes (post side room order orders).side + total (unlocked side) (last_events side sizes order (post side room order orders).booted)
    ≡ locked side sizes orders + order_lock side sizes order
post-locked side sizes room order orders some_room =
    post-told side sizes (order_lock side sizes) (unlocked side) (λ o. unlocked-releasing_out side sizes o o.lots) room order orders some_room
    (λ none. unlocked-plain_out side order ∙ sym (ap (lock side sizes (price_of order.id)) none ∙ lock-none side sizes (price_of order.id)))

-- an out frees a slot exactly where it leaves nothing locked
frees-part : (side : Side) (sizes : Lots) (order : Order) (lots : ℕ) → 0 < lock side sizes (price_of order.id) (order.lots - lots)
    → frees (releasing_out side sizes order lots) ≡ 0
frees-part side sizes order lots locks =
    let some : eqb (lock side sizes (price_of order.id) (order.lots - lots)) 0 ≡ false = ne_eqb _ 0 (λ none. omega arith) in rw some refl

-- an out of all lots leaves nothing locked
pub frees-whole : (side : Side) (sizes : Lots) (order : Order) → frees (releasing_out side sizes order order.lots) ≡ 1
frees-whole side sizes order =
    let nothing : order.lots - order.lots ≡ 0 = omega arith in
    let none : eqb (lock side sizes (price_of order.id) (order.lots - order.lots)) 0 ≡ true =
    eq-eqb _ 0 (ap (lock side sizes (price_of order.id)) nothing ∙ lock-none side sizes (price_of order.id)) in
    rw none refl

frees-fill : (side : Side) (t : TakerTerms) (order : Order) (lots : ℕ) → frees (maker_fill side t order lots) ≡ 0
frees-fill Bid t order lots = refl
frees-fill Ask t order lots = refl

-- an order that rests has a price
abbrev pub IsPriced : Order → Type 0
IsPriced order = 0 < price_of order.id

Tells-slots : (side : Side) (t : TakerTerms) → 0 < t.sizes.coin → 0 < t.sizes.pc → Tells side t IsPriced (λ order. 1) frees
Tells-slots side t coin pc = record {
  own_part = λ order lots priced some part.
      omega (arith, frees-part (opposite side) t.sizes order lots (lock-some (opposite side) t.sizes (price_of order.id) (order.lots - lots) coin pc priced (omega arith)));
  own_whole = λ order priced some. sym (frees-whole (opposite side) t.sizes order);
  fill_part = λ order lots priced some part. omega (arith, frees-fill (opposite side) t order lots);
  fill_whole = λ order priced some. omega (arith, frees-fill (opposite side) t order order.lots);
}

IsTestOfOrder-place : (owner : Address) (slot : ℕ) → IsTestOfOrder (is_order_at owner slot) (is_event_at owner slot)
IsTestOfOrder-place owner slot = record { smaller = λ order lots. refl; event = λ kind order released paid rebate. refl }

-- of each slot of each trader: the orders that rest for it are left, or an event frees it
pub meet-places : (owner : Address) (slot : ℕ) (side : Side) (t : TakerTerms) → 0 < t.sizes.coin → 0 < t.sizes.pc
    → (w : Demand) (orders : List Order) → All IsPriced orders
    → rest_at owner slot orders ≡ rest_at owner slot (meet side t w orders).left + freed_at owner slot (meet side t w orders).events
meet-places owner slot side t coin pc =
    meet-told side t IsPriced _ _ (Tells-where _ _ (IsTestOfOrder-place owner slot) side t IsPriced _ _ (Tells-slots side t coin pc))

-- and the new order rests for its slot, or its event frees it; so it is with the order that leaves for it
pub post-places : (owner : Address) (slot : ℕ) (side : Side) (sizes : Lots) (room : ℕ) (order : Order) (orders : List Order) → 0 < room
    → rest_at owner slot (post side room order orders).side + freed_at owner slot (last_events side sizes order (post side room order orders).booted)
    ≡ rest_at owner slot orders + rest_at owner slot (order ∷ [])
post-places owner slot side sizes room order orders some_room =
    post-told side sizes (weighed_where (is_order_at owner slot) (λ o. 1)) (weighed_where (is_event_at owner slot) frees)
    (λ o. ap (λ freed. cond (is_order_at owner slot o) freed 0) (frees-whole side sizes o)) room order orders some_room (λ none. refl)
    ∙ omega arith
