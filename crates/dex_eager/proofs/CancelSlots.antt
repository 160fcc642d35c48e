-- cancels do not look at slots
use Rattle.std.proofs.Common.{ℕ, ◌≡◌, cond, eqb, leb, List, [], ◌∷◌, ◌++◌, Option, Some, None, map, take, refl, sym, ap, ◌∙◌}
use Rattle.std.proofs.lemmas.List.{map-append, take-map}
use Rattle.dex_types.specs.declared.addresses.Address.{Address}
use Rattle.dex_types.specs.declared.orders.Order.{Order}
use Rattle.dex_types.specs.declared.terms.Side.{Side}
use Rattle.dex_types.specs.declared.terms.Side.TheVariants.{Bid, Ask}
use Rattle.dex_types.specs.Addresses.{is_same}
use Rattle.dex_types.specs.Cancel.{RestingOrder, CancelBy, ById, ByClient, ByClients, First, order_with, without_order, orders_of, all_orders_of, age_of, older, oldest, is_same_order, without_taken, at_most_one, taken_by, taken_by_all, on_side, cancelled}
use Rattle.dex_types.specs.Side.{by_side}
use Rattle.dex_eager.specs.Slots.{without_slot, without_slots}
use Rattle.dex_eager.proofs.MeetSlots.{cond-ap}

-- a resting order with slot 0, and one that may be there
abbrev pub gone_without_slot : RestingOrder → RestingOrder
gone_without_slot gone = record gone { order = without_slot gone.order }

abbrev pub one_without_slot : Option RestingOrder → Option RestingOrder
one_without_slot None = None
one_without_slot (Some gone) = Some (gone_without_slot gone)

abbrev pub order_without_slot : Option Order → Option Order
order_without_slot None = None
order_without_slot (Some order) = Some (without_slot order)

pub order_with-slots : (id : ℕ) (orders : List Order) → order_with id (without_slots orders) ≡ order_without_slot (order_with id orders)
order_with-slots id [] = refl
order_with-slots id (order ∷ orders) =
    ap (cond (eqb order.id id) (Some (without_slot order))) (order_with-slots id orders)
    ∙ cond-ap order_without_slot (eqb order.id id) (Some order) (order_with id orders)

pub without_order-slots : (id : ℕ) (orders : List Order) → without_order id (without_slots orders) ≡ without_slots (without_order id orders)
without_order-slots id [] = refl
without_order-slots id (order ∷ orders) =
    ap (λ others. cond (eqb order.id id) (without_slots orders) (without_slot order ∷ others)) (without_order-slots id orders)
    ∙ cond-ap without_slots (eqb order.id id) orders (order ∷ without_order id orders)

orders_of-slots : (owner : Address) (side : Side) (orders : List Order) → orders_of owner side (without_slots orders) ≡ map gone_without_slot (orders_of owner side orders)
orders_of-slots owner side [] = refl
orders_of-slots owner side (order ∷ orders) =
    let first : RestingOrder = record { side = side; order = order } in
    ap (λ others. cond (is_same owner order.owner) (gone_without_slot first ∷ others) others) (orders_of-slots owner side orders)
    ∙ cond-ap (map gone_without_slot) (is_same owner order.owner) (first ∷ orders_of owner side orders) (orders_of owner side orders)

all_orders_of-slots : (owner : Address) (bids asks : List Order)
    → all_orders_of owner (without_slots bids) (without_slots asks) ≡ map gone_without_slot (all_orders_of owner bids asks)
all_orders_of-slots owner bids asks =
    ap (λ first. first ++ orders_of owner Ask (without_slots asks)) (orders_of-slots owner Bid bids)
    ∙ ap (λ later. map gone_without_slot (orders_of owner Bid bids) ++ later) (orders_of-slots owner Ask asks)
    ∙ sym (map-append gone_without_slot (orders_of owner Bid bids) (orders_of owner Ask asks))

older-slots : (first : RestingOrder) (other : Option RestingOrder) → older (gone_without_slot first) (one_without_slot other) ≡ gone_without_slot (older first other)
older-slots first None = refl
older-slots first (Some other) = cond-ap gone_without_slot (leb (age_of first) (age_of other)) first other

oldest-slots : (client : ℕ) (resting : List RestingOrder) → oldest client (map gone_without_slot resting) ≡ one_without_slot (oldest client resting)
oldest-slots client [] = refl
oldest-slots client (first ∷ resting) =
    ap (λ other. cond (eqb first.order.client client) (Some (older (gone_without_slot first) other)) other) (oldest-slots client resting)
    ∙ ap (λ one. cond (eqb first.order.client client) (Some one) (one_without_slot (oldest client resting))) (older-slots first (oldest client resting))
    ∙ cond-ap one_without_slot (eqb first.order.client client) (Some (older first (oldest client resting))) (oldest client resting)

without_taken-slots : (gone : Option RestingOrder) (resting : List RestingOrder)
    → without_taken (one_without_slot gone) (map gone_without_slot resting) ≡ map gone_without_slot (without_taken gone resting)
without_taken-slots None resting = refl
without_taken-slots (Some gone) [] = refl
without_taken-slots (Some gone) (first ∷ others) =
    ap (λ rest. cond (is_same_order gone first) (map gone_without_slot others) (gone_without_slot first ∷ rest)) (without_taken-slots (Some gone) others)
    ∙ cond-ap (map gone_without_slot) (is_same_order gone first) others (first ∷ without_taken (Some gone) others)

at_most_one-slots : (gone : Option RestingOrder) → at_most_one (one_without_slot gone) ≡ map gone_without_slot (at_most_one gone)
at_most_one-slots None = refl
at_most_one-slots (Some gone) = refl

taken_by-slots : (client : ℕ) (resting : List RestingOrder) → taken_by client (map gone_without_slot resting) ≡ one_without_slot (taken_by client resting)
taken_by-slots client resting =
    ap (cond (eqb client 0) None) (oldest-slots client resting) ∙ cond-ap one_without_slot (eqb client 0) None (oldest client resting)

taken_by_all-slots : (clients : List ℕ) (resting : List RestingOrder) → taken_by_all clients (map gone_without_slot resting) ≡ map gone_without_slot (taken_by_all clients resting)
taken_by_all-slots [] resting = refl
taken_by_all-slots (client ∷ clients) resting =
    let gone : Option RestingOrder = taken_by client resting in
    ap (λ (one : Option RestingOrder). at_most_one one ++ taken_by_all clients (without_taken one (map gone_without_slot resting))) (taken_by-slots client resting)
    ∙ ap (λ rest. at_most_one (one_without_slot gone) ++ taken_by_all clients rest) (without_taken-slots gone resting)
    ∙ ap (λ rest. at_most_one (one_without_slot gone) ++ rest) (taken_by_all-slots clients (without_taken gone resting))
    ∙ ap (λ one. one ++ map gone_without_slot (taken_by_all clients (without_taken gone resting))) (at_most_one-slots gone)
    ∙ sym (map-append gone_without_slot (at_most_one gone) (taken_by_all clients (without_taken gone resting)))

on_side-slots : (side : Side) (order : Option Order) → on_side side (order_without_slot order) ≡ map gone_without_slot (on_side side order)
on_side-slots side None = refl
on_side-slots side (Some order) = refl

pub by_side-slots : (side : Side) (bids asks : List Order) → by_side side (without_slots bids) (without_slots asks) ≡ without_slots (by_side side bids asks)
by_side-slots Bid bids asks = refl
by_side-slots Ask bids asks = refl

-- slots aside, the orders that are cancelled are those of the book without slots
pub cancelled-slots : (by : CancelBy) (owner : Address) (bids asks : List Order)
    → cancelled by owner (without_slots bids) (without_slots asks) ≡ map gone_without_slot (cancelled by owner bids asks)
cancelled-slots (ById side id) owner bids asks =
    ap (λ orders. on_side side (order_with id orders)) (by_side-slots side bids asks)
    ∙ ap (on_side side) (order_with-slots id (by_side side bids asks))
    ∙ on_side-slots side (order_with id (by_side side bids asks))
cancelled-slots (ByClient client) owner bids asks =
    ap (λ resting. at_most_one (oldest client resting)) (all_orders_of-slots owner bids asks)
    ∙ ap at_most_one (oldest-slots client (all_orders_of owner bids asks))
    ∙ at_most_one-slots (oldest client (all_orders_of owner bids asks))
cancelled-slots (ByClients clients) owner bids asks =
    ap (taken_by_all clients) (all_orders_of-slots owner bids asks) ∙ taken_by_all-slots clients (all_orders_of owner bids asks)
cancelled-slots (First count) owner bids asks =
    ap (take count) (all_orders_of-slots owner bids asks) ∙ take-map gone_without_slot count (all_orders_of owner bids asks)
