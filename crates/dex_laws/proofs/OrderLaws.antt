-- laws of a new order as a whole
use Rattle.std.proofs.Common.{◌+◌, ◌*◌, ◌≤◌, ◌≡◌, eqb, [], ◌∷◌, length, arith, length-append}
use Rattle.std.proofs.lemmas.Bool.{cond_both}
use Rattle.dex_types.specs.declared.orders.Order.{Order}
use Rattle.dex_types.specs.declared.terms.Lots.{Lots}
use Rattle.dex_types.specs.declared.terms.Side.{Side}
use Rattle.dex_types.specs.Market.{Market, orders, capacity}
use Rattle.dex_types.specs.Meeting.{Meeting, event_of}
use Rattle.dex_types.specs.NewOrder.{NewOrder, Ordering, order_on, terms_of, demand_of, taker_events, last_events, got, spent, fee_of}
use Rattle.dex_types.specs.QueuedEvent.{TakerFill}
use Rattle.dex_types.specs.Side.{opposite}
use Rattle.dex_types.specs.Trader.{Account}
use Rattle.dex_laws.proofs.EventLaws.{length-meet_events}
use Rattle.dex_laws.proofs.PostLaws.{length-last_events}

length-taker_events : (side : Side) (sizes : Lots) (n : NewOrder) (met : Meeting) (order : Order) → length (taker_events side sizes n met order) ≤ 1
length-taker_events side sizes n met order =
    cond_both (eqb met.pc 0) [] (event_of (TakerFill side) order (got side sizes n met) (spent side sizes n met) (fee_of n met) ∷ []) (λ events. length events ≤ 1)
    (λ none. omega arith) (λ some. omega arith)

-- the events of a new order with twice the orders of both sides grow by at most four
pub length-order_on : (side : Side) (m : Market) (account : Account) (n : NewOrder)
    → length (order_on side m account n).events + 2 * length (order_on side m account n).met.left + 2 * length (order_on side m account n).posting.side
    ≤ 2 * length (orders (opposite side) m) + 2 * length (orders side m) + 4
length-order_on side m account n =
    let o : Ordering = order_on side m account n in
    let sizes : Lots = m.listing.sizes in
    let met : length o.met.events + 2 * length o.met.left ≤ 2 * length (orders (opposite side) m) + 1 =
    length-meet_events side (terms_of sizes n) (demand_of side sizes n) (orders (opposite side) m) in
    let last : length (last_events side sizes o.order o.posting.booted) + 2 * length o.posting.side ≤ 2 * length (orders side m) + 2 =
    length-last_events side sizes (capacity side m) o.order (orders side m) in
    let all : length o.events ≡ length o.met.events + (length (taker_events side sizes n o.met o.order) + length (last_events side sizes o.order o.posting.booted)) =
    simp length-append (omega arith) in
    omega (arith, met, last, all, length-taker_events side sizes n o.met o.order)
