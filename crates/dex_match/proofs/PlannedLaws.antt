-- what a plan leaves is what the order decided leaves
use Rattle.std.proofs.Common.{◌≡◌, List, refl, ap, ◌∙◌}
use Rattle.dex_types.specs.declared.terms.Lots.{Lots}
use Rattle.dex_types.specs.declared.terms.Side.{Side}
use Rattle.dex_types.specs.NewOrder.{NewOrder, Ordering, account_after}
use Rattle.dex_types.specs.QueuedEvent.{QueuedEvent}
use Rattle.dex_ring.specs.Appended.{appended, pushed_all}
use Rattle.dex_ring.specs.Ring.{Ring, ring_of}
use Rattle.dex_orders.specs.declared.amounts.Funds.{Funds}
use Rattle.dex_orders.specs.OrdersAccount.{account_of, added, funded, funds_of}
use Rattle.dex_match.specs.declared.order_plan.OrderPlan.{OrderPlan}
use Rattle.dex_match.specs.Applying.{bytes_with, events_by, intake_by, ordering_over, posted_by}
use Rattle.dex_match.specs.declared.order_terms.Taker.{Taker}
use Rattle.dex_match.specs.LentParts.{events_in, ordered}
use Rattle.dex_match.specs.OrderParts.{OrderGiven, parts_of}
use Rattle.dex_match.specs.OrderTerms.{order_of}
use Rattle.dex_match.specs.Ordering.{IsDecided}
use Rattle.dex_match.specs.Planned.{planned, planned_list}
use Rattle.dex_market.specs.MarketAccount.{market_words, sizes_of}
use Rattle.dex_match.proofs.PartsLaws.{SoundGiven, same-given}
use Rattle.dex_match.proofs.RoomLaws.{events-are, given-funds}

-- the bytes and the sides
pub planned-ordered : (taker : Taker) (given : OrderGiven) (plan : OrderPlan) → SoundGiven taker.id_side taker.account given → IsDecided plan taker.id_side (order_of taker) (parts_of given)
    → planned taker.id_side (order_of taker) plan given ≡ ordered taker given
planned-ordered taker given plan sound decided =
    let side : Side = taker.id_side in
    let n : NewOrder = order_of taker in
    let old = given.account in
    let ring = given.events in
    let room = given.own_room in
    let own = given.own in
    let sizes : Lots = sizes_of (market_words given.market) in
    let o : Ordering = ordering_over side n given in
    let after : Funds = funds_of (account_after side sizes n o (account_of old)) in
    let market = ap (λ (p : OrderPlan). bytes_with (intake_by side p.deposit p.fee o.met.rebates) given.market) decided.planned in
    let events = ap (λ (p : OrderPlan). pushed_all (events_by side sizes n p o.met (posted_by side n p room own)) ring) decided.planned
    ∙ ap (λ (es : List QueuedEvent). pushed_all es ring) (events-are side n (parts_of given)) in
    let account = ap (λ (f : Funds). funded (added old plan.slot plan.id side n.client) f) (given-funds side n given plan sound decided)
    ∙ ap (λ (p : OrderPlan). funded (added old p.slot p.id side n.client) after) decided.planned in
    let posted = ap (λ (p : OrderPlan). (posted_by side n p room own).side) decided.planned in
    same-given _ _ _ _ _ _ _ _ _ _ _ _ _ _ market refl events account posted refl refl

-- the queue, as it is read
pub planned-list : (taker : Taker) (given : OrderGiven) (plan : OrderPlan) → IsDecided plan taker.id_side (order_of taker) (parts_of given)
    → planned_list taker.id_side (order_of taker) plan (parts_of given) ≡ appended (events_in taker given) (ring_of given.events)
planned-list taker given plan decided =
    let side : Side = taker.id_side in
    let n : NewOrder = order_of taker in
    let ring : Ring = ring_of given.events in
    let o : Ordering = ordering_over side n given in
    ap (λ (p : OrderPlan). appended (events_by side (sizes_of (market_words given.market)) n p o.met (posted_by side n p given.own_room given.own)) ring) decided.planned
    ∙ ap (λ (es : List QueuedEvent). appended es ring) (events-are side n (parts_of given))
