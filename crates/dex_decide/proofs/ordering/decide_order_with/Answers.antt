use Rattle.std.proofs.Common.{◌≡◌, ap, sym, ◌∙◌, subst}
use Rattle.dex_types.specs.declared.terms.Side.{Side}
use Rattle.dex_types.specs.Side.{opposite}
use Rattle.dex_match.specs.LentParts.{outcome_in, shown_in}
use Rattle.dex_match.specs.OrderParts.{IsGiven, OrderGiven}
use Rattle.dex_slab.specs.declared.slab_ref.SlabRef.{SlabRef}
use Rattle.dex_slab.specs.Slab.{resting, room_in}
use Rattle.dex_plan.specs.Given.{asked_by, bytes_on, given_on}
use Rattle.dex_decide.proofs.OrderLaws.{order-given, order-lent, side-lent}
use Rattle.dex_decide.proofs.PartLaws.{sums-told}
use Rattle.dex_decide.proofs.ordering.decide_order_with.Goals as goal
use Rattle.dex_decide.proofs.ordering.decide_order_with.Goals.{After-gathered-input}
use Rattle.dex_decide.proofs.ordering.decide_order_with.Given.{Over}

pub decide_order_with_pending-requires-clause-own : goal.decide_order_with_pending-requires-clause-own
decide_order_with_pending-requires-clause-own g c =
    side-lent (g.M.ReadMarket.held c.args.accounts.now) c.requires.sound c.args.taker.now.id_side c.gathered-input.result.own.now c.side_of-own.result
    c.gathered-input.ensures.own c.side_of-own.ensures.bytes

pub decide_order_with_pending-requires-clause-opposite : goal.decide_order_with_pending-requires-clause-opposite
decide_order_with_pending-requires-clause-opposite g c =
    side-lent (g.M.ReadMarket.held c.args.accounts.now) c.requires.sound (opposite c.args.taker.now.id_side) c.gathered-input.result.opposite.now c.side_of-opposite.result
    c.gathered-input.ensures.opposite
    (c.side_of-opposite.ensures.bytes ∙ ap (λ (s : Side). bytes_on s (g.M.ReadMarket.held c.args.accounts.now)) c.opposite.ensures)

-- what is lent is what an order of the side is given by the accounts
lent-is : (g : Over) (c : After-gathered-input g)
    → shown_in (λ (s : SlabRef). resting s.side s.bytes.now) (λ (s : SlabRef). room_in s.bytes.now) (λ (s : SlabRef). resting s.side s.bytes.now) c.gathered-input.result
    ≡ given_on c.args.taker.now.id_side c.args.acting.bytes.now (g.M.ReadMarket.held c.args.accounts.now)
lent-is g c =
    let input = c.gathered-input.result in
    let lent = c.gathered-input.ensures in
    order-lent (g.M.ReadMarket.held c.args.accounts.now) c.requires.sound c.args.taker.now.id_side c.args.acting.bytes.now
    input.orders.bytes.now input.market.bytes.now input.requests.bytes.now input.ring.bytes.now input.own.now input.opposite.now
    c.side_of-own.result c.side_of-opposite.result
    lent.orders (lent.market ∙ c.market.ensures) (lent.requests ∙ c.requests.ensures) (lent.ring ∙ c.events.ensures)
    lent.own lent.opposite
    c.side_of-own.ensures.bytes (c.side_of-opposite.ensures.bytes ∙ ap (λ (s : Side). bytes_on s (g.M.ReadMarket.held c.args.accounts.now)) c.opposite.ensures)
    c.side_of-own.ensures.side (c.side_of-opposite.ensures.side ∙ c.opposite.ensures)

pub decide_order_with_pending-requires-clause-given : goal.decide_order_with_pending-requires-clause-given
decide_order_with_pending-requires-clause-given g c =
    subst (λ (g : OrderGiven). IsGiven c.args.taker.now.id_side c.args.taker.now.account g)
    (sym (lent-is g (goal.at.decide_order_with_pending-requires-clause-given g c).After-gathered-input))
    (order-given (g.M.ReadMarket.held c.args.accounts.now) c.requires.sound c.args.taker.now.id_side (asked_by c.args.ask.now).named c.args.taker.now.account
    c.args.acting.address c.args.acting.bytes.now c.requires.acting c.requires.account)

pub decide_order_with_pending-requires-clause-pending : goal.decide_order_with_pending-requires-clause-pending
decide_order_with_pending-requires-clause-pending g c =
    sums-told (g.M.ReadMarket.held c.args.accounts.now) c.requires.sound c.args.pending.now c.gathered-input.result.ring.bytes.now c.requires.pending
    (c.gathered-input.ensures.ring ∙ c.events.ensures)

pub returns : goal.returns
returns g c =
    c.decide_order_with_pending.ensures
    ∙ ap (λ (g : OrderGiven). outcome_in c.args.taker.now g c.args.balance) (lent-is g (goal.at.returns g c).After-gathered-input)
