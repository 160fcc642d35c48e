use Rattle.std.proofs.Common.{ap, ◌∙◌}
use Rattle.dex_types.specs.declared.terms.Side.{Side}
use Rattle.dex_types.specs.Side.{opposite}
use Rattle.dex_match.specs.LentParts.{decided_in}
use Rattle.dex_match.specs.OrderParts.{given_by}
use Rattle.dex_slab.specs.Slab.{resting, room_in}
use Rattle.dex_cell_tests.proofs.DoneLaws.{order-decided}
use Rattle.dex_cell_tests.proofs.doing.order_plan.Goals as goal

pub returns : goal.returns
returns c =
    order-decided c.args.taker.now
    (given_by c.args.market.now c.args.requests.now c.args.events.now c.args.account.now (resting c.args.taker.now.id_side c.args.own.now) (room_in c.args.own.now)
    (resting (opposite c.args.taker.now.id_side) c.args.opposite.now))
    c.args.balance c.decide_order.result
    (c.decide_order.ensures
    ∙ ap (λ (s : Side).
    decided_in c.args.taker.now
    (given_by c.args.market.now c.args.requests.now c.args.events.now c.args.account.now (resting c.args.taker.now.id_side c.args.own.now) (room_in c.args.own.now)
    (resting s c.args.opposite.now))
    c.args.balance) c.opposite.ensures)
