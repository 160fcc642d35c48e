use Rattle.std.proofs.Common.{◌∙◌, arith, rules}
use Rattle.dex_match.specs.OrderParts.{OrderParts, given_by, parts_of}
use Rattle.dex_match.proofs.DecidedLaws.{AreRead, AreSums, answers}
use Rattle.dex_match.proofs.PartLaws.{locks-given}
use Rattle.dex_match.proofs.PartsLaws.{sound-given}
use Rattle.dex_match.proofs.deciding.decide_with.Goals as goal

pub refused_early-requires-clause-account : goal.refused_early-requires-clause-account
refused_early-requires-clause-account g c = c.requires.given.has.accepted

pub foresee_order-foreseen-requires-clause-account : goal.foresee_order-foreseen-requires-clause-account
foresee_order-foreseen-requires-clause-account g c = c.requires.given.has.accepted

pub foresee_order-foreseen-requires-clause-locks : goal.foresee_order-foreseen-requires-clause-locks
foresee_order-foreseen-requires-clause-locks g c =
    let locks = locks-given c.args.taker.now.id_side c.args.taker.now.account _ (sound-given _ _ _ c.requires.given) in
    search (rules, locks)

pub returns : goal.returns
returns g c =
    let parts : OrderParts = parts_of (given_by c.args.input.now.market.bytes.now c.args.input.now.requests.bytes.now c.args.input.now.ring.bytes.now c.args.input.now.orders.bytes.now
    (g.B.SideRead.orders c.args.input.now.own.now) (g.B.SideRead.room c.args.input.now.own.now) (g.A.SideRead.orders c.args.input.now.opposite.now)) in
    let left = c.with_fills-pending.ensures in
    let read : AreRead parts c.args.taker.now c.foresee_order-foreseen.result c.sizes-sizes.result c.sequence_of.result c.room.result c.refused_early.result = record {
      sizes_read = c.sizes-sizes.ensures;
      next = c.sequence_of.ensures;
      room_read = c.room.ensures;
      foretold = c.foresee_order-foreseen.ensures;
      early_is = c.refused_early.ensures;
    } in
    let sums : AreSums parts c.args.taker.now.id_side c.foresee_order-foreseen.result c.sizes-sizes.result c.vaults_after-vaults.result c.with_fills-pending.result = record {
      coin_put = c.vaults_after-vaults.ensures.coin;
      pc_put = c.vaults_after-vaults.ensures.pc;
      coin_left = omega (arith, left.coin, c.fills_now.ensures.coin);
      pc_left = omega (arith, left.pc, c.fills_now.ensures.pc);
    } in
    c.answered.ensures
    ∙ answers parts c.args.taker.now c.args.balance c.foresee_order-foreseen.result c.sizes-sizes.result c.sequence_of.result c.room.result c.refused_early.result c.refused_late.result
    c.refused_beyond.result c.vaults_after-vaults.result c.with_fills-pending.result read c.in_default.is c.refused_late.ensures c.in_default-refused_late.is sums c.refused_beyond.ensures
