use Rattle.std.proofs.Common.{rules, ℕ, ap, ◌∙◌}
use Rattle.dex_types.specs.declared.terms.Lots.{Lots}
use Rattle.dex_types.specs.declared.terms.Side.{Side}
use Rattle.dex_types.specs.NewOrder.{NewOrder}
use Rattle.dex_orders.specs.OrdersAccount.{account_of, added, funded, funds_of}
use Rattle.dex_ring.specs.Appended.{appended, pushed_all}
use Rattle.dex_ring.specs.Ring.{ring_of}
use Rattle.dex_match.specs.declared.intake.Intake.{Intake}
use Rattle.dex_match.specs.declared.payment.Moves.{Moves}
use Rattle.dex_match.specs.Applying as applying
use Rattle.dex_match.specs.OrderTerms.{meeting_with, order_of}
use Rattle.dex_match.proofs.PartsLaws.{same-given, sound-given}
use Rattle.dex_match.proofs.PlannedLaws.{planned-list, planned-ordered}
use Rattle.dex_match.proofs.RoomLaws.{given-apply}
use Rattle.dex_match.proofs.applying.apply_order.Goals as goal

pub trade-rebates-requires-clause-can_trade : goal.trade-rebates-requires-clause-can_trade
trade-rebates-requires-clause-can_trade g c =
    let can = given-apply _ (order_of c.args.taker.now) _ c.args.plan.now c.requires.price c.amounts_fit.ensures.lots c.amounts_fit.ensures.lock
    (sound-given _ _ _ c.requires.given) c.requires.decided in
    search (rules, can)

pub intake_by-requires : goal.intake_by-requires
intake_by-requires g c =
    let can = given-apply _ (order_of c.args.taker.now) _ c.args.plan.now c.requires.price c.amounts_fit.ensures.lots c.amounts_fit.ensures.lock
    (sound-given _ _ _ c.requires.given) c.requires.decided in
    search (rules, can)

pub take_in-requires-clause-can_take_in : goal.take_in-requires-clause-can_take_in
take_in-requires-clause-can_take_in g c =
    let can = given-apply _ (order_of c.args.taker.now) _ c.args.plan.now c.requires.price c.amounts_fit.ensures.lots c.amounts_fit.ensures.lock
    (sound-given _ _ _ c.requires.given) c.requires.decided in
    search (rules, can)

pub moves_by-requires : goal.moves_by-requires
moves_by-requires g c =
    let can = given-apply _ (order_of c.args.taker.now) _ c.args.plan.now c.requires.price c.amounts_fit.ensures.lots c.amounts_fit.ensures.lock
    (sound-given _ _ _ c.requires.given) c.requires.decided in
    search (rules, can)

pub pay-requires-clause-slot : goal.pay-requires-clause-slot
pay-requires-clause-slot g c =
    let can = given-apply _ (order_of c.args.taker.now) _ c.args.plan.now c.requires.price c.amounts_fit.ensures.lots c.amounts_fit.ensures.lock
    (sound-given _ _ _ c.requires.given) c.requires.decided in
    search (rules, can)

pub pay-requires-clause-free : goal.pay-requires-clause-free
pay-requires-clause-free g c =
    let can = given-apply _ (order_of c.args.taker.now) _ c.args.plan.now c.requires.price c.amounts_fit.ensures.lots c.amounts_fit.ensures.lock
    (sound-given _ _ _ c.requires.given) c.requires.decided in
    search (rules, can)

pub pay-requires-clause-fresh : goal.pay-requires-clause-fresh
pay-requires-clause-fresh g c =
    let can = given-apply _ (order_of c.args.taker.now) _ c.args.plan.now c.requires.price c.amounts_fit.ensures.lots c.amounts_fit.ensures.lock
    (sound-given _ _ _ c.requires.given) c.requires.decided in
    search (rules, can)

pub pay-requires-clause-can_pay : goal.pay-requires-clause-can_pay
pay-requires-clause-can_pay g c =
    let can = given-apply _ (order_of c.args.taker.now) _ c.args.plan.now c.requires.price c.amounts_fit.ensures.lots c.amounts_fit.ensures.lock
    (sound-given _ _ _ c.requires.given) c.requires.decided in
    search (rules, can)

pub returns-clause-does : goal.returns-clause-does
returns-clause-does g c =
    let side : Side = c.args.taker.now.id_side in
    let n : NewOrder = order_of c.args.taker.now in
    let plan = c.args.plan.now in
    let own = g.B.SideRead.orders c.args.own.now in
    let room = g.B.SideRead.room c.args.own.now in
    let opposing = g.A.SideRead.orders c.args.opposite.now in
    let market = c.args.market.now.bytes.now in
    let ring = c.args.ring.now.bytes.now in
    let account = c.args.orders.now.bytes.now in
    let funds = funds_of (account_of account) in
    let rebates = c.trade-rebates.ensures.rebates ∙ ap (λ (s : Lots). (meeting_with s c.args.taker.now opposing).rebates) c.sizes-sizes.ensures in
    let intake = c.intake_by.ensures ∙ ap (λ (r : ℕ). applying.intake_by side plan.deposit plan.fee r) rebates in
    let moves = c.moves_by.ensures ∙ ap (λ (s : Lots). applying.moves_by side s n plan) c.sizes-sizes.ensures in
    let opposite = c.trade-rebates.ensures.opposite ∙ ap (λ (s : Lots). (meeting_with s c.args.taker.now opposing).left) c.sizes-sizes.ensures in
    let given = sound-given _ _ _ c.requires.given in
    let words = c.take_in.ensures.bytes ∙ ap (λ (i : Intake). applying.bytes_with i market) intake in
    let queue = c.trade-rebates.ensures.bytes ∙ ap (λ (s : Lots). pushed_all (applying.trade_events side s n plan room own opposing) ring) c.sizes-sizes.ensures in
    let paid = c.pay.ensures.bytes ∙ ap (λ (m : Moves). funded (added account plan.slot plan.id side n.client) (applying.funds_with side m funds)) moves in
    let list = c.trade-rebates.ensures.list ∙ ap (λ (s : Lots). appended (applying.trade_events side s n plan room own opposing) (ring_of ring)) c.sizes-sizes.ensures
    ∙ planned-list c.args.taker.now _ plan c.requires.decided in
    record {
      reply_is = search rules;
      does =
          same-given _ _ _ _ _ _ _ _ _ _ _ _ _ _ words (search rules) queue paid
          c.trade-rebates.ensures.own c.trade-rebates.ensures.own_side.room opposite
          ∙ planned-ordered c.args.taker.now _ plan given c.requires.decided;
      list = list;
      market = search rules;
      requests = search rules;
      events = search rules;
      account = search rules;
    }
