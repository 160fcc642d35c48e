use Rattle.std.proofs.Common.{◌<◌, ◌^◌, arith}
use Rattle.dex_types.specs.Meeting.{Meeting}
use Rattle.dex_types.specs.NewOrder.{Standing, demand_of, full_lock, meeting_of, terms_of}
use Rattle.dex_laws.proofs.DemandLaws.{meet-rebates_le}
use Rattle.dex_laws.proofs.EventLaws.{length-meet_matches}
use Rattle.dex_orders.specs.OrdersAccount.{account_of}
use Rattle.dex_match.specs.Deciding.{standing_at}
use Rattle.dex_match.specs.OrderTerms.{order_of}
use Rattle.dex_match.proofs.FittingLaws.{fits-sums}
use Rattle.dex_match.proofs.ForeseenLaws.{base-fits, length-ordering, planned}
use Rattle.dex_match.proofs.foreseeing.foresee_order.Goals as goal

pub overflow_add-plan : goal.overflow_add-plan
overflow_add-plan g c =
    let n = order_of c.args.taker in
    omega (
      arith,
      c.outlook-outlook.ensures.prospect.events,
      c.own_events.ensures.few,
      length-meet_matches c.args.taker.id_side (terms_of c.args.sizes n) (demand_of c.args.taker.id_side c.args.sizes n) (g.A.SideRead.orders c.args.opposite.now),
    )

pub returns : goal.returns
returns g c =
    let side = c.args.taker.id_side in
    let n = order_of c.args.taker in
    let opposing = g.A.SideRead.orders c.args.opposite.now in
    let s : Standing = standing_at c.args.sizes c.args.sequence (g.B.SideRead.orders c.args.own.now) (g.B.SideRead.room c.args.own.now) opposing in
    let account = account_of c.args.orders.now.bytes.now in
    let met : Meeting = meeting_of side s n in
    let foreseen = c.outlook-outlook.ensures.prospect in
    let lock : full_lock side c.args.sizes n < 2 ^ 64 = omega (arith, c.lock_of-lock.ensures, c.lock_of-lock.type_inv) in
    let fits = fits-sums side c.args.sizes n opposing (omega arith) lock c.requires.locks in
    record {
      plan = planned s account c.args.taker c.lock_of-lock.result _ _ _ _ _ _ _ _ c.lock_of-lock.ensures c.deposit_of.ensures
          (length-ordering s account c.args.taker _ _ _ _ _ c.requires.room foreseen.events foreseen.met.pc c.outlook-outlook.ensures.rested c.is_full.ensures c.own_events.ensures.value)
          foreseen.met.lots foreseen.met.pc c.outlook-outlook.ensures.fee c.outlook-outlook.ensures.rested c.lowest_slot.ensures c.id_of.ensures;
      aborts = foreseen.aborts;
      lots = foreseen.met.lots;
      pc = foreseen.met.pc;
      rebates = foreseen.met.rebates;
      base_fits = base-fits c.outlook-outlook.result.prospect.met.sums.lots met.lots c.args.sizes.coin foreseen.met.lots fits.base;
      rebates_within = omega (arith, foreseen.met.pc, foreseen.met.rebates, meet-rebates_le side (terms_of c.args.sizes n) (demand_of side c.args.sizes n) opposing);
    }
