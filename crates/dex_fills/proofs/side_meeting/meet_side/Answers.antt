use Rattle.std.proofs.Common.{◌∙◌, ◌∷◌, drop, sym, ap, arith}
use Rattle.dex_laws.specs.Locks.{locked}
use Rattle.dex_ring.specs.Ring.{ring_of}
use Rattle.dex_types.specs.Meeting.{Demand, Meeting, less, meet, met_none}
use Rattle.dex_types.specs.Side.{opposite}
use Rattle.dex_ring.specs.Appended.{appended, pushed_all}
use Rattle.dex_fills.specs.Taker.{taking, demand}
use Rattle.dex_fills.proofs.MeetingSteps.{meet-part, meet-whole}
use Rattle.dex_ring.proofs.AppendLaws.{appended-counted}
use Rattle.dex_fills.proofs.SideMeetings.{AddsOrder, carried-ended, carried-more, carried-same, fits-fill, fits-order, joined-ended, joined-more, joined-room, joined-same, meets-order, written-more, written-same}
use Rattle.dex_fills.proofs.side_meeting.meet_side.Goals as goal

pub push_met-requires-clause-room : goal.push_met-requires-clause-room
push_met-requires-clause-room g c =
    let orders = g.B.SideRead.orders c.orders.opposing in
    let met = meets-order c.args.side _ _ (taking c.args.taker) (demand c.orders.met.want) orders c.in-Some.order c.taken-lots.result
    (g.met.B.SideRead.is_book_side c.orders.opposing c.orders.invariant.holds) (sym c.in-Some.ensures) c.taken-lots.ensures (omega arith) in
    joined-room c.args.side (taking c.args.taker) c.in-Some.order c.taken-lots.result _ met.meets.rest
    (meet c.args.side (taking c.args.taker) (demand c.args.want) (g.B.SideRead.orders c.args.opposing.now)) _ _ c.orders.invariant.joined met.meets.is c.requires.room

pub push_met-requires-clause-slot : goal.push_met-requires-clause-slot
push_met-requires-clause-slot g c =
    let orders = g.B.SideRead.orders c.orders.opposing in
    let met = meets-order c.args.side _ _ (taking c.args.taker) (demand c.orders.met.want) orders c.in-Some.order c.taken-lots.result
    (g.met.B.SideRead.is_book_side c.orders.opposing c.orders.invariant.holds) (sym c.in-Some.ensures) c.taken-lots.ensures (omega arith) in
    met.can_rest.slot

pub push_met-requires-clause-tier : goal.push_met-requires-clause-tier
push_met-requires-clause-tier g c =
    let orders = g.B.SideRead.orders c.orders.opposing in
    let met = meets-order c.args.side _ _ (taking c.args.taker) (demand c.orders.met.want) orders c.in-Some.order c.taken-lots.result
    (g.met.B.SideRead.is_book_side c.orders.opposing c.orders.invariant.holds) (sym c.in-Some.ensures) c.taken-lots.ensures (omega arith) in
    met.can_rest.tier

pub push_met-requires-clause-of_order : goal.push_met-requires-clause-of_order
push_met-requires-clause-of_order g c =
    let orders = g.B.SideRead.orders c.orders.opposing in
    let met = meets-order c.args.side _ _ (taking c.args.taker) (demand c.orders.met.want) orders c.in-Some.order c.taken-lots.result
    (g.met.B.SideRead.is_book_side c.orders.opposing c.orders.invariant.holds) (sym c.in-Some.ensures) c.taken-lots.ensures (omega arith) in
    met.of_order

pub fill_met-fill-requires-clause-tier : goal.fill_met-fill-requires-clause-tier
fill_met-fill-requires-clause-tier g c =
    let orders = g.B.SideRead.orders c.orders.opposing in
    let met = meets-order c.args.side _ _ (taking c.args.taker) (demand c.orders.met.want) orders c.in-Some.order c.taken-lots.result
    (g.met.B.SideRead.is_book_side c.orders.opposing c.orders.invariant.holds) (sym c.in-Some.ensures) c.taken-lots.ensures (omega arith) in
    met.can_rest.tier

pub fill_met-fill-requires-clause-base : goal.fill_met-fill-requires-clause-base
fill_met-fill-requires-clause-base g c =
    let orders = g.B.SideRead.orders c.orders.opposing in
    let met = meets-order c.args.side _ _ (taking c.args.taker) (demand c.orders.met.want) orders c.in-Some.order c.taken-lots.result
    (g.met.B.SideRead.is_book_side c.orders.opposing c.orders.invariant.holds) (sym c.in-Some.ensures) c.taken-lots.ensures (omega arith) in
    (fits-order c.args.side (taking c.args.taker) _ _ met.meets.rest _ c.in-Some.order c.taken-lots.result c.requires.fits c.orders.invariant.carried met.meets.is).base

pub fill_met-fill-requires-clause-pc : goal.fill_met-fill-requires-clause-pc
fill_met-fill-requires-clause-pc g c =
    let orders = g.B.SideRead.orders c.orders.opposing in
    let met = meets-order c.args.side _ _ (taking c.args.taker) (demand c.orders.met.want) orders c.in-Some.order c.taken-lots.result
    (g.met.B.SideRead.is_book_side c.orders.opposing c.orders.invariant.holds) (sym c.in-Some.ensures) c.taken-lots.ensures (omega arith) in
    (fits-order c.args.side (taking c.args.taker) _ _ met.meets.rest _ c.in-Some.order c.taken-lots.result c.requires.fits c.orders.invariant.carried met.meets.is).pc_met

pub push_met-requires-clause-received : goal.push_met-requires-clause-received
push_met-requires-clause-received g c =
    let orders = g.B.SideRead.orders c.orders.opposing in
    let met = meets-order c.args.side _ _ (taking c.args.taker) (demand c.orders.met.want) orders c.in-Some.order c.taken-lots.result
    (g.met.B.SideRead.is_book_side c.orders.opposing c.orders.invariant.holds) (sym c.in-Some.ensures) c.taken-lots.ensures (omega arith) in
    (fits-fill c.args.side c.args.taker _ _ _ _ (fits-order c.args.side (taking c.args.taker) _ _ met.meets.rest _ c.in-Some.order c.taken-lots.result c.requires.fits c.orders.invariant.carried met.meets.is) c.fill_met-fill.ensures.fill).received

pub met_with-met-requires-clause-lots : goal.met_with-met-requires-clause-lots
met_with-met-requires-clause-lots g c =
    let orders = g.B.SideRead.orders c.orders.opposing in
    let met = meets-order c.args.side _ _ (taking c.args.taker) (demand c.orders.met.want) orders c.in-Some.order c.taken-lots.result
    (g.met.B.SideRead.is_book_side c.orders.opposing c.orders.invariant.holds) (sym c.in-Some.ensures) c.taken-lots.ensures (omega arith) in
    (fits-fill c.args.side c.args.taker _ _ _ _ (fits-order c.args.side (taking c.args.taker) _ _ met.meets.rest _ c.in-Some.order c.taken-lots.result c.requires.fits c.orders.invariant.carried met.meets.is) c.fill_met-fill.ensures.fill).lots_fit

pub met_with-met-requires-clause-pc : goal.met_with-met-requires-clause-pc
met_with-met-requires-clause-pc g c =
    let orders = g.B.SideRead.orders c.orders.opposing in
    let met = meets-order c.args.side _ _ (taking c.args.taker) (demand c.orders.met.want) orders c.in-Some.order c.taken-lots.result
    (g.met.B.SideRead.is_book_side c.orders.opposing c.orders.invariant.holds) (sym c.in-Some.ensures) c.taken-lots.ensures (omega arith) in
    (fits-fill c.args.side c.args.taker _ _ _ _ (fits-order c.args.side (taking c.args.taker) _ _ met.meets.rest _ c.in-Some.order c.taken-lots.result c.requires.fits c.orders.invariant.carried met.meets.is) c.fill_met-fill.ensures.fill).pc_fits

pub met_with-met-requires-clause-rebates : goal.met_with-met-requires-clause-rebates
met_with-met-requires-clause-rebates g c =
    let orders = g.B.SideRead.orders c.orders.opposing in
    let met = meets-order c.args.side _ _ (taking c.args.taker) (demand c.orders.met.want) orders c.in-Some.order c.taken-lots.result
    (g.met.B.SideRead.is_book_side c.orders.opposing c.orders.invariant.holds) (sym c.in-Some.ensures) c.taken-lots.ensures (omega arith) in
    (fits-fill c.args.side c.args.taker _ _ _ _ (fits-order c.args.side (taking c.args.taker) _ _ met.meets.rest _ c.in-Some.order c.taken-lots.result c.requires.fits c.orders.invariant.carried met.meets.is) c.fill_met-fill.ensures.fill).rebates_fit

pub returns-then-lots-order-clause-met : goal.returns-then-lots-order-clause-met
returns-then-lots-order-clause-met g c =
    let orders = g.B.SideRead.orders c.orders.opposing in
    let t = taking c.args.taker in
    let met = meets-order c.args.side _ _ t (demand c.orders.met.want) orders c.in-Some.order c.taken-lots.result
    (g.met.B.SideRead.is_book_side c.orders.opposing c.orders.invariant.holds) (sym c.in-Some.ensures) c.taken-lots.ensures (omega arith) in
    let first = meet-part c.args.side t (demand c.orders.met.want) orders c.in-Some.order (drop 1 orders) c.taken-lots.result met.first.is c.taken-lots.ensures (omega arith) c.if-lots-order.true in
    let adds : AddsOrder t c.in-Some.order c.taken-lots.result c.orders.met.sums c.met_with-met.result.sums =
    record { lots = c.met_with-met.ensures.lots; pc = c.met_with-met.ensures.pc; rebates = c.met_with-met.ensures.rebates } in
    let carried = carried-more c.args.side t c.in-Some.order c.taken-lots.result _ _ _ c.orders.met.sums c.met_with-met.result.sums c.orders.invariant.carried first adds in
    carried-ended c.args.side t _ _ c.met_with-met.result (less c.in-Some.order c.taken-lots.result ∷ drop 1 orders) carried
    (ap (λ (d : Demand). met_none c.args.side t d (less c.in-Some.order c.taken-lots.result ∷ drop 1 orders)) (sym c.met_with-met.ensures.want))

pub returns-then-lots-order-clause-left : goal.returns-then-lots-order-clause-left
returns-then-lots-order-clause-left g c =
    let orders = g.B.SideRead.orders c.orders.opposing in
    let t = taking c.args.taker in
    let met = meets-order c.args.side _ _ t (demand c.orders.met.want) orders c.in-Some.order c.taken-lots.result
    (g.met.B.SideRead.is_book_side c.orders.opposing c.orders.invariant.holds) (sym c.in-Some.ensures) c.taken-lots.ensures (omega arith) in
    let first = meet-part c.args.side t (demand c.orders.met.want) orders c.in-Some.order (drop 1 orders) c.taken-lots.result met.first.is c.taken-lots.ensures (omega arith) c.if-lots-order.true in
    c.set_lots.ensures.orders ∙ met.first.with _ ∙ sym (ap (λ (m : Meeting). m.left) first) ∙ c.orders.invariant.carried.left

pub returns-then-lots-order-clause-list : goal.returns-then-lots-order-clause-list
returns-then-lots-order-clause-list g c =
    let orders = g.B.SideRead.orders c.orders.opposing in
    let t = taking c.args.taker in
    let met = meets-order c.args.side _ _ t (demand c.orders.met.want) orders c.in-Some.order c.taken-lots.result
    (g.met.B.SideRead.is_book_side c.orders.opposing c.orders.invariant.holds) (sym c.in-Some.ensures) c.taken-lots.ensures (omega arith) in
    let first = meet-part c.args.side t (demand c.orders.met.want) orders c.in-Some.order (drop 1 orders) c.taken-lots.result met.first.is c.taken-lots.ensures (omega arith) c.if-lots-order.true in
    joined-ended c.args.side t c.in-Some.order c.taken-lots.result _ _ _ _ _ _ c.orders.invariant.joined first c.push_met.ensures.list

pub returns-then-lots-order-clause-bytes : goal.returns-then-lots-order-clause-bytes
returns-then-lots-order-clause-bytes g c =
    let orders = g.B.SideRead.orders c.orders.opposing in
    let t = taking c.args.taker in
    let met = meets-order c.args.side _ _ t (demand c.orders.met.want) orders c.in-Some.order c.taken-lots.result
    (g.met.B.SideRead.is_book_side c.orders.opposing c.orders.invariant.holds) (sym c.in-Some.ensures) c.taken-lots.ensures (omega arith) in
    let first = meet-part c.args.side t (demand c.orders.met.want) orders c.in-Some.order (drop 1 orders) c.taken-lots.result met.first.is c.taken-lots.ensures (omega arith) c.if-lots-order.true in
    written-more c.args.side t c.in-Some.order c.taken-lots.result _ _ _ _ _ c.orders.invariant.written first c.push_met.ensures.bytes

pub orders-preserved : goal.orders-preserved
orders-preserved g c =
    let orders = g.B.SideRead.orders c.orders.opposing in
    let t = taking c.args.taker in
    let met = meets-order c.args.side _ _ t (demand c.orders.met.want) orders c.in-Some.order c.taken-lots.result
    (g.met.B.SideRead.is_book_side c.orders.opposing c.orders.invariant.holds) (sym c.in-Some.ensures) c.taken-lots.ensures (omega arith) in
    let first = meet-whole c.args.side t (demand c.orders.met.want) orders c.in-Some.order (drop 1 orders) c.taken-lots.result met.first.is c.taken-lots.ensures (omega arith) c.if-lots-order.false in
    let adds : AddsOrder t c.in-Some.order c.taken-lots.result c.orders.met.sums c.met_with-met.result.sums =
    record { lots = c.met_with-met.ensures.lots; pc = c.met_with-met.ensures.pc; rebates = c.met_with-met.ensures.rebates } in
    let whole = meet c.args.side t (demand c.args.want) (g.B.SideRead.orders c.args.opposing.now) in
    let gone = c.remove.ensures.orders ∙ met.first.without in
    let rest = ap (λ (d : Demand). meet c.args.side t d (drop 1 orders)) (sym c.met_with-met.ensures.want)
    ∙ ap (λ os. meet c.args.side t (demand c.met_with-met.result.want) os) (sym gone) in
    record {
      carried = carried-same whole _ _ c.met_with-met.result.sums rest
          (carried-more c.args.side t c.in-Some.order c.taken-lots.result _ _ _ c.orders.met.sums c.met_with-met.result.sums c.orders.invariant.carried first adds);
      joined = joined-same _ _ _ (appended whole.events (ring_of c.args.ring.now.bytes.now)) rest (joined-more c.args.side t c.in-Some.order c.taken-lots.result _ _ _ _ _ c.orders.invariant.joined first c.push_met.ensures.list);
      written = written-same _ _ _ (pushed_all whole.events c.args.ring.now.bytes.now) rest (written-more c.args.side t c.in-Some.order c.taken-lots.result _ _ _ _ _ c.orders.invariant.written first c.push_met.ensures.bytes);
      counted = appended-counted _ _ _ c.push_met.ensures.list;
      accepted = c.push_met.ensures.queue.accepted;
      place = c.push_met.ensures.queue.place ∙ c.orders.invariant.place;
      holds = c.remove.ensures.holds;
      same_side = c.remove.ensures.side ∙ c.orders.invariant.same_side;
      same_room = c.remove.ensures.room ∙ c.orders.invariant.same_room;
      same_place = g.met.B.SideBook.chains _ _ _ c.orders.invariant.same_place c.remove.ensures.place;
      locks = omega (arith, c.orders.invariant.locks, ap (locked (opposite c.args.side) c.args.taker.sizes) met.first.is, ap (locked (opposite c.args.side) c.args.taker.sizes) gone);
    }
