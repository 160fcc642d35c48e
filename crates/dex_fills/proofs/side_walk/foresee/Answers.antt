use Rattle.std.proofs.Common.{◌≡◌, ◌∙◌, ◌+◌, ◌∷◌, length, sym, ap, subst, arith}
use Rattle.dex_laws.specs.Walks.{orders_from, IsReached}
use Rattle.dex_laws.proofs.EventLaws.{length-meet_matches}
use Rattle.dex_laws.proofs.WalkLaws.{walk-start}
use Rattle.dex_types.specs.Meeting.{Demand, Meeting, less, meet, met_none}
use Rattle.dex_fills.specs.Taker.{taking, demand}
use Rattle.dex_fills.proofs.MeetingSteps.{meet-ended, meet-part, meet-whole}
use Rattle.dex_fills.proofs.SideMeetings.{AddsOrder, WalksOn, carried-more, carried-same, carried-start, counted-more, fits-order, foreseen-ended, meets-first, walks-on}
use Rattle.dex_fills.proofs.side_walk.foresee.Goals as goal

pub orders-init : goal.orders-init
orders-init g c =
    let orders = g.B.SideRead.orders c.args.opposing.now in
    let start = walk-start orders in
    let all : orders_from c.best-next.result orders ≡ orders = ap (λ o. orders_from o orders) c.best-next.ensures ∙ start.0 in
    let whole = ap (λ os. meet c.args.side (taking c.args.taker) (demand c.args.want) os) (sym all) in
    rw c.unmet-met.ensures (record {
      carried = carried-same _ _ _ _ whole (carried-start _);
      counted = omega (arith, ap (λ (m : Meeting). length m.events) whole);
      reached = subst (λ o. IsReached o orders) (sym c.best-next.ensures) start.1;
    })

pub returns-then-lots-eq0 : goal.returns-then-lots-eq0
returns-then-lots-eq0 g c =
    let orders = g.B.SideRead.orders c.args.opposing.now in
    let on : WalksOn c.in-Some.order orders c.orders.next = walks-on _ _ orders c.orders.next c.in-Some.order (g.met.B.SideRead.is_book_side c.args.opposing.now c.requires.holds) c.in-Some.is c.orders.invariant.reached in
    let ended = meet-ended c.args.side (taking c.args.taker) (demand c.orders.met.want) (orders_from c.orders.next orders) c.in-Some.order on.others c.taken-lots.result on.is c.taken-lots.ensures c.if-lots-eq0.true
    ∙ ap (met_none c.args.side (taking c.args.taker) (demand c.orders.met.want)) on.is in
    foreseen-ended c.args.side (taking c.args.taker) c.args.taker.limit_price _ _ c.orders.met c.orders.events c.in-Some.order on.others c.prospect_at.result c.orders.invariant.carried c.orders.invariant.counted ended
    c.prospect_at.ensures.met c.prospect_at.ensures.events c.prospect_at.ensures.crosses (c.prospect_at.ensures.aborts on.others)

pub overflow_add-events : goal.overflow_add-events
overflow_add-events g c =
    let orders = g.B.SideRead.orders c.args.opposing.now in
    let on : WalksOn c.in-Some.order orders c.orders.next = walks-on _ _ orders c.orders.next c.in-Some.order (g.met.B.SideRead.is_book_side c.args.opposing.now c.requires.holds) c.in-Some.is c.orders.invariant.reached in
    let met = meets-first c.args.side (taking c.args.taker) (demand c.orders.met.want) (orders_from c.orders.next orders) c.in-Some.order on.others c.taken-lots.result on.is c.taken-lots.ensures (omega arith) in
    let more = counted-more c.args.side (taking c.args.taker) c.in-Some.order c.taken-lots.result c.orders.events (meet c.args.side (taking c.args.taker) (demand c.args.want) orders) _ met.rest c.orders.invariant.counted met.is in
    let most = length-meet_matches c.args.side (taking c.args.taker) (demand c.args.want) orders in
    omega (arith, more, most, c.events_of-events.ensures.value)

pub met_after-met-requires-clause-tier : goal.met_after-met-requires-clause-tier
met_after-met-requires-clause-tier g c =
    let orders = g.B.SideRead.orders c.args.opposing.now in
    let on : WalksOn c.in-Some.order orders c.orders.next = walks-on _ _ orders c.orders.next c.in-Some.order (g.met.B.SideRead.is_book_side c.args.opposing.now c.requires.holds) c.in-Some.is c.orders.invariant.reached in
    on.can_rest.tier

pub met_after-met-requires-clause-lots : goal.met_after-met-requires-clause-lots
met_after-met-requires-clause-lots g c =
    let orders = g.B.SideRead.orders c.args.opposing.now in
    let on : WalksOn c.in-Some.order orders c.orders.next = walks-on _ _ orders c.orders.next c.in-Some.order (g.met.B.SideRead.is_book_side c.args.opposing.now c.requires.holds) c.in-Some.is c.orders.invariant.reached in
    let met = meets-first c.args.side (taking c.args.taker) (demand c.orders.met.want) (orders_from c.orders.next orders) c.in-Some.order on.others c.taken-lots.result on.is c.taken-lots.ensures (omega arith) in
    (fits-order c.args.side (taking c.args.taker) _ _ met.rest _ c.in-Some.order c.taken-lots.result c.requires.fits c.orders.invariant.carried met.is).lots_fit

pub met_after-met-requires-clause-pc : goal.met_after-met-requires-clause-pc
met_after-met-requires-clause-pc g c =
    let orders = g.B.SideRead.orders c.args.opposing.now in
    let on : WalksOn c.in-Some.order orders c.orders.next = walks-on _ _ orders c.orders.next c.in-Some.order (g.met.B.SideRead.is_book_side c.args.opposing.now c.requires.holds) c.in-Some.is c.orders.invariant.reached in
    let met = meets-first c.args.side (taking c.args.taker) (demand c.orders.met.want) (orders_from c.orders.next orders) c.in-Some.order on.others c.taken-lots.result on.is c.taken-lots.ensures (omega arith) in
    (fits-order c.args.side (taking c.args.taker) _ _ met.rest _ c.in-Some.order c.taken-lots.result c.requires.fits c.orders.invariant.carried met.is).pc_fits

pub met_after-met-requires-clause-base : goal.met_after-met-requires-clause-base
met_after-met-requires-clause-base g c =
    let orders = g.B.SideRead.orders c.args.opposing.now in
    let on : WalksOn c.in-Some.order orders c.orders.next = walks-on _ _ orders c.orders.next c.in-Some.order (g.met.B.SideRead.is_book_side c.args.opposing.now c.requires.holds) c.in-Some.is c.orders.invariant.reached in
    let met = meets-first c.args.side (taking c.args.taker) (demand c.orders.met.want) (orders_from c.orders.next orders) c.in-Some.order on.others c.taken-lots.result on.is c.taken-lots.ensures (omega arith) in
    (fits-order c.args.side (taking c.args.taker) _ _ met.rest _ c.in-Some.order c.taken-lots.result c.requires.fits c.orders.invariant.carried met.is).base

pub met_after-met-requires-clause-rebates : goal.met_after-met-requires-clause-rebates
met_after-met-requires-clause-rebates g c =
    let orders = g.B.SideRead.orders c.args.opposing.now in
    let on : WalksOn c.in-Some.order orders c.orders.next = walks-on _ _ orders c.orders.next c.in-Some.order (g.met.B.SideRead.is_book_side c.args.opposing.now c.requires.holds) c.in-Some.is c.orders.invariant.reached in
    let met = meets-first c.args.side (taking c.args.taker) (demand c.orders.met.want) (orders_from c.orders.next orders) c.in-Some.order on.others c.taken-lots.result on.is c.taken-lots.ensures (omega arith) in
    (fits-order c.args.side (taking c.args.taker) _ _ met.rest _ c.in-Some.order c.taken-lots.result c.requires.fits c.orders.invariant.carried met.is).rebates_fit

pub returns-then-lots-order : goal.returns-then-lots-order
returns-then-lots-order g c =
    let orders = g.B.SideRead.orders c.args.opposing.now in
    let t = taking c.args.taker in
    let on : WalksOn c.in-Some.order orders c.orders.next = walks-on _ _ orders c.orders.next c.in-Some.order (g.met.B.SideRead.is_book_side c.args.opposing.now c.requires.holds) c.in-Some.is c.orders.invariant.reached in
    let first = meet-part c.args.side t (demand c.orders.met.want) (orders_from c.orders.next orders) c.in-Some.order on.others c.taken-lots.result on.is c.taken-lots.ensures (omega arith) c.if-lots-order.true in
    let adds : AddsOrder t c.in-Some.order c.taken-lots.result c.orders.met.sums c.met_after-met.result.sums =
    record { lots = c.met_after-met.ensures.lots; pc = c.met_after-met.ensures.pc; rebates = c.met_after-met.ensures.rebates } in
    let carried = carried-more c.args.side t c.in-Some.order c.taken-lots.result _ _ _ c.orders.met.sums c.met_after-met.result.sums c.orders.invariant.carried first adds in
    let counted = counted-more c.args.side t c.in-Some.order c.taken-lots.result c.orders.events
    (meet c.args.side (taking c.args.taker) (demand c.args.want) orders) _ _ c.orders.invariant.counted first in
    let left = less c.in-Some.order c.taken-lots.result in
    let none = ap (λ (d : Demand). met_none c.args.side t d (left ∷ on.others)) (sym c.met_after-met.ensures.want) in
    let now = ap (λ k. c.orders.events + k) c.events_of-events.ensures.value in
    foreseen-ended c.args.side t c.args.taker.limit_price _ _ c.met_after-met.result _ left on.others c.prospect_at-then-lots-order.result carried counted none
    c.prospect_at-then-lots-order.ensures.met (c.prospect_at-then-lots-order.ensures.events ∙ now) c.prospect_at-then-lots-order.ensures.crosses
    (c.prospect_at-then-lots-order.ensures.aborts on.others)

pub orders-smaller : goal.orders-smaller
orders-smaller g c =
    let orders = g.B.SideRead.orders c.args.opposing.now in
    let on : WalksOn c.in-Some.order orders c.orders.next = walks-on _ _ orders c.orders.next c.in-Some.order (g.met.B.SideRead.is_book_side c.args.opposing.now c.requires.holds) c.in-Some.is c.orders.invariant.reached in
    rw c.after-next.ensures (omega (arith, ap length on.is, ap length on.follows))

pub orders-preserved : goal.orders-preserved
orders-preserved g c =
    let orders = g.B.SideRead.orders c.args.opposing.now in
    let t = taking c.args.taker in
    let on : WalksOn c.in-Some.order orders c.orders.next = walks-on _ _ orders c.orders.next c.in-Some.order (g.met.B.SideRead.is_book_side c.args.opposing.now c.requires.holds) c.in-Some.is c.orders.invariant.reached in
    let first = meet-whole c.args.side t (demand c.orders.met.want) (orders_from c.orders.next orders) c.in-Some.order on.others c.taken-lots.result on.is c.taken-lots.ensures (omega arith) c.if-lots-order.false in
    let adds : AddsOrder t c.in-Some.order c.taken-lots.result c.orders.met.sums c.met_after-met.result.sums =
    record { lots = c.met_after-met.ensures.lots; pc = c.met_after-met.ensures.pc; rebates = c.met_after-met.ensures.rebates } in
    let carried = carried-more c.args.side t c.in-Some.order c.taken-lots.result _ _ _ c.orders.met.sums c.met_after-met.result.sums c.orders.invariant.carried first adds in
    let counted = counted-more c.args.side t c.in-Some.order c.taken-lots.result c.orders.events
    (meet c.args.side (taking c.args.taker) (demand c.args.want) orders) _ _ c.orders.invariant.counted first in
    let behind : orders_from c.after-next.result orders ≡ on.others = ap (λ o. orders_from o orders) c.after-next.ensures ∙ on.follows in
    let rest = ap (λ (d : Demand). meet c.args.side t d on.others) (sym c.met_after-met.ensures.want)
    ∙ ap (λ os. meet c.args.side t (demand c.met_after-met.result.want) os) (sym behind) in
    record {
      carried = carried-same _ _ _ c.met_after-met.result.sums rest carried;
      counted = omega (arith, counted, ap (λ (m : Meeting). length m.events) rest, c.events_of-events.ensures.value);
      reached = subst (λ o. IsReached o orders) (sym c.after-next.ensures) on.reached;
    }
