use Rattle.std.proofs.Common.{◌∙◌, refl, sym, ap, subst, arith}
use Rattle.std.specs.List.{All}
use Rattle.dex_types.specs.Meeting.{Meeting}
use Rattle.dex_types.specs.NewOrder.{terms_of}
use Rattle.dex_types.specs.Side.{opposite}
use Rattle.dex_match.specs.OrderTerms.{meeting_with, order_of}
use Rattle.dex_eager_market.specs.Foreseen.{CanFill, IsForeseen}
use Rattle.dex_eager_market.specs.Trading.{quote_too_large}
use Rattle.dex_eager_market.proofs.Trades.{goes-on, lock-small, modest-order, order-stops, order-too-large, quote-small, same-foreseen, same-met}
use Rattle.dex_eager_market.proofs.trading.foresee_order.Goals as goal
use Rattle.dex_eager_market.proofs.trading.foresee_order.Goals.{After-foresee-foreseen}

pub returns-then-base_too_large : goal.returns-then-base_too_large
returns-then-base_too_large c =
    order-too-large c.args.taker.id_side c.args.sizes c.args.taker.lots c.args.next (meeting_with c.args.sizes c.args.taker c.args.opposing.now.orders.items)
    (sym c.base_too_large.ensures ∙ c.if-base_too_large.true)

pub foresee-foreseen-requires : goal.foresee-foreseen-requires
foresee-foreseen-requires c = record {
  modest = rw c.terms_of-terms.ensures.sizes rw c.want_of.ensures
      (modest-order c.args.taker.id_side c.args.sizes (order_of c.args.taker) (omega arith) (omega arith) (sym c.base_too_large.ensures ∙ c.if-base_too_large.false));
  orders = rw c.terms_of-terms.ensures.sizes (subst (All (CanFill (opposite c.args.taker.id_side) c.args.sizes)) (sym c.deref.ensures.value) c.requires.can_fill);
}

-- what was foreseen is what the order meets
reached : (c : After-foresee-foreseen)
    → IsForeseen c.args.taker.id_side c.args.sizes c.args.taker.price c.args.opposing.now.orders.items (meeting_with c.args.sizes c.args.taker c.args.opposing.now.orders.items)
    c.foresee-foreseen.result
reached c =
    same-foreseen c.terms_of-terms.ensures.sizes c.terms_of-terms.ensures.limit c.deref.ensures.value
    (same-met c.args.taker.id_side c.terms_of-terms.ensures.keeps c.want_of.ensures c.deref.ensures.value) c.foresee-foreseen.ensures.foreseen

pub returns-then-stops : goal.returns-then-stops
returns-then-stops c =
    let foreseen = c.foresee-foreseen.result in
    let here = reached (goal.at.returns-then-stops c).After-foresee-foreseen in
    order-stops c.args.taker.id_side c.args.sizes c.args.taker.lots c.args.next foreseen.sums.pc foreseen.aborts
    (meeting_with c.args.sizes c.args.taker c.args.opposing.now.orders.items) (sym c.base_too_large.ensures ∙ c.if-base_too_large.false) here.pc here.aborts
    ∙ sym c.stops.ensures ∙ c.if-stops.true

pub returns : goal.returns
returns c =
    let side = c.args.taker.id_side in
    let n = order_of c.args.taker in
    let met : Meeting = meeting_with c.args.sizes c.args.taker c.args.opposing.now.orders.items in
    let foreseen = c.foresee-foreseen.result in
    let here = reached (goal.at.returns c).After-foresee-foreseen in
    let small = sym c.base_too_large.ensures ∙ c.if-base_too_large.false in
    let free = sym c.stops.ensures ∙ c.if-stops.false in
    let on = goes-on side foreseen.sums.pc c.args.next foreseen.aborts (omega arith) free in
    let quote = ap (quote_too_large side) (sym here.pc) ∙ on.1 in (
      order-stops side c.args.sizes c.args.taker.lots c.args.next foreseen.sums.pc foreseen.aborts met small here.pc here.aborts ∙ free,
      on.0,
      record {
        reached = here;
        modest = modest-order side c.args.sizes n (omega arith) (omega arith) small;
        lock = lock-small side c.args.sizes n (omega arith) small;
        base = c.foresee-foreseen.ensures.base;
        pc = omega (arith, here.pc, quote-small side c.args.sizes n (terms_of c.args.sizes n) c.args.opposing.now.orders.items refl (omega arith) quote);
      },
    )
