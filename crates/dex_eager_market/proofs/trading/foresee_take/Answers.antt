use Rattle.std.proofs.Common.{◌≡◌, ◌∙◌, refl, sym, ap, subst, arith}
use Rattle.std.specs.List.{All}
use Rattle.dex_types.specs.Meeting.{TakerTerms, Demand, Meeting, meet}
use Rattle.dex_types.specs.NewOrder.{demand_of}
use Rattle.dex_types.specs.Side.{opposite}
use Rattle.dex_types.specs.Take.{take_terms}
use Rattle.dex_match.specs.OrderTerms.{order_of}
use Rattle.dex_take.specs.TakeTerms.{meeting_with, take_of}
use Rattle.dex_eager_market.specs.Foreseen.{CanFill, IsForeseen}
use Rattle.dex_eager_market.specs.Trading.{quote_too_large}
use Rattle.dex_eager_market.proofs.Trades.{lock-small, modest-order, quote-small, same-foreseen, same-met, take-demand, take-stops, take-too-large}
use Rattle.dex_eager_market.proofs.trading.foresee_take.Goals as goal
use Rattle.dex_eager_market.proofs.trading.foresee_take.Goals.{After-foresee-foreseen}

pub returns-then-base_too_large : goal.returns-then-base_too_large
returns-then-base_too_large c =
    take-too-large c.args.taker.id_side c.args.sizes c.args.taker.lots (meeting_with c.args.sizes c.args.taker c.args.opposing.now.orders.items)
    (sym c.base_too_large.ensures ∙ c.if-base_too_large.true)

pub foresee-foreseen-requires : goal.foresee-foreseen-requires
foresee-foreseen-requires c = record {
  modest = rw c.take_terms-terms.ensures.sizes rw c.want_of.ensures
      (modest-order c.args.taker.id_side c.args.sizes (order_of c.args.taker) (omega arith) (omega arith) (sym c.base_too_large.ensures ∙ c.if-base_too_large.false));
  orders = rw c.take_terms-terms.ensures.sizes (subst (All (CanFill (opposite c.args.taker.id_side) c.args.sizes)) (sym c.deref.ensures.value) c.requires.can_fill);
}

-- what was foreseen is what the take meets
reached : (c : After-foresee-foreseen)
    → IsForeseen c.args.taker.id_side c.args.sizes c.args.taker.price c.args.opposing.now.orders.items (meeting_with c.args.sizes c.args.taker c.args.opposing.now.orders.items)
    c.foresee-foreseen.result
reached c =
    same-foreseen c.take_terms-terms.ensures.sizes c.take_terms-terms.ensures.limit c.deref.ensures.value
    (same-met c.args.taker.id_side c.take_terms-terms.ensures.keeps (c.want_of.ensures ∙ sym (take-demand c.args.taker.id_side c.args.sizes c.args.taker)) c.deref.ensures.value)
    c.foresee-foreseen.ensures.foreseen

pub returns-then-quote_too_large : goal.returns-then-quote_too_large
returns-then-quote_too_large c =
    take-stops c.args.taker.id_side c.args.sizes c.args.taker.lots c.foresee-foreseen.result.sums.pc (meeting_with c.args.sizes c.args.taker c.args.opposing.now.orders.items)
    (sym c.base_too_large.ensures ∙ c.if-base_too_large.false) (reached (goal.at.returns-then-quote_too_large c).After-foresee-foreseen).pc
    ∙ sym c.quote_too_large.ensures ∙ c.if-quote_too_large.true

pub returns : goal.returns
returns c =
    let side = c.args.taker.id_side in
    let n = order_of c.args.taker in
    let items = c.args.opposing.now.orders.items in
    let t : TakerTerms = take_terms c.args.sizes (take_of c.args.taker 0 0) in
    let met : Meeting = meeting_with c.args.sizes c.args.taker items in
    let same : met ≡ meet side t (demand_of side c.args.sizes n) items = ap (λ (w : Demand). meet side t w items) (take-demand side c.args.sizes c.args.taker) in
    let foreseen = c.foresee-foreseen.result in
    let here = reached (goal.at.returns c).After-foresee-foreseen in
    let small = sym c.base_too_large.ensures ∙ c.if-base_too_large.false in
    let free = sym c.quote_too_large.ensures ∙ c.if-quote_too_large.false in
    let pc_is : foreseen.sums.pc ≡ (meet side t (demand_of side c.args.sizes n) items).pc = here.pc ∙ ap (λ (m : Meeting). m.pc) same in (
      take-stops side c.args.sizes c.args.taker.lots foreseen.sums.pc met small here.pc ∙ free,
      record {
        reached = here;
        modest = modest-order side c.args.sizes n (omega arith) (omega arith) small;
        lock = lock-small side c.args.sizes n (omega arith) small;
        base = c.foresee-foreseen.ensures.base;
        pc = omega (arith, pc_is, quote-small side c.args.sizes n t items refl (omega arith) (ap (quote_too_large side) (sym pc_is) ∙ free));
      },
    )
