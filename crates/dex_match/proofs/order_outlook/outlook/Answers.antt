use Rattle.std.proofs.Common.{◌∙◌, ap, arith}
use Rattle.dex_laws.proofs.SpendLaws.{spent-le}
use Rattle.dex_types.specs.Meeting.{Demand, TakerTerms, meet}
use Rattle.dex_types.specs.NewOrder.{terms_of}
use Rattle.dex_match.specs.OrderTerms.{order_of}
use Rattle.dex_fills.specs.Taker.{taking, demand}
use Rattle.dex_match.proofs.FittingLaws.{fits-sums, order-paid}
use Rattle.dex_match.proofs.order_outlook.outlook.Goals as goal

pub foresee-prospect-requires-clause-fits : goal.foresee-prospect-requires-clause-fits
foresee-prospect-requires-clause-fits g c =
    rw (c.terms_of-terms.ensures.keeps, c.want_of-want.ensures, c.terms_of-terms.ensures.sizes)
    (fits-sums c.args.taker.id_side c.args.sizes (order_of c.args.taker) (g.B.SideRead.orders c.args.opposing.now) (omega arith)
    (omega (arith, c.requires.lock, c.ranges.lock.fits)) c.requires.locks)

pub spent_of-spent-requires-clause-bid : goal.spent_of-spent-requires-clause-bid
spent_of-spent-requires-clause-bid g c =
    let side = c.args.taker.id_side in
    let n = order_of c.args.taker in
    let orders = g.B.SideRead.orders c.args.opposing.now in
    let same = ap (λ (t : TakerTerms). meet side t (demand c.want_of-want.result) orders) c.terms_of-terms.ensures.keeps
    ∙ ap (λ (d : Demand). meet side (terms_of c.args.sizes n) d orders) c.want_of-want.ensures in
    let paid = order-paid side c.args.sizes n orders (meet side (taking c.terms_of-terms.result) (demand c.want_of-want.result) orders) c.foresee-prospect.result.met.sums.pc c.foresee-prospect.result.met.sums.lots
    c.taker_fee-fee.result c.args.lock same c.foresee-prospect.ensures.met.pc c.foresee-prospect.ensures.met.lots c.taker_fee-fee.ensures.value c.requires.lock (omega (arith, c.ranges.lock.fits)) in
    paid.bid

pub spent_of-spent-requires-clause-ask : goal.spent_of-spent-requires-clause-ask
spent_of-spent-requires-clause-ask g c =
    let side = c.args.taker.id_side in
    let n = order_of c.args.taker in
    let orders = g.B.SideRead.orders c.args.opposing.now in
    let same = ap (λ (t : TakerTerms). meet side t (demand c.want_of-want.result) orders) c.terms_of-terms.ensures.keeps
    ∙ ap (λ (d : Demand). meet side (terms_of c.args.sizes n) d orders) c.want_of-want.ensures in
    let paid = order-paid side c.args.sizes n orders (meet side (taking c.terms_of-terms.result) (demand c.want_of-want.result) orders) c.foresee-prospect.result.met.sums.pc c.foresee-prospect.result.met.sums.lots
    c.taker_fee-fee.result c.args.lock same c.foresee-prospect.ensures.met.pc c.foresee-prospect.ensures.met.lots c.taker_fee-fee.ensures.value c.requires.lock (omega (arith, c.ranges.lock.fits)) in
    paid.ask

pub overflow_sub-lock : goal.overflow_sub-lock
overflow_sub-lock g c =
    let side = c.args.taker.id_side in
    let n = order_of c.args.taker in
    let orders = g.B.SideRead.orders c.args.opposing.now in
    let same = ap (λ (t : TakerTerms). meet side t (demand c.want_of-want.result) orders) c.terms_of-terms.ensures.keeps
    ∙ ap (λ (d : Demand). meet side (terms_of c.args.sizes n) d orders) c.want_of-want.ensures in
    let paid = order-paid side c.args.sizes n orders (meet side (taking c.terms_of-terms.result) (demand c.want_of-want.result) orders) c.foresee-prospect.result.met.sums.pc c.foresee-prospect.result.met.sums.lots
    c.taker_fee-fee.result c.args.lock same c.foresee-prospect.ensures.met.pc c.foresee-prospect.ensures.met.lots c.taker_fee-fee.ensures.value c.requires.lock (omega (arith, c.ranges.lock.fits)) in
    omega (arith, c.requires.lock, spent-le side c.args.sizes n orders, paid.is c.spent_of-spent.result c.spent_of-spent.ensures.bid c.spent_of-spent.ensures.ask)
