use Rattle.std.proofs.Common.{◌≡◌, ◌∙◌, ◌*◌, ap, arith}
use Rattle.dex_types.specs.Meeting.{Meeting, meet}
use Rattle.dex_types.specs.Take.{take_fee}
use Rattle.dex_fills.specs.Taker.{demand, taking}
use Rattle.dex_take.specs.TakeTerms.{bare_take, meeting_with}
use Rattle.dex_take.proofs.TakeAmounts.{fits-take, lock-fits, quote-fits}
use Rattle.dex_take.proofs.outlook.outlook.Goals as goal

pub foresee-prospect-requires-clause-fits : goal.foresee-prospect-requires-clause-fits
foresee-prospect-requires-clause-fits g c =
    let t = bare_take c.args.taker in
    let side = c.args.taker.id_side in
    rw (c.take_terms-terms.ensures.keeps, c.want_of-want.ensures, c.take_terms-terms.ensures.sizes)
    (fits-take side c.args.sizes t (g.B.SideRead.orders c.args.opposing.now) (omega arith) (lock-fits side c.args.sizes t c.requires.base (omega arith)) c.requires.locks)

pub returns-clause-fits : goal.returns-clause-fits
returns-clause-fits g c =
    let t = bare_take c.args.taker in
    let side = c.args.taker.id_side in
    fits-take side c.args.sizes t (g.B.SideRead.orders c.args.opposing.now) (omega arith) (lock-fits side c.args.sizes t c.requires.base (omega arith)) c.requires.locks

pub plan_of-requires-clause-base : goal.plan_of-requires-clause-base
plan_of-requires-clause-base g c =
    let t = bare_take c.args.taker in
    let side = c.args.taker.id_side in
    let orders = g.B.SideRead.orders c.args.opposing.now in
    let fits = fits-take side c.args.sizes t orders (omega arith) (lock-fits side c.args.sizes t c.requires.base (omega arith)) c.requires.locks in
    let same : meet side (taking c.take_terms-terms.result) (demand c.want_of-want.result) orders ≡ meeting_with c.args.sizes c.args.taker orders = cc in
    let lots : c.foresee-prospect.result.met.sums.lots * c.args.sizes.coin ≡ (meeting_with c.args.sizes c.args.taker orders).lots * c.args.sizes.coin =
    ap (λ k. k * c.args.sizes.coin) (c.foresee-prospect.ensures.met.lots ∙ ap (λ (m : Meeting). m.lots) same) in
    omega (arith, lots, fits.base)

pub plan_of-requires-clause-quote : goal.plan_of-requires-clause-quote
plan_of-requires-clause-quote g c bid =
    let t = bare_take c.args.taker in
    let side = c.args.taker.id_side in
    let orders = g.B.SideRead.orders c.args.opposing.now in
    let same : meet side (taking c.take_terms-terms.result) (demand c.want_of-want.result) orders ≡ meeting_with c.args.sizes c.args.taker orders = cc in
    let pc : c.foresee-prospect.result.met.sums.pc ≡ (meeting_with c.args.sizes c.args.taker orders).pc = c.foresee-prospect.ensures.met.pc ∙ ap (λ (m : Meeting). m.pc) same in
    let fee : c.taker_fee-fee.result ≡ take_fee t (meeting_with c.args.sizes c.args.taker orders) = cc in
    omega (arith, pc, fee, quote-fits side c.args.sizes t orders (lock-fits side c.args.sizes t c.requires.base (omega arith)) bid)
