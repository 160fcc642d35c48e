use Rattle.std.proofs.Common.{◌≡◌, ◌∙◌, ◌*◌, ◌-◌, Option, sym, ap, arith}
use Rattle.dex_types.specs.declared.refusals.Refusal.{Refusal}
use Rattle.dex_types.specs.declared.terms.Lots.{Lots}
use Rattle.dex_types.specs.Reasons.{answered}
use Rattle.dex_take.specs.declared.plan.TakePlan.{TakePlan}
use Rattle.dex_take.specs.TakeGiven.{given, read_of}
use Rattle.dex_take.specs.TakeTerms.{take_of}
use Rattle.dex_take.specs.Taking.{meeting_in, sizes_in, transfers_by}
use Rattle.dex_take.proofs.TakeAmounts.{fits-take, lock-fits, paid-out, take-covers, take_fee-part}
use Rattle.dex_take.proofs.TakeReasons.{decided_as, left-is, outcome-late}
use Rattle.dex_take.proofs.decide.bounded.Goals as goal

pub with_fills-left-requires-clause-base : goal.with_fills-left-requires-clause-base
with_fills-left-requires-clause-base g c =
    let taker = c.args.taker in
    let t = take_of taker c.args.least.lots c.args.least.pc in
    let read = read_of (given c.args.input.now.market.bytes.now c.args.input.now.ring.bytes.now (g.B.SideRead.orders c.args.input.now.opposite.now)) in
    let fits = fits-take taker.id_side (sizes_in read) t read.opposing (omega arith) (lock-fits taker.id_side (sizes_in read) t c.requires.within.size (omega arith)) c.requires.backed.fits in
    let base : c.args.outlook.now.sums.lots * c.sizes.result.coin ≡ (meeting_in taker.id_side t read).lots * (sizes_in read).coin =
    ap (λ k. k * c.sizes.result.coin) c.requires.foreseen.lots ∙ ap (λ (s : Lots). (meeting_in taker.id_side t read).lots * s.coin) c.sizes.ensures in
    omega (arith, base, fits.base)

pub with_fills-left-requires-clause-rebates : goal.with_fills-left-requires-clause-rebates
with_fills-left-requires-clause-rebates g c =
    let taker = c.args.taker in
    let t = take_of taker c.args.least.lots c.args.least.pc in
    let read = read_of (given c.args.input.now.market.bytes.now c.args.input.now.ring.bytes.now (g.B.SideRead.orders c.args.input.now.opposite.now)) in
    omega (arith, c.requires.foreseen.pc, c.requires.foreseen.rebates, take-covers taker.id_side (sizes_in read) t read.opposing, take_fee-part t (meeting_in taker.id_side t read))

pub bound_reason-requires-clause-coin : goal.bound_reason-requires-clause-coin
bound_reason-requires-clause-coin g c =
    let taker = c.args.taker in
    let t = take_of taker c.args.least.lots c.args.least.pc in
    let read = read_of (given c.args.input.now.market.bytes.now c.args.input.now.ring.bytes.now (g.B.SideRead.orders c.args.input.now.opposite.now)) in
    omega (arith, ap (λ (p : TakePlan). (transfers_by taker.id_side p).coin_out) c.requires.foreseen.plan, (paid-out taker.id_side t read c.requires.backed).coin)

pub bound_reason-requires-clause-pc : goal.bound_reason-requires-clause-pc
bound_reason-requires-clause-pc g c =
    let taker = c.args.taker in
    let t = take_of taker c.args.least.lots c.args.least.pc in
    let read = read_of (given c.args.input.now.market.bytes.now c.args.input.now.ring.bytes.now (g.B.SideRead.orders c.args.input.now.opposite.now)) in
    omega (arith, ap (λ (p : TakePlan). (transfers_by taker.id_side p).pc_out) c.requires.foreseen.plan, (paid-out taker.id_side t read c.requires.backed).pc)

pub returns-in-Some : goal.returns-in-Some
returns-in-Some g c =
    let taker = c.args.taker in
    let t = take_of taker c.args.least.lots c.args.least.pc in
    let read = read_of (given c.args.input.now.market.bytes.now c.args.input.now.ring.bytes.now (g.B.SideRead.orders c.args.input.now.opposite.now)) in
    let o = c.args.outlook.now in
    let left = c.with_fills-left.result in
    let base : o.sums.lots * c.sizes.result.coin ≡ (meeting_in taker.id_side t read).lots * (sizes_in read).coin =
    ap (λ k. k * c.sizes.result.coin) c.requires.foreseen.lots ∙ ap (λ (s : Lots). (meeting_in taker.id_side t read).lots * s.coin) c.sizes.ensures in
    let quote : o.sums.pc - o.sums.rebates ≡ (meeting_in taker.id_side t read).pc - (meeting_in taker.id_side t read).rebates =
    ap (λ k. k - o.sums.rebates) c.requires.foreseen.pc ∙ ap (λ k. (meeting_in taker.id_side t read).pc - k) c.requires.foreseen.rebates in
    let is = left-is taker.id_side t read c.args.pending left (o.sums.lots * c.sizes.result.coin) (o.sums.pc - o.sums.rebates) c.requires.pending base quote
    c.with_fills-left.ensures.coin c.with_fills-left.ensures.pc in
    ap (λ (r : Option Refusal). answered r (decided_as o.plan left)) (sym c.in-Some.is ∙ c.bound_reason.ensures)
    ∙ outcome-late taker.id_side t read c.args.input.now.seen.now o left c.requires.within c.requires.foreseen is

pub returns-in-None : goal.returns-in-None
returns-in-None g c =
    let taker = c.args.taker in
    let t = take_of taker c.args.least.lots c.args.least.pc in
    let read = read_of (given c.args.input.now.market.bytes.now c.args.input.now.ring.bytes.now (g.B.SideRead.orders c.args.input.now.opposite.now)) in
    let o = c.args.outlook.now in
    let left = c.with_fills-left.result in
    let base : o.sums.lots * c.sizes.result.coin ≡ (meeting_in taker.id_side t read).lots * (sizes_in read).coin =
    ap (λ k. k * c.sizes.result.coin) c.requires.foreseen.lots ∙ ap (λ (s : Lots). (meeting_in taker.id_side t read).lots * s.coin) c.sizes.ensures in
    let quote : o.sums.pc - o.sums.rebates ≡ (meeting_in taker.id_side t read).pc - (meeting_in taker.id_side t read).rebates =
    ap (λ k. k - o.sums.rebates) c.requires.foreseen.pc ∙ ap (λ k. (meeting_in taker.id_side t read).pc - k) c.requires.foreseen.rebates in
    let is = left-is taker.id_side t read c.args.pending left (o.sums.lots * c.sizes.result.coin) (o.sums.pc - o.sums.rebates) c.requires.pending base quote
    c.with_fills-left.ensures.coin c.with_fills-left.ensures.pc in
    ap (λ (r : Option Refusal). answered r (decided_as o.plan left)) (sym c.in-None.is ∙ c.bound_reason.ensures)
    ∙ outcome-late taker.id_side t read c.args.input.now.seen.now o left c.requires.within c.requires.foreseen is
