use Rattle.std.proofs.Common.{◌≡◌, ◌∙◌, length, sym, ap, arith, rules}
use Rattle.dex_types.specs.Reasons.{ask_too_large, first_of}
use Rattle.dex_types.specs.declared.terms.Lots.{Lots}
use Rattle.dex_ring.specs.Ring.{room_of}
use Rattle.dex_take.specs.declared.plan.TakePlan.{TakePlan}
use Rattle.dex_take.specs.TakeGiven.{given, read_of}
use Rattle.dex_take.specs.TakeTerms.{take_of}
use Rattle.dex_take.specs.Taking.{IsForeseen, before_bound, meeting_in}
use Rattle.dex_take.proofs.TakeReasons.{answer-early}
use Rattle.dex_take.proofs.decide.foreseen.Goals as goal

pub returns-in-Some-fill_reason-clause-refused : goal.returns-in-Some-fill_reason-clause-refused
returns-in-Some-fill_reason-clause-refused g c =
    let taker = c.args.taker in
    let t = take_of taker c.args.least.lots c.args.least.pc in
    let read = read_of (given c.args.input.now.market.bytes.now c.args.input.now.ring.bytes.now (g.B.SideRead.orders c.args.input.now.opposite.now)) in
    let o = c.outlook-outlook.result in
    let is : IsForeseen taker.id_side t read o = search rules in
    let room : c.room.result ≡ room_of read.ring = omega (arith, c.room.ensures) in
    answer-early taker.id_side t read c.args.input.now.seen.now c.in-Some-fill_reason.why
    (ap (λ (s : Lots). ask_too_large taker.id_side s taker.lots) (sym c.sizes-sizes.ensures) ∙ sym c.ask_too_large.ensures ∙ c.in_default.is)
    (ap (λ (p : TakePlan). first_of (before_bound taker.id_side p c.args.least.lots c.args.least.pc (length (meeting_in taker.id_side t read).events) (room_of read.ring) c.args.input.now.seen.now)) (sym is.plan)
    ∙ ap (λ k. first_of (before_bound taker.id_side o.plan c.args.least.lots c.args.least.pc k (room_of read.ring) c.args.input.now.seen.now)) (sym is.events)
    ∙ ap (λ k. first_of (before_bound taker.id_side o.plan c.args.least.lots c.args.least.pc o.events k c.args.input.now.seen.now)) (sym room)
    ∙ sym c.fill_reason.ensures ∙ c.in-Some-fill_reason.is)
