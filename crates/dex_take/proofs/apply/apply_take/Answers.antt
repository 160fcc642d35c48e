use Rattle.std.proofs.Common.{◌≡◌, ◌∙◌, ◌-◌, ◌<◌, ◌^◌, ℕ, refl, sym, ap, subst, arith}
use Rattle.dex_market.specs.MarketAccount.{market_words, sizes_of}
use Rattle.dex_fills.specs.Taker.{demand, taking}
use Rattle.dex_ring.specs.Appended.{appended, pushed_all}
use Rattle.dex_ring.specs.Ring.{ring_of}
use Rattle.dex_types.specs.declared.replies.Reply.TheVariants.{Took}
use Rattle.dex_types.specs.declared.terms.Lots.{Lots}
use Rattle.dex_types.specs.Meeting.{Meeting, meet}
use Rattle.dex_types.specs.Transfers.{Transfers}
use Rattle.dex_take.specs.declared.plan.TakePlan.{TakePlan}
use Rattle.dex_take.specs.Exchanging.{CanExchange, bytes_after, kept_of, moves}
use Rattle.dex_take.specs.Taking.{CanBeDone, IsBacked, transfers_by}
use Rattle.dex_take.specs.TakeTerms.{bare_take, meeting_with}
use Rattle.dex_take.specs.TakeGiven.{given as given_by, read_of}
use Rattle.dex_take.proofs.TakeAmounts.{backed-sound, fits-take, given-of_sound, lock-fits, take-covers}
use Rattle.dex_take.proofs.TakeLeaves.{can-be-done}
use Rattle.dex_take.proofs.apply.apply_take.Given as given
use Rattle.dex_take.proofs.apply.apply_take.Goals as goal
use Rattle.dex_take.proofs.apply.apply_take.Goals.{Start}

-- what is handed is backed, and the take can be done on it
backed : (g : given.Over) (c : Start g)
    → IsBacked c.args.taker.now.id_side (read_of (given_by c.args.market.now.bytes.now c.args.ring.now.bytes.now (g.B.SideRead.orders c.args.opposite.now)))
backed g c =
    backed-sound c.args.taker.now.id_side (given_by c.args.market.now.bytes.now c.args.ring.now.bytes.now (g.B.SideRead.orders c.args.opposite.now)) c.requires.parts

can : (g : given.Over) (c : Start g)
    → CanBeDone c.args.plan.now c.args.taker.now (read_of (given_by c.args.market.now.bytes.now c.args.ring.now.bytes.now (g.B.SideRead.orders c.args.opposite.now)))
can g c =
    let old = given_by c.args.market.now.bytes.now c.args.ring.now.bytes.now (g.B.SideRead.orders c.args.opposite.now) in
    let found = given-of_sound c.args.taker.now.id_side old c.requires.parts in
    can-be-done c.args.taker.now c.args.plan.now old found.market found.sound found.of c.requires.decided

pub meet_side-met-requires-clause-locks : goal.meet_side-met-requires-clause-locks
meet_side-met-requires-clause-locks g c = rw (c.take_terms-terms.ensures.sizes, c.sizes-sizes.ensures) (backed g (goal.at.meet_side-met-requires-clause-locks g c).Start).fits

pub meet_side-met-requires-clause-fits : goal.meet_side-met-requires-clause-fits
meet_side-met-requires-clause-fits g c =
    let taker = c.args.taker.now in
    let sizes : Lots = sizes_of (market_words c.args.market.now.bytes.now) in
    let t = bare_take taker in
    let lots : t.lots < 2 ^ 64 = c.amounts_fit.ensures.lots in
    let lock : t.max_pc < 2 ^ 64 = c.amounts_fit.ensures.lock in
    rw (c.take_terms-terms.ensures.keeps, c.want_of-want.ensures, c.take_terms-terms.ensures.sizes, c.sizes-sizes.ensures)
    (fits-take taker.id_side sizes t (g.B.SideRead.orders c.args.opposite.now) lots (lock-fits taker.id_side sizes t (can g (goal.at.meet_side-met-requires-clause-fits g c).Start).size lock) (backed g (goal.at.meet_side-met-requires-clause-fits g c).Start).fits)

pub meet_side-met-requires-clause-room : goal.meet_side-met-requires-clause-room
meet_side-met-requires-clause-room g c = rw (c.take_terms-terms.ensures.keeps, c.want_of-want.ensures, c.sizes-sizes.ensures) (can g (goal.at.meet_side-met-requires-clause-room g c).Start).room

pub overflow_sub-plan : goal.overflow_sub-plan
overflow_sub-plan g c =
    let taker = c.args.taker.now in
    let orders = g.B.SideRead.orders c.args.opposite.now in
    let words = market_words c.args.market.now.bytes.now in
    let same : meet taker.id_side (taking c.take_terms-terms.result) (demand c.want_of-want.result) orders ≡ meeting_with (sizes_of words) taker orders = cc in
    omega (
      arith,
      c.meet_side-met.ensures.met.rebates,
      ap (λ (m : Meeting). m.rebates) same,
      ap (λ (p : TakePlan). p.fee) (can g (goal.at.overflow_sub-plan g c).Start).planned,
      take-covers taker.id_side (sizes_of words) (bare_take taker) orders,
    )

pub pay-requires-clause-can : goal.pay-requires-clause-can
pay-requires-clause-can g c =
    let taker = c.args.taker.now in
    let orders = g.B.SideRead.orders c.args.opposite.now in
    let words = market_words c.args.market.now.bytes.now in
    let same : meet taker.id_side (taking c.take_terms-terms.result) (demand c.want_of-want.result) orders ≡ meeting_with (sizes_of words) taker orders = cc in
    let kept : c.args.plan.now.fee - c.meet_side-met.result.sums.rebates ≡ kept_of (bare_take taker) (meeting_with (sizes_of words) taker orders) =
    omega (arith, c.meet_side-met.ensures.met.rebates, ap (λ (m : Meeting). m.rebates) same, ap (λ (p : TakePlan). p.fee) (can g (goal.at.pay-requires-clause-can g c).Start).planned) in
    rw (c.exchange_of.ensures, kept)
    (subst (λ (p : TakePlan). CanExchange (transfers_by taker.id_side p) (kept_of (bare_take taker) (meeting_with (sizes_of words) taker orders)) words) (sym (can g (goal.at.pay-requires-clause-can g c).Start).planned) (can g (goal.at.pay-requires-clause-can g c).Start).can)

pub returns-clause-reply : goal.returns-clause-reply
returns-clause-reply g c = ap (λ (p : TakePlan). Took p.lots p.pc p.fee) (can g (goal.at.returns-clause-reply g c).Start).planned

pub returns-clause-does : goal.returns-clause-does
returns-clause-does g c =
    let taker = c.args.taker.now in
    let orders = g.B.SideRead.orders c.args.opposite.now in
    let bytes = c.args.market.now.bytes.now in
    let words = market_words bytes in
    let met : Meeting = meeting_with (sizes_of words) taker orders in
    let same : meet taker.id_side (taking c.take_terms-terms.result) (demand c.want_of-want.result) orders ≡ met = cc in
    let kept : c.args.plan.now.fee - c.meet_side-met.result.sums.rebates ≡ kept_of (bare_take taker) met =
    omega (arith, c.meet_side-met.ensures.met.rebates, ap (λ (m : Meeting). m.rebates) same, ap (λ (p : TakePlan). p.fee) (can g (goal.at.returns-clause-does g c).Start).planned) in
    let market = c.pay.ensures.bytes ∙ ap (λ (k : ℕ). bytes_after (moves c.exchange_of.result) k bytes) kept
    ∙ ap (λ (moved : Transfers). bytes_after moved (kept_of (bare_take taker) met) bytes) c.exchange_of.ensures
    ∙ ap (λ (p : TakePlan). bytes_after (transfers_by taker.id_side p) (kept_of (bare_take taker) met) bytes) (can g (goal.at.returns-clause-does g c).Start).planned in
    let events = c.meet_side-met.ensures.bytes ∙ ap (λ (m : Meeting). pushed_all m.events c.args.ring.now.bytes.now) same in
    let left = c.meet_side-met.ensures.left ∙ ap (λ (m : Meeting). m.left) same in
    rw (market, events, left) refl

pub returns-clause-list : goal.returns-clause-list
returns-clause-list g c =
    let taker = c.args.taker.now in
    let orders = g.B.SideRead.orders c.args.opposite.now in
    let words = market_words c.args.market.now.bytes.now in
    let same : meet taker.id_side (taking c.take_terms-terms.result) (demand c.want_of-want.result) orders ≡ meeting_with (sizes_of words) taker orders = cc in
    c.meet_side-met.ensures.list ∙ ap (λ (m : Meeting). appended m.events (ring_of c.args.ring.now.bytes.now)) same
