use Rattle.std.proofs.Common.{◌≡◌, sym, ap, ◌∙◌, subst}
use Rattle.dex_types.specs.declared.rows.Seen.{Seen}
use Rattle.dex_types.specs.declared.terms.Side.{Side}
use Rattle.dex_types.specs.Side.{opposite}
use Rattle.dex_take.specs.TakeGiven.{IsOfSound, TakeGiven, read_of, shown_in}
use Rattle.dex_take.specs.TakeTerms.{take_of}
use Rattle.dex_take.specs.Taking.{take_outcome}
use Rattle.dex_slab.specs.declared.slab_ref.SlabRef.{SlabRef}
use Rattle.dex_slab.specs.Slab.{resting}
use Rattle.dex_plan.specs.Given.{bytes_on, take_given_on}
use Rattle.dex_decide.proofs.OrderLaws.{side-lent}
use Rattle.dex_decide.proofs.PartLaws.{sums-told}
use Rattle.dex_decide.proofs.TakeLaws.{take-lent, take-sound}
use Rattle.dex_decide.proofs.taking.decide_take_with.Goals as goal
use Rattle.dex_decide.proofs.taking.decide_take_with.Goals.{After-gathered-input}
use Rattle.dex_decide.proofs.taking.decide_take_with.Given.{Over}

pub decide_take_with_pending-requires-clause-holds : goal.decide_take_with_pending-requires-clause-holds
decide_take_with_pending-requires-clause-holds g c =
    side-lent (g.M.ReadMarket.held c.args.accounts.now) c.requires.sound (opposite c.args.taker.id_side) c.gathered-input.result.opposite.now c.side_of-opposite.result
    c.gathered-input.ensures.opposite
    (c.side_of-opposite.ensures.bytes ∙ ap (λ (s : Side). bytes_on s (g.M.ReadMarket.held c.args.accounts.now)) c.opposite.ensures)

-- what is lent is what a take of the side is given by the accounts
lent-is : (g : Over) (c : After-gathered-input g)
    → shown_in (λ (s : SlabRef). resting s.side s.bytes.now) c.gathered-input.result ≡ take_given_on c.args.taker.id_side (g.M.ReadMarket.held c.args.accounts.now)
lent-is g c =
    let input = c.gathered-input.result in
    let lent = c.gathered-input.ensures in
    take-lent (g.M.ReadMarket.held c.args.accounts.now) c.requires.sound c.args.taker.id_side input.market.bytes.now input.ring.bytes.now input.opposite.now
    c.side_of-opposite.result (lent.market ∙ c.market.ensures) (lent.ring ∙ c.events.ensures) lent.opposite
    (c.side_of-opposite.ensures.bytes ∙ ap (λ (s : Side). bytes_on s (g.M.ReadMarket.held c.args.accounts.now)) c.opposite.ensures)
    (c.side_of-opposite.ensures.side ∙ c.opposite.ensures)

pub decide_take_with_pending-requires-clause-parts : goal.decide_take_with_pending-requires-clause-parts
decide_take_with_pending-requires-clause-parts g c =
    subst (λ (g : TakeGiven). IsOfSound c.args.taker.id_side g)
    (sym (lent-is g (goal.at.decide_take_with_pending-requires-clause-parts g c).After-gathered-input))
    (take-sound (g.M.ReadMarket.held c.args.accounts.now) c.requires.sound c.args.taker.id_side)

pub decide_take_with_pending-requires-clause-pending : goal.decide_take_with_pending-requires-clause-pending
decide_take_with_pending-requires-clause-pending g c =
    sums-told (g.M.ReadMarket.held c.args.accounts.now) c.requires.sound c.args.pending.now c.gathered-input.result.ring.bytes.now c.requires.pending
    (c.gathered-input.ensures.ring ∙ c.events.ensures)

pub returns : goal.returns
returns g c =
    let side = c.args.taker.id_side in
    let t = take_of c.args.taker c.args.least.lots c.args.least.pc in
    c.decide_take_with_pending.ensures
    ∙ ap (λ (g : TakeGiven). take_outcome side t (read_of g) c.gathered-input.result.seen.now) (lent-is g (goal.at.returns g c).After-gathered-input)
    ∙ ap (λ (s : Seen). take_outcome side t (read_of (take_given_on side (g.M.ReadMarket.held c.args.accounts.now))) s) c.gathered-input.ensures.seen
