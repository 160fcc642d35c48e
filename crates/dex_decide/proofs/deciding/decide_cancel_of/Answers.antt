use Rattle.std.proofs.Common.{ℕ, Option, length, sym, ap, ◌∙◌}
use Rattle.dex_types.specs.declared.refusals.Refusal.{Refusal}
use Rattle.dex_types.specs.declared.terms.Side.TheVariants.{Bid, Ask}
use Rattle.dex_types.specs.Cancel.{cancelled}
use Rattle.dex_types.specs.Reasons.{answered}
use Rattle.dex_types.specs.Why.{why_cancelled}
use Rattle.dex_cancel.specs.Cancelling.{decided, named_by}
use Rattle.dex_slab.specs.Slab.{resting}
use Rattle.dex_plan.specs.declared.plan.Plan.TheVariants as plans
use Rattle.dex_accounts.specs.Decoded.{market_in}
use Rattle.dex_decide.proofs.PartLaws.{cancel-given, cancel-told}
use Rattle.dex_decide.proofs.Planning.{err-planned, ok-planned}
use Rattle.dex_decide.proofs.deciding.decide_cancel_of.Goals as goal

pub decide_cancel_by_slots-requires-clause-market : goal.decide_cancel_by_slots-requires-clause-market
decide_cancel_by_slots-requires-clause-market g c =
    cancel-given (g.M.ReadMarket.held c.args.accounts.now) c.requires.sound c.args.acting.address c.args.acting.bytes.now c.bids.result.now c.asks.result.now
    c.requires.acting c.bids.ensures c.asks.ensures

pub returns-in-Ok : goal.returns-in-Ok
returns-in-Ok g c =
    let by = named_by c.args.what in
    let owner = c.args.acting.address in
    let bids = resting Bid c.bids.result.now in
    let asks = resting Ask c.asks.result.now in
    let count : ℕ = length (cancelled by owner bids asks) in
    ok-planned (λ (n : ℕ). plans.Cancel c.args.what) (why_cancelled by owner (market_in (g.M.ReadMarket.held c.args.accounts.now))) count _
    (sym c.in-Ok.is ∙ c.decide_cancel_by_slots.ensures
    ∙ ap (λ (room : ℕ). decided by owner bids asks room) c.room_in.ensures
    ∙ ap (λ (r : Option Refusal). answered r count)
    (cancel-told (g.M.ReadMarket.held c.args.accounts.now) c.requires.sound by owner c.bids.result.now c.asks.result.now c.events.result.now
    c.bids.ensures c.asks.ensures c.events.ensures))

pub returns-in-Err : goal.returns-in-Err
returns-in-Err g c =
    let by = named_by c.args.what in
    let owner = c.args.acting.address in
    let bids = resting Bid c.bids.result.now in
    let asks = resting Ask c.asks.result.now in
    let count : ℕ = length (cancelled by owner bids asks) in
    err-planned (why_cancelled by owner (market_in (g.M.ReadMarket.held c.args.accounts.now))) count (plans.Cancel c.args.what) c.in-Err.why
    (sym c.in-Err.is ∙ c.decide_cancel_by_slots.ensures
    ∙ ap (λ (room : ℕ). decided by owner bids asks room) c.room_in.ensures
    ∙ ap (λ (r : Option Refusal). answered r count)
    (cancel-told (g.M.ReadMarket.held c.args.accounts.now) c.requires.sound by owner c.bids.result.now c.asks.result.now c.events.result.now
    c.bids.ensures c.asks.ensures c.events.ensures))
