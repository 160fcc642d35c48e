use Rattle.std.proofs.Common.{◌≡◌, None, Option, sym, ap, ◌∙◌, ◌∷◌, []}
use Rattle.dex_types.specs.declared.refusals.Refusal.{Refusal}
use Rattle.dex_types.specs.Market.{orders}
use Rattle.dex_types.specs.Reasons.{answered, first_of}
use Rattle.dex_types.specs.Side.{opposite}
use Rattle.dex_types.specs.Take.{take_meeting}
use Rattle.dex_types.specs.Why.{take_reading, why_take, why_take_early, why_taking}
use Rattle.dex_take.specs.declared.plan.DecidedTake.{DecidedTake}
use Rattle.dex_take.specs.TakeGiven.{read_of}
use Rattle.dex_take.specs.TakeTerms.{take_of}
use Rattle.dex_take.specs.Taking.{left_in, plan_by, plan_in}
use Rattle.dex_plan.specs.declared.plan.Plan.TheVariants as plans
use Rattle.dex_plan.specs.Given.{asked_by, take_given_on}
use Rattle.dex_plan.specs.Plans.{sums_with, take_planned}
use Rattle.dex_accounts.specs.Decoded.{market_in}
use Rattle.dex_decide.proofs.Planning.{err-planned, given-planned, ok-planned}
use Rattle.dex_decide.proofs.TakeLaws.{take-decided, take-late}
use Rattle.dex_decide.proofs.taking.decide_take_row.Goals as goal

pub returns-in-Some : goal.returns-in-Some
returns-in-Some g c =
    let side = c.args.taker.id_side in
    let t = take_of c.args.taker c.args.least.lots c.args.least.pc in
    let request = asked_by c.args.ask.now in
    let m = market_in (g.M.ReadMarket.held c.args.accounts.now) in
    let late = why_taking side t c.args.seen.now (take_reading side t c.args.seen.now m) in
    given-planned (why_take side t request c.args.seen.now m) (take_planned side c.args.taker t m) c.in-Some.why
    (ap (λ (r : Option Refusal). first_of (r ∷ late ∷ [])) (sym c.in-Some.is ∙ c.wallet_reason.ensures))

pub returns-in-Ok : goal.returns-in-Ok
returns-in-Ok g c =
    let accounts = g.M.ReadMarket.held c.args.accounts.now in
    let side = c.args.taker.id_side in
    let t = take_of c.args.taker c.args.least.lots c.args.least.pc in
    let request = asked_by c.args.ask.now in
    let m = market_in (g.M.ReadMarket.held c.args.accounts.now) in
    let read = read_of (take_given_on side (g.M.ReadMarket.held c.args.accounts.now)) in
    let decided : DecidedTake = record { plan = plan_in side t read; pending = left_in side t read } in
    let met = take_meeting side m.listing.sizes t (orders (opposite side) m) in
    let told : DecidedTake = record { plan = plan_by side m.listing.sizes t met; pending = sums_with met.events m } in
    let why = why_take side t request c.args.seen.now m in
    let none : why_take_early side request c.args.seen.now m ≡ None = sym c.wallet_reason.ensures ∙ c.in_default.is in
    ok-planned (λ (d : DecidedTake). plans.Take c.args.taker d.plan d.pending) why told c.in-Ok.decided
    (sym c.in-Ok.is ∙ c.decide_take_with.ensures
    ∙ ap (λ (r : Option Refusal). answered r decided) (take-late accounts c.requires.sound side t request c.args.seen.now none)
    ∙ ap (λ (d : DecidedTake). answered why d) (take-decided accounts c.requires.sound side t))

pub returns-in-Err : goal.returns-in-Err
returns-in-Err g c =
    let accounts = g.M.ReadMarket.held c.args.accounts.now in
    let side = c.args.taker.id_side in
    let t = take_of c.args.taker c.args.least.lots c.args.least.pc in
    let request = asked_by c.args.ask.now in
    let m = market_in (g.M.ReadMarket.held c.args.accounts.now) in
    let read = read_of (take_given_on side (g.M.ReadMarket.held c.args.accounts.now)) in
    let decided : DecidedTake = record { plan = plan_in side t read; pending = left_in side t read } in
    let why = why_take side t request c.args.seen.now m in
    let none : why_take_early side request c.args.seen.now m ≡ None = sym c.wallet_reason.ensures ∙ c.in_default.is in
    err-planned why decided (take_planned side c.args.taker t m) c.in-Err.why
    (sym c.in-Err.is ∙ c.decide_take_with.ensures
    ∙ ap (λ (r : Option Refusal). answered r decided) (take-late accounts c.requires.sound side t request c.args.seen.now none))
