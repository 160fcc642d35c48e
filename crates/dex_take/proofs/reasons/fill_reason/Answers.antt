use Rattle.std.proofs.Common.{◌∙◌, ◌≡◌, ◌∷◌, [], refl}
use Rattle.dex_types.specs.Reasons.{below_minimum, no_room, short_of, too_full}
use Rattle.dex_types.specs.Why.{payer}
use Rattle.dex_reasons.proofs.FirstReasons.{joined, joined-first}
use Rattle.dex_take.specs.Exchanging.{moves}
use Rattle.dex_take.specs.Taking.{too_little_by, transfers_by}
use Rattle.dex_take.proofs.TakeReasons.{too_full-paid}
use Rattle.dex_take.proofs.reasons.fill_reason.Goals as goal

pub returns : goal.returns
returns c =
    let seen = c.args.seen.now in
    let plan = c.args.outlook.now.plan in
    let side = c.args.side in
    let t = transfers_by side plan in
    let moved = moves c.exchange_of-moved.result in
    let coin : c.too_full.result ≡ too_full seen t seen.coin = c.too_full.ensures ∙ too_full-paid side plan seen moved seen.coin c.exchange_of-moved.ensures refl in
    let pc : c.too_full-2.result ≡ too_full seen t seen.pc = c.too_full-2.ensures ∙ too_full-paid side plan seen moved seen.pc c.exchange_of-moved.ensures refl in
    let first = below_minimum (too_little_by side plan c.args.least.lots c.args.least.pc) in
    let later = no_room c.args.outlook.now.events c.args.room ∷ short_of plan.deposit (payer side seen) ∷ too_full seen t seen.coin ∷ too_full seen t seen.pc ∷ [] in
    let made : c.or-4.result ≡ joined first later = cc in
    made ∙ joined-first first later
