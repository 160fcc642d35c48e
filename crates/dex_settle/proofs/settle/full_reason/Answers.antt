use Rattle.std.proofs.Common.{rules, ◌∙◌, ◌≡◌, ◌∷◌, []}
use Rattle.dex_types.specs.Reasons.{too_full}
use Rattle.dex_settle.specs.PayingOut.{transfers_by}
use Rattle.dex_reasons.proofs.FirstReasons.{joined, joined-first}
use Rattle.dex_settle.proofs.settle.full_reason.Goals as goal

pub returns : goal.returns
returns c =
    let seen = c.args.seen.now in
    let t = transfers_by c.args.plan.now in
    let later = too_full seen t seen.pc ∷ too_full seen t seen.referrer ∷ [] in
    let made : c.or-2.result ≡ joined (too_full seen t seen.coin) later = search rules in
    made ∙ joined-first (too_full seen t seen.coin) later
