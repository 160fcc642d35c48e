use Rattle.std.proofs.Common.{Some, rules, ◌∙◌, ◌≡◌, ◌∷◌, []}
use Rattle.dex_types.specs.Reasons.{no_room, short_by, would_self_trade}
use Rattle.dex_reasons.proofs.FirstReasons.{joined, joined-first}
use Rattle.dex_match.proofs.deciding.refused_late.Goals as goal

pub returns : goal.returns
returns c =
    let foreseen = c.args.foreseen.now in
    let later = no_room foreseen.plan.needed c.args.room ∷ short_by foreseen.plan.deposit (Some c.args.balance) ∷ [] in
    let made : c.or-2.result ≡ joined (would_self_trade foreseen.aborts) later = search rules in
    made ∙ joined-first (would_self_trade foreseen.aborts) later
