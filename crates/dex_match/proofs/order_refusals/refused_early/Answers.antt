use Rattle.std.proofs.Common.{◌∙◌, ◌≡◌, ◌∷◌, [], ap}
use Rattle.std.specs.Option.{option_or}
use Rattle.dex_types.specs.Reasons.{used_up}
use Rattle.dex_reasons.proofs.FirstReasons.{first_of-same, joined, joined-first}
use Rattle.dex_match.proofs.order_refusals.refused_early.Goals as goal

pub returns : goal.returns
returns c =
    let later = c.ask_too_large.result ∷ c.used_up.result ∷ c.too_late.result ∷ [] in
    let made : c.or-3.result ≡ joined c.no_slot.result later =
    c.or-3.ensures ∙ ap (λ o. option_or o c.too_late.result) (c.or-2.ensures ∙ ap (λ o. option_or o c.used_up.result) c.or.ensures) in
    made ∙ joined-first c.no_slot.result later
    ∙ first_of-same _ _ _ _ _ _ _ _ c.no_slot.ensures c.ask_too_large.ensures (c.used_up.ensures ∙ ap used_up c.sequence_of.ensures) c.too_late.ensures
