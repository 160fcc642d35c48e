use Rattle.std.proofs.Common.{IsSome, Some, unwrap_or, refl, sym, ap, ◌∙◌, subst}
use mathlib.Core.Option.{some-injective}
use Rattle.dex_gate.proofs.Keeps.{ends}
use Rattle.dex_gate.specs.Rule.{IsEnd}
use Rattle.dex_gate.proofs.steps.take_out.Goals as goal

pub unwrap-requires : goal.unwrap-requires
unwrap-requires g c =
    let f = c.close_with-closed.ensures.values.2 in
    let e = ends _ _ _ _ _ f.0 f.1.0 _ _ f.1.1 c.requires.all.0 c.requires.all.1 in
    subst IsSome (some-injective _ _ (sym (f.4 0 (Some e.0) e.1) ∙ c.take-value.ensures.value)) refl

pub returns : goal.returns
returns g c =
    let f = c.close_with-closed.ensures.values.2 in
    let e = ends _ _ _ _ _ f.0 f.1.0 _ _ f.1.1 c.requires.all.0 c.requires.all.1 in
    let same = ap (λ o. unwrap_or o e.0) (some-injective _ _ (sym (f.4 0 (Some e.0) e.1) ∙ c.take-value.ensures.value) ∙ c.unwrap.ensures) in
    subst (IsEnd g.V.Journaled.entries g.V.Journaled.lane g.V.Journaled.origin c.args.table.shared.key.value.value c.args.table.shared.key.passes c.args.seat.me.0.cards) same e.2
