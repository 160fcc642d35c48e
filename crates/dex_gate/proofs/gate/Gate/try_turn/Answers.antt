use Rattle.std.proofs.Common.{rules, sym, ap, ◌∙◌}
use Rattle.dex_gate.specs.declared.stage.Stage.TheVariants.{Waiting, Out}
use Rattle.dex_gate.proofs.Seating.{sits, is_pass, view_of_posed}
use Rattle.dex_gate.proofs.gate.Gate.try_turn.Goals as goal

pub look-requires : goal.look-requires
look-requires g c =
    let at = sits _ _ _ Waiting _ _ c.pass.invariant c.pass.view_is c.requires.gate c.requires.waiting in
    record { table = (search rules, at.table_so ∙ sym (ap (λ z. z.table) c.self.view_is)); waiting = (at.card, at.posed_so) }

pub invariant_of-pass : goal.invariant_of-pass
invariant_of-pass g c =
    let at = sits _ _ _ Waiting _ _ c.pass.invariant c.pass.view_is c.requires.gate c.requires.waiting in
    is_pass _ at.card _ Waiting (c.in_err-value.ensures.kept ∙ at.posed_so)

pub invariant_of-pass-2 : goal.invariant_of-pass-2
invariant_of-pass-2 g c =
    let at = sits _ _ _ Waiting _ _ c.pass.invariant c.pass.view_is c.requires.gate c.requires.waiting in
    is_pass _ at.card _ _ (c.in_ok-value.ensures.took at.card at.posed_so).posed_so

pub returns-clause-pass : goal.returns-clause-pass
returns-clause-pass g c =
    let at = sits _ _ _ Waiting _ _ c.pass.invariant c.pass.view_is c.requires.gate c.requires.waiting in
    view_of_posed _ _ _ at.card _ _ c.look.ensures.table (c.in_ok-value.ensures.took at.card at.posed_so).posed_so
    ∙ (λ i. record (at.shown_so i) { stage = Out (g.V.Journaled.entries c.in_ok-value.value) })

pub returns-clause-turn : goal.returns-clause-turn
returns-clause-turn g c =
    let whole = c.of-2.ensures ∙ returns-clause-pass g c in
    (ap (λ z. z.gate) whole ∙ c.requires.gate, ap (λ z. z.number) whole, ap g.V.Journaled.entries c.of.ensures)

pub returns-clause-origin : goal.returns-clause-origin
returns-clause-origin g c =
    let at = sits _ _ _ Waiting _ _ c.pass.invariant c.pass.view_is c.requires.gate c.requires.waiting in
    (c.in_ok-value.ensures.took at.card at.posed_so).shows.same_origin ∙ ap (λ z. z.origin) at.gate_so
