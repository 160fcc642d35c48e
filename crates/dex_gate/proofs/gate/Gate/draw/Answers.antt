use Rattle.std.proofs.Common.{rules, length, sym, ap, ◌∙◌, arith}
use Rattle.dex_gate.specs.declared.stage.Stage.TheVariants.{Idle, Waiting}
use Rattle.dex_gate.proofs.Keeps.{draws}
use Rattle.dex_gate.proofs.Seating.{sits, is_pass, view_of_posed, drawn}
use Rattle.dex_gate.proofs.gate.Gate.draw.Goals as goal

pub fetch_add-pass-inside-requires : goal.fetch_add-pass-inside-requires
fetch_add-pass-inside-requires g c =
    let at = sits _ _ _ Idle _ _ c.pass.invariant c.pass.view_is c.requires.gate c.requires.idle in
    (at.table_so ∙ sym (ap (λ z. z.table) c.self.view_is), search rules, draws _ _ _ _ _ _ _ _ (ap (λ m. m.0.stage) at.posed_so) (omega (arith, ap (λ m. length m.0.cards) at.posed_so)))

pub invariant_of-pass : goal.invariant_of-pass
invariant_of-pass g c =
    let at = sits _ _ _ Idle _ _ c.pass.invariant c.pass.view_is c.requires.gate c.requires.idle in
    is_pass _ at.card _ Waiting (drawn _ _ at.card _ _ at.posed_so c.fetch_add-pass-inside.ensures.2)

pub returns : goal.returns
returns g c =
    let at = sits _ _ _ Idle _ _ c.pass.invariant c.pass.view_is c.requires.gate c.requires.idle in
    view_of_posed _ _ _ at.card _ Waiting c.fetch_add-pass-inside.ensures.0 (drawn _ _ at.card _ _ at.posed_so c.fetch_add-pass-inside.ensures.2)
    ∙ (λ i. record (at.shown_so i) { stage = Waiting })
