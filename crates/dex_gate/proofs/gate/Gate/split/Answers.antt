use Rattle.std.proofs.Common.{rules, ◌+◌, ◌<◌, refl, sym, ap, ◌∙◌, subst}
use Rattle.dex_gate.proofs.Keeps.{splits_at}
use Rattle.dex_gate.specs.PassView.{next_pass}
use Rattle.dex_gate.proofs.Seating.{sits, is_pass, handed_out, given_to, view_of_posed}
use Rattle.dex_gate.proofs.gate.Gate.split.Goals as goal

pub split_seat-requires : goal.split_seat-requires
split_seat-requires g c =
    let at = sits _ _ _ _ _ _ c.pass.invariant c.pass.view_is c.requires.gate refl in
    (at.table_so ∙ sym (ap (λ z. z.table) c.self.view_is), search rules, splits_at _ _ _ _ _ _ _ _ _ _ (ap (λ m. m.0) at.posed_so) (subst (λ p. p.next < p.until) (sym at.shown_so) c.requires.number))

pub invariant_of-pass : goal.invariant_of-pass
invariant_of-pass g c =
    let at = sits _ _ _ _ _ _ c.pass.invariant c.pass.view_is c.requires.gate refl in
    is_pass _ _ _ _ (handed_out _ _ at.card _ _ at.posed_so c.split_seat.ensures.2)

pub invariant_of-result : goal.invariant_of-result
invariant_of-result g c =
    let at = sits _ _ _ _ _ _ c.pass.invariant c.pass.view_is c.requires.gate refl in
    is_pass _ _ _ _ (given_to _ _ at.card _ _ at.posed_so c.split_seat.ensures.4)

pub returns : goal.returns
returns g c =
    let at = sits _ _ _ _ _ _ c.pass.invariant c.pass.view_is c.requires.gate refl in record {
      kept = view_of_posed _ _ _ _ _ _ c.split_seat.ensures.0 (handed_out _ _ at.card _ _ at.posed_so c.split_seat.ensures.2)
          ∙ (λ i. record (at.shown_so i) { next = (at.shown_so i).next + 1 });
      given = view_of_posed _ _ _ _ _ _ c.split_seat.ensures.3 (given_to _ _ at.card _ _ at.posed_so c.split_seat.ensures.4) ∙ ap next_pass at.shown_so;
    }
