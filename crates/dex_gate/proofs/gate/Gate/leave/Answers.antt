use Rattle.std.proofs.Common.{rules, ℕ, ◌++◌, sym, ap, ◌∙◌, subst}
use Rattle.dex_gate.specs.declared.stage.Stage.TheVariants.{Idle, Out}
use Rattle.dex_gate.specs.History.{added, Extends, AddsOne}
use Rattle.dex_gate.specs.PassView.{PassView}
use Rattle.dex_gate.proofs.Seating.{sits, is_pass, view_of_posed}
use Rattle.dex_gate.proofs.gate.Gate.leave.Goals as goal

pub pass_on-next-requires : goal.pass_on-next-requires
pass_on-next-requires g c =
    let at = sits _ _ _ (Out c.args.turn.start) _ _ c.pass.invariant c.pass.view_is c.requires.gate c.requires.turn.2 in
    let value = ap (λ z. z.value) c.turn.view_is in
    record {
      table = (search rules, at.table_so ∙ sym (ap (λ z. z.table) c.self.view_is));
      turn = record {
        card = at.card;
        ticket = c.pass.inside.ticket;
        start = c.args.turn.start;
        posed_so = at.posed_so;
        one_more = subst (λ (z : ℕ × g.row.V.Denot). AddsOne g.V.Journaled.lane z.0 c.args.turn.start (g.V.Journaled.entries z.1)) (λ i. ((sym at.shown_so i).number, sym value i)) c.requires.entry;
        same_origin = ap g.V.Journaled.origin value ∙ (c.requires.origin ∙ sym (ap (λ z. z.origin) at.gate_so));
      };
    }

pub invariant_of-pass : goal.invariant_of-pass
invariant_of-pass g c =
    let at = sits _ _ _ (Out c.args.turn.start) _ _ c.pass.invariant c.pass.view_is c.requires.gate c.requires.turn.2 in
    is_pass _ _ _ _ (c.pass_on-next.ensures.passed at.card _ _ at.posed_so).0

pub returns : goal.returns
returns g c =
    let at = sits _ _ _ (Out c.args.turn.start) _ _ c.pass.invariant c.pass.view_is c.requires.gate c.requires.turn.2 in
    let value = ap (λ z. z.value) c.turn.view_is in
    let after : PassView g.row.V-Entry.Denot g.row.V-Origin.Denot → g.row.V.Denot → PassView g.row.V-Entry.Denot g.row.V-Origin.Denot = λ z x.
    record z { seen = g.V.Journaled.entries x; mine = z.mine ++ added c.args.turn.start (g.V.Journaled.entries x); stage = Idle } in
    let passed = c.pass_on-next.ensures.passed at.card _ _ at.posed_so in
    record {
      pass = view_of_posed _ _ _ _ _ _ c.pass_on-next.ensures.table passed.0 ∙ (λ i. after (at.shown_so i) (value i));
      seen = subst (λ (z : PassView g.row.V-Entry.Denot g.row.V-Origin.Denot × g.row.V.Denot). Extends z.0.seen (g.V.Journaled.entries z.1)) (λ i. (at.shown_so i, value i)) passed.1;
    }
