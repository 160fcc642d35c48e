use Rattle.std.proofs.Common.{◌<◌, All, sum_by, slice_index_or, sym, ap, ◌∙◌, subst}
use Rattle.dex_gate.specs.History.{added, of_lane}
use Rattle.dex_gate.specs.Rule.{claim, IsTrueCard}
use Rattle.dex_gate.specs.Seats.{shown_card}
use Rattle.dex_gate.proofs.Closing.{all_claimed}
use Rattle.dex_gate.proofs.Lists.{All-from_map}
use Rattle.dex_gate.proofs.gate.Gate.close.Goals as goal

pub take_out-requires-clause-all : goal.take_out-requires-clause-all
take_out-requires-clause-all g c = (
  c.gather-seat.ensures.view.1,
  λ k h. subst (λ cs. 0 < sum_by (claim k) cs) (sym c.gather-seat.ensures.view.0) (all_claimed c.args.self c.args.self.passes c.args.passes.items c.requires.numbers k (subst (λ z. k < z.passes) c.self.view_is h)),
)

pub returns-clause-seen : goal.returns-clause-seen
returns-clause-seen g c = λ k d h.
    let v = c.self.inside.table.shared.key.value.value in
    let P = IsTrueCard g.V.Journaled.lane (g.V.Journaled.origin v) (g.V.Journaled.entries v) (g.V.Journaled.entries c.take_out.result) in
    (All-from_map P (shown_card c.args.self) c.args.passes.items (subst (All P) c.gather-seat.ensures.view.0 c.take_out.ensures.true_cards) k d h).seen

pub returns-clause-mine : goal.returns-clause-mine
returns-clause-mine g c = λ k d h.
    let v = c.self.inside.table.shared.key.value.value in
    let P = IsTrueCard g.V.Journaled.lane (g.V.Journaled.origin v) (g.V.Journaled.entries v) (g.V.Journaled.entries c.take_out.result) in
    ap (λ z. of_lane g.V.Journaled.lane (slice_index_or c.args.passes.items k d).number (added z.opening (g.V.Journaled.entries c.take_out.result))) (sym c.self.view_is)
    ∙ (All-from_map P (shown_card c.args.self) c.args.passes.items (subst (All P) c.gather-seat.ensures.view.0 c.take_out.ensures.true_cards) k d h).mine
