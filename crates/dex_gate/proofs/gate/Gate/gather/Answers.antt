use Rattle.std.proofs.Common.{rules, ◌≡◌, [], ◌++◌, map, Some, sym, ap, ◌∙◌, append-nil}
use Rattle.dex_gate.specs.declared.stage.Stage.TheVariants.{Idle}
use Rattle.dex_gate.specs.Seats.{shown_card, hand_of}
use Rattle.dex_gate.proofs.Keeps.{joins}
use Rattle.std.proofs.lemmas.List.Elements.{All-pop}
use Rattle.dex_gate.proofs.Lists.{map-last}
use Rattle.dex_gate.proofs.gate.Gate.gather.Goals as goal

pub loop-pass-init : goal.loop-pass-init
loop-pass-init g c =
    let gates = All-pop (λ p. p.gate ≡ Some c.args.self.now) _ _ (Some _) c.in-Some.ensures.items c.requires.gate in
    let idles = All-pop (λ p. p.stage ≡ Idle) _ _ (Some _) c.in-Some.ensures.items c.requires.idle in
    let its = c.into_seat-seat.ensures c.args.self.now gates.1 in record {
      table = its.0;
      cards = map-last (shown_card c.args.self.now) _ _ _ _ [] (sym (append-nil _)) c.in-Some.ensures.items ∙ ap (λ l. map (shown_card c.args.self.now) c.pop.new.self.items ++ l) (sym its.1);
      stage = its.2 ∙ idles.1;
      gate = gates.0;
      idle = idles.0;
    }

pub join_seat-requires : goal.join_seat-requires
join_seat-requires g c =
    let gates = All-pop (λ p. p.gate ≡ Some c.args.self.now) _ _ (Some _) c.in-Some-pop.ensures.items c.loop-pass.invariant.gate in
    let idles = All-pop (λ p. p.stage ≡ Idle) _ _ (Some _) c.in-Some-pop.ensures.items c.loop-pass.invariant.idle in
    let its = c.into_seat.ensures c.args.self.now gates.1 in
    let table = sym (ap (λ z. z.table) c.self.view_is) in
    (c.loop-pass.invariant.table ∙ table, its.0 ∙ table, its.3 ∙ ap hand_of idles.1, search rules, joins _ _ _ _ _ _ _ _ _ c.loop-pass.invariant.stage (its.2 ∙ idles.1))

pub loop-pass-preserved : goal.loop-pass-preserved
loop-pass-preserved g c =
    let gates = All-pop (λ p. p.gate ≡ Some c.args.self.now) _ _ (Some _) c.in-Some-pop.ensures.items c.loop-pass.invariant.gate in
    let idles = All-pop (λ p. p.stage ≡ Idle) _ _ (Some _) c.in-Some-pop.ensures.items c.loop-pass.invariant.idle in
    let its = c.into_seat.ensures c.args.self.now gates.1 in
    let more = ap (λ m. m.0.cards) c.join_seat.ensures.2 ∙ ap (λ l. l ++ c.loop-pass.seat.me.0.cards) its.1 in record {
      table = c.join_seat.ensures.0 ∙ c.loop-pass.invariant.table;
      cards = map-last (shown_card c.args.self.now) _ _ _ _ _ c.loop-pass.invariant.cards c.in-Some-pop.ensures.items ∙ ap (λ l. map (shown_card c.args.self.now) c.pop-in-loop-pass.new.self.items ++ l) (sym more);
      stage = ap (λ m. m.0.stage) c.join_seat.ensures.2 ∙ c.loop-pass.invariant.stage;
      gate = gates.0;
      idle = idles.0;
    }
