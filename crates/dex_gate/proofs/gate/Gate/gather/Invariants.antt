use Rattle.std.proofs.Common.{◌≡◌, ◌++◌, map, All, Some, vec_len}
use Rattle.dex_gate.specs.declared.stage.Stage.TheVariants.{Idle}
use Rattle.dex_gate.specs.Seats.{shown_card}
use Rattle.dex_gate.proofs.gate.Gate.gather.Given as goal

abbrev pub invariant-loop-pass : goal.invariant-loop-pass
invariant-loop-pass g l = record {
  table : l.seat.table_id ≡ l.self.table;
  cards : map (shown_card l.self) l.fn.passes.items ≡ map (shown_card l.self) l.passes.items ++ l.seat.me.0.cards;
  stage : l.seat.me.0.stage ≡ Idle;
  gate : All (λ p. p.gate ≡ Some l.self) l.passes.items;
  idle : All (λ p. p.stage ≡ Idle) l.passes.items;
}

abbrev pub decreases-loop-pass : goal.decreases-loop-pass
decreases-loop-pass g l = vec_len l.passes
