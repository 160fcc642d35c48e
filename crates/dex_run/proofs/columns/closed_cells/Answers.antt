use Rattle.std.proofs.Common.{◌∷◌, [], ◌∙◌, length, length-append, ap, arith}
use Rattle.std.proofs.lemmas.List.{nil_from_length}
use Rattle.dex_world.proofs.Common.{AllZip-long}
use Rattle.dex_run.proofs.Common.{CanClose, IsClosed}
use Rattle.dex_run.proofs.ColumnLists.{AllZip-ends, AllZip-not_empty, IsGiven, completed, completes-more, completes-none, given-closed}
use Rattle.dex_run.proofs.columns.closed_cells.Goals as goal

pub loop-gate-init : goal.loop-gate-init
loop-gate-init g c = record {
  passes = c.requires.passes;
  values = completes-none (IsGiven (IsClosed g.V.Journaled.entries g.V.Journaled.lane g.V.Journaled.origin) g.V.OfCell.kept g.V.OfCell.gives) _ _ _ c.requires.room.empty;
  room = omega (arith, c.requires.room.enough, ap length c.requires.room.empty);
}

pub unreachable-requires : goal.unreachable-requires
unreachable-requires g c =
    AllZip-not_empty (λ gate column. CanClose gate column.items) _ _ _ _ c.loop-gate.invariant.passes c.in-Some.ensures.items
    (nil_from_length _ (omega (arith, c.in_default-pop.ensures.cases.0)))

pub close-requires-clause-gate : goal.close-requires-clause-gate
close-requires-clause-gate g c =
    (AllZip-ends (λ gate column. CanClose gate column.items) _ _ _ _ _ _ c.loop-gate.invariant.passes c.in-Some.ensures.items c.in-Some-pop.ensures.items).1.of_gate

pub close-requires-clause-idle : goal.close-requires-clause-idle
close-requires-clause-idle g c =
    (AllZip-ends (λ gate column. CanClose gate column.items) _ _ _ _ _ _ c.loop-gate.invariant.passes c.in-Some.ensures.items c.in-Some-pop.ensures.items).1.idle

pub close-requires-clause-numbers : goal.close-requires-clause-numbers
close-requires-clause-numbers g c =
    (AllZip-ends (λ gate column. CanClose gate column.items) _ _ _ _ _ _ c.loop-gate.invariant.passes c.in-Some.ensures.items c.in-Some-pop.ensures.items).1.numbers

pub loop-gate-preserved : goal.loop-gate-preserved
loop-gate-preserved g c = record {
  passes = (AllZip-ends (λ gate column. CanClose gate column.items) _ _ _ _ _ _ c.loop-gate.invariant.passes c.in-Some.ensures.items c.in-Some-pop.ensures.items).0;
  values = completes-more (IsGiven (IsClosed g.V.Journaled.entries g.V.Journaled.lane g.V.Journaled.origin) g.V.OfCell.kept g.V.OfCell.gives) _ _ _ _ _ _ _ _ _ _ _
      c.in-Some.ensures.items c.in-Some-pop.ensures.items c.append.ensures.items
      (c.close.result, record { start = c.close.ensures.origin; of_lanes = c.close.ensures.lanes; each = c.close.ensures.mine }, c.leave.ensures.kept, c.leave.ensures.cell) c.loop-gate.invariant.values;
  room = omega (arith, c.loop-gate.invariant.room, c.in-Some.ensures.cases, c.append.ensures.reserved, ap length c.append.ensures.items, length-append c.loop-gate.cells.items (c.leave.result ∷ []));
}

pub returns : goal.returns
returns g c =
    let gates = nil_from_length c.loop-gate.gates.items (omega (arith, c.in_default.ensures.cases.0)) in
    let columns = nil_from_length c.loop-gate.columns.items
    (AllZip-long (λ gate column. CanClose gate column.items) c.loop-gate.gates.items c.loop-gate.columns.items c.loop-gate.invariant.passes ∙ ap length gates) in
    given-closed (IsClosed g.V.Journaled.entries g.V.Journaled.lane g.V.Journaled.origin) g.V.OfCell.kept g.V.OfCell.gives c.args.gates.items c.args.columns.items c.reverse.new.self.items
    (completed (IsGiven (IsClosed g.V.Journaled.entries g.V.Journaled.lane g.V.Journaled.origin) g.V.OfCell.kept g.V.OfCell.gives)
    c.args.gates.items c.loop-gate.gates.items c.args.columns.items c.loop-gate.columns.items c.loop-gate.cells.items c.reverse.new.self.items c.loop-gate.invariant.values gates columns c.reverse.ensures.items)
