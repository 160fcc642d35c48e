use Rattle.std.proofs.Common.{set, ap}
use Rattle.dex_types.specs.Rows.{row_of}
use Rattle.dex_act.proofs.Probing.{probed-here, probed-none}
use Rattle.dex_act.proofs.probes.probe.Goals as goal

pub returns-in-Probe : goal.returns-in-Probe
returns-in-Probe c =
    probed-here (row_of c.args.asked.now.row.now) c.args.asked.now.seen.now c.args.asked.now.places.now c.args.movement.now c.args.cells.now _ c.moved_place-place.result c.in-Probe.is
    c.requires (c.moved_place-place.ensures c.args.cells.now c.requires.at) c.index-cells-place.result (ap (set c.args.cells.now c.moved_place-place.result) c.probe.ensures.moved)

pub returns-in-Debit : goal.returns-in-Debit
returns-in-Debit c = probed-none (row_of c.args.asked.now.row.now) c.args.movement.now c.args.cells.now c.in-Debit.is
