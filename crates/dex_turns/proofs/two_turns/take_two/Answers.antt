use Rattle.dex_turns.proofs.Exchanging.{exchanged-taken}
use Rattle.dex_turns.proofs.two_turns.take_two.Goals as goal

pub returns-else-in_order : goal.returns-else-in_order
returns-else-in_order g c =
    exchanged-taken c.args.one.gate.now c.args.two.gate.now c.args.one.place c.args.two.place c.args.passes.now.items _ c.args.last.now.number _ c.requires.apart c.take_rising-turns.ensures
