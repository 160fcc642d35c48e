use Rattle.std.proofs.Common.{ap}
use Rattle.std.proofs.lemmas.List.{drop_all}
use Rattle.dex_history.specs.Journal.{front}
use Rattle.dex_act.proofs.Probing.{front-end, probing-end, probing-more, probing-next, probing-one}
use Rattle.dex_act.proofs.probes.probes.Goals as goal

pub probe-requires : goal.probe-requires
probe-requires c = probing-one (probing-next c.args.moves.now c.loop-at.at _ c.in-Some.movement c.loop-at-test.true c.in-Some.is c.loop-at.invariant)

pub loop-at-preserved : goal.loop-at-preserved
loop-at-preserved c =
    probing-more c.probe.new.cells (probing-next c.args.moves.now c.loop-at.at _ c.in-Some.movement c.loop-at-test.true c.in-Some.is c.loop-at.invariant) c.probe.ensures

pub returns-in-None : goal.returns-in-None
returns-in-None c = probing-end c.loop-at.invariant (front-end c.args.moves.now c.loop-at.at _ c.loop-at-test.true c.in-None.is)

pub returns : goal.returns
returns c = probing-end c.loop-at.invariant (ap front (drop_all c.loop-at.at c.args.moves.now c.loop-at-test.false))
