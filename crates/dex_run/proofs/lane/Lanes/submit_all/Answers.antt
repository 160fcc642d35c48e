use Rattle.std.proofs.Common.{◌+◌, ◌∙◌, ap, arith, drop, refl, sym}
use Rattle.dex_replay.proofs.Common.{PlainScript}
use Rattle.dex_run.proofs.LaneItems.{rest-first, rest-next, rest-none}
use Rattle.dex_run.proofs.lane.Lanes.submit_all.Goals as goal

pub bounds-by_lane-lane : goal.bounds-by_lane-lane
bounds-by_lane-lane g c = omega (arith, c.requires.within, c.lane-lane.ensures.lane)

pub loop-item-init : goal.loop-item-init
loop-item-init g c = record {
  of_bank = c.requires.of_bank;
  lane = refl;
  rest = rest-first c.args.self.now.rows.now c.args.self.now.by_lane.now c.args.seat.now c.lane-lane.result c.index-by_lane-lane.result c.requires.index c.requires.within c.requires.fresh c.lane-lane.ensures.lane c.index-by_lane-lane.is;
}

pub submit_item-requires-clause-item : goal.submit_item-requires-clause-item
submit_item-requires-clause-item g c =
    (rest-next c.args.self.now.rows.now c.loop-item.seat c.index-by_lane-lane.result.items c.loop-item.item c.index.result.now
    (omega (arith, c.loop-item-test.true, c.len-item-end.ensures, c.index-by_lane-lane.result.ok.0)) c.index.ensures c.loop-item.invariant.rest).0

pub loop-item-preserved : goal.loop-item-preserved
loop-item-preserved g c = record {
  of_bank = c.submit_item.ensures.bank;
  lane = c.submit_item.ensures.lane ∙ c.loop-item.invariant.lane;
  rest =
      c.submit_item.ensures.rest (drop (c.loop-item.item + 1) c.index-by_lane-lane.result.items)
      (rest-next c.args.self.now.rows.now c.loop-item.seat c.index-by_lane-lane.result.items c.loop-item.item c.index.result.now
      (omega (arith, c.loop-item-test.true, c.len-item-end.ensures, c.index-by_lane-lane.result.ok.0)) c.index.ensures c.loop-item.invariant.rest);
}

pub returns : goal.returns
returns g c =
    let script = c.loop-item.invariant.of_bank.script in
    record {
      of_bank = c.loop-item.invariant.of_bank;
      lane = c.loop-item.invariant.lane;
      script = script ∙ sym c.requires.of_bank.script;
      done =
          rest-none c.args.self.now.rows.now c.loop-item.seat c.index-by_lane-lane.result.items c.loop-item.item (omega (arith, c.loop-item-test.false, c.len-item-end.ensures, c.index-by_lane-lane.result.ok.0))
          (c.requires.are.rows_are ∙ ap (λ (s : PlainScript). s.rows) (sym script)) c.loop-item.invariant.rest;
    }
