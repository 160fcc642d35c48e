use Rattle.std.proofs.Common.{arith, inr, refl}
use Rattle.dex_commands.proofs.Pieces.{rose-since, stopped-at, written-more}
use Rattle.dex_commands.proofs.output.written_each.Goals as goal

pub loop-piece-preserved : goal.loop-piece-preserved
loop-piece-preserved g c =
    let taken = rw c.bytes_of.ensures at c.in-Ok.ensures.ok in
    record {
      written =
          written-more _ _ _ c.args.pieces.now c.loop-piece.piece-index _ c.piece-item.result (omega arith) c.loop-piece-test.true c.piece-item.is
          c.loop-piece.invariant.written taken;
      later = omega (arith, c.loop-piece.invariant.later, c.in-Ok.ensures.later);
    }

pub returns-in-Err : goal.returns-in-Err
returns-in-Err g c =
    let failed = rw c.bytes_of.ensures at c.in-Err.ensures.stopped in
    let short = rw c.bytes_of.ensures at c.in-Err.ensures.sent in
    let (count, within, taken) =
    stopped-at _ _ _ c.args.pieces.now c.loop-piece.piece-index c.piece-item.result c.in-Err.field-0.sent c.loop-piece-test.true c.piece-item.is short c.loop-piece.invariant.written failed
    in
    inr (refl, rose-since _ _ _ c.loop-piece.invariant.later c.in-Err.ensures.failed, count, within, taken)
