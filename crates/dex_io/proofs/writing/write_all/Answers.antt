use Rattle.std.proofs.Common.{arith}
use Rattle.std.proofs.lemmas.Grind.{common_steps}
use Rattle.dex_io.proofs.Known.{written_more}
use Rattle.dex_io.proofs.writing.write_all.Goals as goal

pub loop-sent-preserved : goal.loop-sent-preserved
loop-sent-preserved g c = record {
  written = written_more _ _ _ c.args.text.now _ _ c.loop-sent.invariant.written (grind (arith, common_steps));
  within = grind (arith, common_steps, c.in-Ok.ensures.within);
  later = omega (arith, c.in-Ok.ensures.later);
}
