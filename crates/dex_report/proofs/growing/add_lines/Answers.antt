use Rattle.std.proofs.Common.{All, arith, subst, sym}
use Rattle.std.proofs.lemmas.List.Elements.{All-push}
use Rattle.dex_report.proofs.GrowLaws.{one-more-line, taken}
use Rattle.dex_report.proofs.growing.add_lines.Goals as goal

pub entries-preserved : goal.entries-preserved
entries-preserved g c = record {
  text =
      one-more-line g.T.Told.lines _ _ _ c.args.entries.now c.entries.entry-index c.entry-item.result (omega arith) c.entry-item.is c.entries.invariant.text
      c.in_ok-add_line.ensures.text;
  fits =
      subst (All g.T.Told.fits) (sym (taken c.args.entries.now c.entries.entry-index c.entry-item.result (omega arith) c.entry-item.is))
      (All-push g.T.Told.fits _ c.entry-item.result c.entries.invariant.fits c.in_ok-add_line.ensures.fits);
}
