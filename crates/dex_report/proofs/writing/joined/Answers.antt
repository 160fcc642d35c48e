use Rattle.std.proofs.Common.{◌∙◌, ap}
use Rattle.dex_report.specs.Parts.{whole}
use Rattle.dex_report.proofs.Joined.{whole-more}
use Rattle.dex_report.proofs.writing.joined.Goals as goal

pub loop-text-preserved : goal.loop-text-preserved
loop-text-preserved c =
    ap whole c.in_ok-add_each.ensures ∙ whole-more c.loop-text.pieces.items c.loop-text.yielded c.in-Some.text c.loop-text.invariant
