use Rattle.std.proofs.Common.{append-nil, sym, ◌∙◌}
use Rattle.std.proofs.lemmas.List.Elements.{All-nil, All-push}
use Rattle.dex_report.specs.Parts.{FitPart}
use Rattle.dex_report.proofs.Joined.{lines-more}
use Rattle.dex_report.proofs.writing.take_parts.Goals as goal

pub loop-part-init : goal.loop-part-init
loop-part-init c = record { text = sym (append-nil _); fits = All-nil FitPart }

pub loop-part-preserved : goal.loop-part-preserved
loop-part-preserved c = record {
  text = lines-more _ _ _ c.loop-part.yielded c.in-Some.part c.in_ok-take_part.ensures.text (c.in_ok-make_room.ensures ∙ c.loop-part.invariant.text);
  fits = All-push FitPart c.loop-part.yielded c.in-Some.part c.loop-part.invariant.fits c.in_ok-take_part.ensures.fits;
}
