use Rattle.std.proofs.Common.{◌∙◌, ◌++◌, [], ◌∷◌, subst, sym}
use Rattle.std.specs.List.{AllZip}
use Rattle.std.proofs.lemmas.Slice.Zip.{all_zipped_more}
use Rattle.dex_report.proofs.Joined.{Wrote}
use Rattle.dex_report.proofs.writing.written_by.Goals as goal

pub loop-job-preserved : goal.loop-job-preserved
loop-job-preserved c =
    subst (AllZip Wrote (c.loop-job.yielded ++ c.in-Some.job ∷ [])) (sym c.in_ok-push.ensures.items)
    (all_zipped_more Wrote c.loop-job.yielded c.loop-job.texts.items c.in-Some.job c.in_ok-text.text c.loop-job.invariant (sym c.text_in.ensures ∙ c.in_ok-text.was))
