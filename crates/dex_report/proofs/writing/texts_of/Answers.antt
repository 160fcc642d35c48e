use Rattle.std.proofs.Common.{◌∙◌, All, List, ap, arith, subst}
use Rattle.std.specs.List.{AllZip, flat_map}
use Rattle.std.proofs.lemmas.List.{take_at}
use Rattle.dex_report.specs.Parts.{FitPart, part_lines, parts_in}
use Rattle.dex_report.specs.declared.writing.Writing.{Writing}
use Rattle.dex_report.proofs.Joined.{Wrote, all-written, parts_of_jobs}
use Rattle.dex_report.proofs.writing.texts_of.Goals as goal

pub returns-clause-fits : goal.returns-clause-fits
returns-clause-fits g c =
    let are = ap parts_of_jobs c.deref_mut.ensures.value ∙ ap parts_in c.in_ok-jobs.ensures ∙ c.in_ok-groups.ensures in
    let texts = c.in_ok-texts.texts.items in
    let after = take_at c.run_jobs.new.jobs _ c.in_ok-jobs.jobs.len (omega (arith, c.run_jobs.ensures.count, c.deref_mut.ensures.len)) in
    subst (All FitPart) are
    (all-written c.deref_mut.result.now c.run_jobs.new.jobs texts c.run_jobs.ensures.ran (subst (λ (jobs : List Writing). AllZip Wrote jobs texts) after c.in_ok-texts.ensures)).0

pub returns-clause-text : goal.returns-clause-text
returns-clause-text g c =
    let are = ap parts_of_jobs c.deref_mut.ensures.value ∙ ap parts_in c.in_ok-jobs.ensures ∙ c.in_ok-groups.ensures in
    let texts = c.in_ok-texts.texts.items in
    let after = take_at c.run_jobs.new.jobs _ c.in_ok-jobs.jobs.len (omega (arith, c.run_jobs.ensures.count, c.deref_mut.ensures.len)) in
    c.in_ok-pieces.ensures
    ∙ (all-written c.deref_mut.result.now c.run_jobs.new.jobs texts c.run_jobs.ensures.ran (subst (λ (jobs : List Writing). AllZip Wrote jobs texts) after c.in_ok-texts.ensures)).1
    ∙ ap (flat_map part_lines) are
