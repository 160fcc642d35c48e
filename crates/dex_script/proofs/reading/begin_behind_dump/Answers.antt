use Rattle.std.proofs.Common.{◌≡◌, ◌∙◌, List, Ok, ap, subst, true}
use Rattle.dex_dump.specs.Answers.{AnswersDump}
use Rattle.dex_dump.specs.Telling.{plain_dump}
use Rattle.dex_statement.specs.Words.{Fields}
use Rattle.dex_script.specs.Begun.{IsBegun}
use Rattle.dex_script.specs.Drafts.{PlainDraft}
use Rattle.dex_script.specs.Scripts.{begins_with_dump}
use Rattle.dex_script.proofs.BegunLaws.{begun-dump, told-late}
use Rattle.dex_script.proofs.reading.begin_behind_dump.Goals as goal

pub returns-clause-told : goal.returns-clause-told
returns-clause-told c = λ text is.
    let limits = c.args.limits.now in
    let batch = c.args.batch in
    let dump = plain_dump c.in_ok-dump.dump c.read_dump.new.rows in
    let first = c.of.ensures ∙ c.in_ok-before.ensures in
    let begun : IsBegun limits batch text c.of.result c.next_number-number.result dump.behind =
    rw (first, c.next_number-number.ensures)
    (begun-dump limits batch text c.accounts_without_findings_are_of_sound_markets.ensures c.mints_without_findings_are_conserved.ensures c.requires.limits
    (subst (λ (rows : List Fields). begins_with_dump rows ≡ true) is c.requires.begins) dump
    (subst (λ (rows : List Fields). AnswersDump limits rows (Ok dump)) is c.in_ok-dump.ensures.dump.0) c.in_ok-dump.ensures.dump.1) in
    told-late limits batch text c.of.result c.next_number-number.result dump.behind begun (ap (λ (d : PlainDraft). d.is_late) first)
    c.read_first.result c.read_first.ensures.read c.read_first.ensures.refused
