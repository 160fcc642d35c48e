use Rattle.std.proofs.Common.{ap, Err, true, ◌≡◌, ◌∙◌, sym}
use Rattle.dex_dump.specs.Answers.Ends.{AtAccount}
use Rattle.dex_dump.specs.Reading.{is_allowed}
use Rattle.dex_dump.specs.Telling.{plain_reading}
use Rattle.dex_dump_rows.specs.Telling.{plain_line}
use Rattle.dex_dump.proofs.AnswerLaws.{stated-allowed}
use Rattle.dex_dump.proofs.reader.read_row.Goals as goal

pub returns-in-Err-Failed : goal.returns-in-Err-Failed
returns-in-Err-Failed c = λ behind.
    let reading = plain_reading c.args.reading.now in
    let line = plain_line c.in-Ok.line in
    let allowed : is_allowed reading line ≡ true = sym c.is_allowed.ensures ∙ c.if-not-is_allowed.false in
    AtAccount line (stated-allowed reading _ line c.in-Ok.ensures allowed) c.in-Err-Failed.failed.account c.in-Err-Failed.failed.fault
    (rw c.in-Err-Failed.field-0-is at c.in-Err-Failed.ensures) (ap Err c.fault_in.ensures)
