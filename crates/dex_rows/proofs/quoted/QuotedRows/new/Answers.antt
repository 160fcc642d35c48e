use Rattle.dex_rows.proofs.RecordLemmas.{rows_at_start}
use Rattle.dex_rows.proofs.quoted.QuotedRows.new.Goals as goal

pub returns : goal.returns
returns c =
    let made = c.from_reader-reader.ensures in
    rw (made.state, made.source) (rows_at_start c.args.text.now)
