use Rattle.std.proofs.Common.{◌≡◌, ◌∙◌, ap}
use Rattle.csv.specs.Records.{fields_of}
use Rattle.dex_rows.specs.Lines.{cells_of}
use Rattle.dex_rows.specs.Printable.{row_is_printable}
use Rattle.dex_rows.proofs.PrintableLemmas.{line_printable, row_every}
use Rattle.dex_rows.proofs.printable.row_is_printable.Goals as goal

pub returns-in-None : goal.returns-in-None
returns-in-None c =
    let line = c.row.inside.line.bytes.now in
    let cells : cells_of line ≡ c.args.row.now = rw c.in-None.is at c.row.view_is in
    let all = c.is_printable.ensures.value ∙ line_printable line ∙ ap row_is_printable cells in
    record { value = all; every = row_every _ c.args.row.now all }

pub returns-in-Some : goal.returns-in-Some
returns-in-Some c =
    let fields : fields_of c.in-Some.record ≡ c.args.row.now = rw c.in-Some.is at c.row.view_is in
    let all = c.record_is_printable.ensures ∙ ap row_is_printable fields in
    record { value = all; every = row_every _ c.args.row.now all }
