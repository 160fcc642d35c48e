use Rattle.std.proofs.Common.{◌∙◌, ap, sym}
use Rattle.dex_rows.specs.Printable.{is_printable}
use Rattle.dex_rows.proofs.PrintableLemmas.{row_of_printable}
use Rattle.dex_rows.proofs.printable.record_is_printable.Goals as goal

pub returns-then-is_printable : goal.returns-then-is_printable
returns-then-is_printable c =
    let bytes = ap is_printable (sym c.as_slice.ensures) ∙ sym c.is_printable.ensures.value ∙ c.if-is_printable.true in
    c.if-is_printable.true ∙ sym (row_of_printable c.args.row.now bytes)
