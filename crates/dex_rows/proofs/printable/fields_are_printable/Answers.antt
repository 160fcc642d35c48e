use Rattle.std.proofs.Common.{◌∙◌, sym, refl, arith}
use Rattle.csv.specs.Records.{fields_of}
use Rattle.dex_rows.specs.Printable.{row_is_printable}
use Rattle.dex_rows.proofs.PrintableLemmas.{row_all, row_fails, row_more}
use Rattle.dex_rows.proofs.printable.fields_are_printable.Goals as goal

pub fields-init : goal.fields-init
unfolding row_is_printable
fields-init c = refl

pub fields-preserved : goal.fields-preserved
fields-preserved c =
    row_more (fields_of c.args.row.now) c.fields.place c.field.result.now (omega arith) c.field.ensures (sym c.is_printable.ensures.value ∙ c.if-not-is_printable.false) c.fields.invariant

pub returns-then-not-is_printable : goal.returns-then-not-is_printable
returns-then-not-is_printable c =
    row_fails (fields_of c.args.row.now) c.fields.place c.field.result.now (omega arith) c.field.ensures (sym c.is_printable.ensures.value ∙ c.if-not-is_printable.true)

pub returns : goal.returns
returns c = row_all (fields_of c.args.row.now) c.fields.place (omega arith) c.fields.invariant
