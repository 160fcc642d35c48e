use Rattle.std.proofs.Common.{◌≡◌, take, true}
use Rattle.csv.specs.Records.{fields_of}
use Rattle.dex_rows.specs.Printable.{row_is_printable}
use Rattle.dex_rows.proofs.printable.fields_are_printable.Given as goal

abbrev pub invariant-fields : goal.invariant-fields
invariant-fields l = row_is_printable (take l.place (fields_of l.row)) ≡ true
