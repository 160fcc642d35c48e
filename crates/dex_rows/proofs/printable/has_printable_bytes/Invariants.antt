use Rattle.std.proofs.Common.{◌≡◌, take}
use Rattle.std.specs.List.{list_all}
use Rattle.dex_rows.specs.Printable.{is_printable_byte}
use Rattle.dex_rows.proofs.printable.has_printable_bytes.Given as goal

abbrev pub invariant-bytes : goal.invariant-bytes
invariant-bytes l = l.all ≡ list_all is_printable_byte (take l.place l.text)
