-- What an answer unfolds to compute the words of this crate on a literal.
use Rattle.std.specs.Prelude.{⊤}
use Rattle.base64.proofs.OnLiterals.{base64_on_literals}
use Rattle.base64.specs.GeneralPurpose.{decoded_of}
use Rattle.csv.proofs.OnLiterals.{csv_on_literals}
use Rattle.hex.proofs.OnLiterals.{hex_on_literals}
use Rattle.dex_rows.specs.Addresses.{address_of, digits_address, role_of}
use Rattle.dex_rows.specs.Base64.{base64_of}
use Rattle.dex_rows.specs.Numbers.{is_numeral, number_of}
use Rattle.dex_rows.specs.Printable.{is_printable, row_is_printable}
use Rattle.dex_rows.specs.Records.{rows_of}

unfoldable pub rows_on_literals : ⊤
unfolding csv_on_literals base64_on_literals hex_on_literals decoded_of rows_of is_numeral number_of digits_address address_of role_of base64_of is_printable row_is_printable
rows_on_literals = tt
