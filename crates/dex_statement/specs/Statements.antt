-- What a row states by itself, or the lowest fault that it has by itself.
use Rattle.std.specs.Prelude.{◌^◌, not, ◌==◌, length, Result, Ok}
use Rattle.dex_rows.specs.Base64.{base64_of}
use Rattle.dex_rows.specs.Numbers.{number_of}
use Rattle.dex_rows.specs.Printable.{row_is_printable}
use Rattle.dex_statement.specs.declared.faults.FaultKind.{FaultKind}
use Rattle.dex_statement.specs.declared.faults.FaultKind.TheVariants.{BadCsv, UnknownRow, FieldCount, BadNumber}
use Rattle.dex_statement.specs.declared.forms.Form.{Form}
use Rattle.dex_statement.specs.declared.forms.Form.TheVariants as form
use Rattle.dex_statement.specs.declared.statement.Statement.{Statement}
use Rattle.dex_statement.specs.declared.statement.Statement.TheVariants.{Srm, Msrm, Market, Instruction, Swap}
use Rattle.dex_statement.specs.Faults.{◌>>=◌, found_or, unless}
use Rattle.dex_statement.specs.Forms.{form_of}
use Rattle.dex_statement.specs.OrderWords.{data_of}
use Rattle.dex_statement.specs.Parties.{parties_of}
use Rattle.dex_statement.specs.Setup.{program_of, clock_of, mint_of, discount_of, wallet_of, market_of, orders_of}
use Rattle.dex_statement.specs.Stated.{PlainInstruction}
use Rattle.dex_statement.specs.Swaps.{swap_row}
use Rattle.dex_statement.specs.Words.{Fields, field_at, words_of}

-- `ix,LANE,MARKET,SIGNER,NAMED,COIN,PC,DISCOUNT,REFERRER,DATA`, with the instruction's bytes in base64
unfoldable pub bytes_row : Fields → Result PlainInstruction FaultKind
bytes_row row = unless (not (length row == 10)) FieldCount (do
  lane ← found_or (number_of (2 ^ 32) (field_at row 1)) BadNumber
  bytes ← found_or (base64_of (field_at row 9)) BadNumber
  parties ← parties_of row
  Ok (record { lane = lane; parties = parties; bytes = bytes }))

-- `do` with the same fields, and the instruction in words
unfoldable pub words_row : Fields → Result PlainInstruction FaultKind
words_row row = unless (not (length row == 10)) FieldCount (do
  bytes ← data_of (words_of (field_at row 9))
  lane ← found_or (number_of (2 ^ 32) (field_at row 1)) BadNumber
  parties ← parties_of row
  Ok (record { lane = lane; parties = parties; bytes = bytes }))

-- what a row of a form states
abbrev pub stated : Form → Fields → Result Statement FaultKind
stated form.Program row = program_of row
stated form.Clock row = clock_of row
stated form.Mint row = mint_of row
stated form.Srm row = discount_of row >>= λ mint. Ok (Srm mint)
stated form.Msrm row = discount_of row >>= λ mint. Ok (Msrm mint)
stated form.Wallet row = wallet_of row
stated form.Orders row = orders_of row
stated form.Market row = market_of row >>= λ words. Ok (Market words)
stated form.Bytes row = bytes_row row >>= λ words. Ok (Instruction words)
stated form.Words row = words_row row >>= λ words. Ok (Instruction words)
stated form.Swap row = swap_row row >>= λ words. Ok (Swap words)

-- what a row states, or the lowest fault that it has by itself
unfoldable pub statement_of : Fields → Result Statement FaultKind
statement_of row =
    unless (not (row_is_printable row)) BadCsv (found_or (form_of (field_at row 0)) UnknownRow >>= λ form. stated form row)
