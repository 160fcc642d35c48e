-- What a row asks of an open desk.
use Rattle.std.specs.Prelude.{◌≡◌, ℕ, ℤ, ◌^◌, ◌==◌, bytes_eq, codes, if◌then◌else◌, length, not, Result, Ok, Err}
use Rattle.dex_types.specs.declared.addresses.Address.{Address}
use Rattle.dex_rows.specs.Addresses.{address_of}
use Rattle.dex_rows.specs.Numbers.{number_of}
use Rattle.dex_statement.specs.declared.faults.FaultKind.{FaultKind}
use Rattle.dex_statement.specs.declared.faults.FaultKind.TheVariants.{BadLabel, BadNumber, FieldCount, SetupRefused}
use Rattle.dex_statement.specs.declared.faults.RowError.{RowError}
use Rattle.dex_statement.specs.declared.faults.RowError.TheVariants as row_error
use Rattle.dex_statement.specs.declared.faults.SetupCode.TheVariants as code
use Rattle.dex_statement.specs.declared.statement.Statement.{Statement}
use Rattle.dex_statement.specs.declared.statement.Statement.TheVariants as row
use Rattle.dex_statement.specs.Faults.{◌>>=◌, found_or, unless}
use Rattle.dex_statement.specs.Stated.{PlainInstruction, PlainSwap}
use Rattle.dex_statement.specs.Statements.{statement_of}
use Rattle.dex_statement.specs.Words.{Fields, field_at}
use Rattle.dex_desk.specs.declared.rows.Asked.{Asked}
use Rattle.dex_desk.specs.declared.rows.Asked.TheVariants as asked

-- an instruction, a swap, another clock, the prices of a market, or all accounts
pub data PlainAsked : Type 0 where
  Instructs : (words : PlainInstruction) → PlainAsked
  Swaps : (words : PlainSwap) → PlainAsked
  Sets : (now : ℤ) → PlainAsked
  Shows : (market : Address) (depth : ℕ) → PlainAsked
  Dumps : PlainAsked

-- `book,MARKET,DEPTH`
unfoldable pub book_of : Fields → Result PlainAsked FaultKind
book_of row = unless (not (length row == 3)) FieldCount (do
  depth ← found_or (number_of (2 ^ 32) (field_at row 2)) BadNumber
  market ← found_or (address_of (field_at row 1)) BadLabel
  Ok (Shows market depth))

-- `dump`
unfoldable pub dump_of : Fields → Result PlainAsked FaultKind
dump_of row = unless (not (length row == 1)) FieldCount (Ok Dumps)

-- what a row of a script asks; one that declares accounts or chooses the program comes too late
abbrev pub asks : Statement → Result PlainAsked FaultKind
asks (row.Instruction words) = Ok (Instructs words)
asks (row.Swap words) = Ok (Swaps words)
asks (row.Clock now) = Ok (Sets now)
asks (row.Program program) = Err (SetupRefused code.Program)
asks _ = Err (SetupRefused code.Late)

-- what a row of a script asks, by its statement
abbrev pub asked_by : Fields → Result PlainAsked FaultKind
asked_by row = statement_of row >>= asks

-- what a row asks, or the lowest fault that it has by itself
unfoldable pub asked_of : Fields → Result PlainAsked FaultKind
asked_of row =
    if bytes_eq (field_at row 0) (codes "book") then book_of row
    else (if bytes_eq (field_at row 0) (codes "dump") then dump_of row else asked_by row)

-- the answer of a call is what is meant, where an instruction's words stand in a buffer; want of memory tells nothing
abbrev pub TellsAsked : Result Asked RowError → PlainInstruction → Result PlainAsked FaultKind → Type 0
TellsAsked (Ok asked.Instruction) words meant = meant ≡ Ok (Instructs words)
TellsAsked (Ok (asked.Swap swap)) words meant = meant ≡ Ok (Swaps swap)
TellsAsked (Ok (asked.Clock now)) words meant = meant ≡ Ok (Sets now)
TellsAsked (Ok (asked.Book market depth)) words meant = meant ≡ Ok (Shows market depth)
TellsAsked (Ok asked.Dump) words meant = meant ≡ Ok Dumps
TellsAsked (Err (row_error.Fault kind)) words meant = meant ≡ Err kind
TellsAsked (Err row_error.NoMemory) words meant = Unit {0}
