-- What reading the rows of a dump answers: the accounts, or the first faulty row with its lowest fault.
use Rattle.std.specs.Prelude.{◌≡◌, ℕ, ◌+◌, ◌^◌, ◌-◌, min, true, false, ◌⊎◌, ◌↔◌, if◌then◌else◌, List, [], ◌∷◌, Option, Some, None, Result, Ok, Err}
use Rattle.dex_types.specs.declared.addresses.Address.{Address}
use Rattle.dex_types.specs.declared.faults.AccountFault.{AccountFault}
use Rattle.dex_types.specs.Accounts.{PlainAccounts}
use Rattle.dex_rows.specs.Records.{rows_of}
use Rattle.dex_types.specs.declared.limits.Limits.{Limits}
use Rattle.dex_dump.specs.declared.faults.DumpFault.{DumpFault}
use Rattle.dex_dump.specs.Checks.{AllHold, FirstFails, checks}
use Rattle.dex_dump_rows.specs.Lines.{Fields, PlainLine, is_first_row, line_of}
use Rattle.dex_dump_rows.specs.Lines.PlainLine.{End}
use Rattle.dex_dump.specs.Reading.{PlainReading, after_line, is_allowed, start}

-- what a dump's rows say: the accounts, how many rows they are, and the rows after them
pub record PlainDump : Type 0 where
  pub accounts : PlainAccounts
  pub count : ℕ
  pub behind : List Fields

-- what reading a dump's rows answers: what they say, or the first fault
abbrev pub PlainAnswer : Type 0
PlainAnswer = Result PlainDump DumpFault

-- the number of the row after one; numbers from the largest u32 on are reported as that
abbrev pub next_number : ℕ → ℕ
next_number number = min (number + 1) (2 ^ 32 - 1)

-- kind 1: a row that is none of a dump, or the want of the last row
abbrev pub grammar_fault : ℕ → DumpFault
grammar_fault row = record { row = row; account = None; fault = record { kind = 1; place = 0; found = 0; wanted = 0 } }

-- a fault of an account of a row
abbrev pub fault_in : ℕ → Address → AccountFault → DumpFault
fault_in row account fault = record { row = row; account = Some account; fault = fault }

-- what a row states, if a dump may have it after what was read
abbrev pub if_allowed : PlainReading → Option PlainLine → Option PlainLine
if_allowed reading None = None
if_allowed reading (Some line) = if is_allowed reading line then Some line else None

-- what this row states, if a dump may have it after what was read
abbrev pub stated : PlainReading → Fields → Option PlainLine
stated reading row = if_allowed reading (line_of row)

-- a row that adds to what was read: its accounts pass all checks
pub record Adds (reading : PlainReading) (row : Fields) (behind : PlainReading) : Type 0 where
  pub line : PlainLine
  pub states : stated reading row ≡ Some line
  pub goes_on : line ≡ End → ⊥
  pub hold : AllHold (checks reading line)
  pub adds : behind ≡ after_line reading line

-- a row at which reading ends: the last, one that is none of a dump, or one with an account that fails a check
pub data Ends (number : ℕ) (reading : PlainReading) (row : Fields) (behind : List Fields) (answer : PlainAnswer) : Type 0 where
  AtEnd : stated reading row ≡ Some End → answer ≡ Ok (record { accounts = reading.accounts; count = number; behind = behind })
      → Ends number reading row behind answer
  AtRow : stated reading row ≡ None → answer ≡ Err (grammar_fault number) → Ends number reading row behind answer
  AtAccount : (line : PlainLine) → stated reading row ≡ Some line → (account : Address) (fault : AccountFault)
      → FirstFails (checks reading line) account fault → answer ≡ Err (fault_in number account fault)
      → Ends number reading row behind answer

-- what the rows from this number on answer, after what was read
abbrev pub Answers : ℕ → PlainReading → List Fields → PlainAnswer → Type 0
Answers number reading [] answer = answer ≡ Err (grammar_fault number)
Answers number reading (row ∷ rows) answer =
    Ends number reading row rows answer
    ⊎ ((next : PlainReading) × Adds reading row next × Answers (next_number number) next rows answer)

-- what the rows of a dump within these limits answer, and what stands after it
abbrev pub AnswersDump : Limits → List Fields → PlainAnswer → Type 0
AnswersDump limits [] answer = answer ≡ Err (grammar_fault 1)
AnswersDump limits (row ∷ rows) answer =
    ((is_first_row row ≡ true) × Answers 2 (start limits) rows answer) ⊎ ((is_first_row row ≡ false) × (answer ≡ Err (grammar_fault 1)))

-- the accounts, unless a row stands after them
abbrev pub if_over : PlainDump → List Fields → Result PlainAccounts DumpFault
if_over dump [] = Ok dump.accounts
if_over dump (row ∷ rows) = Err (grammar_fault (next_number dump.count))

-- nothing stands after a dump
abbrev pub with_end : PlainAnswer → Result PlainAccounts DumpFault
with_end (Err fault) = Err fault
with_end (Ok dump) = if_over dump dump.behind

-- a text that is a dump within these limits, and nothing else: its accounts, or the first faulty row
abbrev pub AnswersText : Limits → List ℕ → Result PlainAccounts DumpFault → Type 0
AnswersText limits text answer = (dump : PlainAnswer) × AnswersDump limits (rows_of text) dump × (answer ≡ with_end dump)

-- a text that is read within these limits as these accounts, and as nothing else
abbrev pub IsReadAs : Limits → List ℕ → PlainAccounts → Type 0
IsReadAs limits text accounts =
    (answer : Result PlainAccounts DumpFault) → AnswersText limits text answer ↔ (answer ≡ Ok accounts)

-- rows of which the first are read as these accounts, and as nothing else, and the others stand after them
abbrev pub AreReadAs : Limits → List Fields → PlainAccounts → List Fields → Type 0
AreReadAs limits rows accounts behind =
    (count : ℕ) × ((answer : PlainAnswer) → AnswersDump limits rows answer ↔ (answer ≡ Ok (record { accounts = accounts; count = count; behind = behind })))
