-- What the answer of a call about a row tells, without its buffers.
use Rattle.std.specs.Prelude.{◌≡◌, ℕ, Bool, true, false, List, Some, Result, Ok, Err}
use Rattle.dex_types.specs.declared.account_bytes.Accounts.{Accounts}
use Rattle.dex_types.specs.Accounts.{accounts_of}
use Rattle.dex_types.specs.declared.limits.Limits.{Limits}
use Rattle.dex_dump.specs.declared.reading.Reading.{Reading}
use Rattle.dex_dump.specs.declared.checks.Failed.{Failed}
use Rattle.dex_dump.specs.declared.reading.Stop.{Stop}
use Rattle.dex_dump.specs.declared.reading.Stop.TheVariants as stop
use Rattle.dex_dump.specs.declared.faults.DumpError.{DumpError}
use Rattle.dex_dump.specs.declared.faults.DumpError.TheVariants as dump
use Rattle.dex_dump.specs.declared.reader.DumpRead.{DumpRead}
use Rattle.dex_dump.specs.Answers.{Adds, Answers, AnswersDump, AnswersText, Ends, PlainDump, stated}
use Rattle.dex_dump.specs.Checks.{AccountCheck, AllHold, FirstFails, checks}
use Rattle.dex_dump_rows.specs.Lines.{Fields, PlainLine}
use Rattle.dex_dump_rows.specs.Lines.PlainLine.{End}
use Rattle.dex_dump.specs.Reading.{PlainReading, after_line, start}

-- what was read
abbrev pub plain_reading : Reading → PlainReading
plain_reading reading = record { accounts = accounts_of reading.accounts; taken = reading.taken; limits = reading.limits }

-- all checks hold, or the first that fails is reported
abbrev pub TellsChecks : Result (Unit {0}) Failed → List AccountCheck → Type 0
TellsChecks (Ok _) checks = AllHold checks
TellsChecks (Err failed) checks = FirstFails checks failed.account failed.fault

-- the checks of a line hold and it is added, or the first that fails is reported. A lack of memory tells nothing
abbrev pub TakesLine : Result (Unit {0}) Stop → PlainReading → PlainReading → PlainLine → Type 0
TakesLine (Ok _) old new line = AllHold (checks old line) × (new ≡ after_line old line)
TakesLine (Err (stop.Failed failed)) old new line = FirstFails (checks old line) failed.account failed.fault
TakesLine (Err stop.NoMemory) old new line = Unit {0}

-- a row is added, or it is the last, or it is the first faulty one. A lack of memory tells nothing
abbrev pub TellsRow : Result Bool DumpError → ℕ → PlainReading → PlainReading → Fields → Type 0
TellsRow (Ok true) number old new row = (stated old row ≡ Some End) × (new ≡ old)
TellsRow (Ok false) number old new row = Adds old row new
TellsRow (Err (dump.Refused fault)) number old new row = (behind : List Fields) → Ends number old row behind (Err fault)
TellsRow (Err dump.NoMemory) number old new row = Unit {0}

-- what was read of a dump, with the rows that are left
abbrev pub plain_dump : DumpRead → List Fields → PlainDump
plain_dump read left = record { accounts = accounts_of read.accounts; count = read.count; behind = left }

-- the answer to the rows after the first is the definition's; a lack of memory tells nothing
abbrev pub TellsAccounts : Limits → Result DumpRead DumpError → List Fields → List Fields → Type 0
TellsAccounts limits (Ok read) rows left = Answers 2 (start limits) rows (Ok (plain_dump read left))
TellsAccounts limits (Err (dump.Refused fault)) rows left = Answers 2 (start limits) rows (Err fault)
TellsAccounts limits (Err dump.NoMemory) rows left = Unit {0}

-- the answer to the rows of a dump is the definition's; a lack of memory tells nothing
abbrev pub TellsDump : Limits → Result DumpRead DumpError → List Fields → List Fields → Type 0
TellsDump limits (Ok read) rows left = AnswersDump limits rows (Ok (plain_dump read left))
TellsDump limits (Err (dump.Refused fault)) rows left = AnswersDump limits rows (Err fault)
TellsDump limits (Err dump.NoMemory) rows left = Unit {0}

-- the answer to a text is the definition's; a lack of memory tells nothing
abbrev pub TellsText : Limits → Result Accounts DumpError → List ℕ → Type 0
TellsText limits (Ok accounts) text = AnswersText limits text (Ok (accounts_of accounts))
TellsText limits (Err (dump.Refused fault)) text = AnswersText limits text (Err fault)
TellsText limits (Err dump.NoMemory) text = Unit {0}
