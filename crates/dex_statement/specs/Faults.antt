-- The faults of rows, by number.
use Rattle.std.specs.Prelude.{ℕ, Bool, if◌then◌else◌, Option, Some, None, Result, Ok, Err}
use Rattle.dex_statement.specs.declared.faults.FaultKind.{FaultKind}
use Rattle.dex_statement.specs.declared.faults.FaultKind.TheVariants.{BadCsv, UnknownRow, FieldCount, BadNumber, BadLabel, UnknownLabel, Duplicate, OverLimit, SetupRefused, BadSwap, NoBatch}
use Rattle.dex_statement.specs.declared.faults.SetupCode.{SetupCode}
use Rattle.dex_statement.specs.declared.faults.SetupCode.TheVariants.{Late, Decimals, Supply, OneMint, Data, Capacity, Program}

-- the number of a setup code
abbrev pub code_number : SetupCode → ℕ
code_number Late = 1
code_number Decimals = 2
code_number Supply = 3
code_number OneMint = 4
code_number Data = 5
code_number Capacity = 6
code_number Program = 7

-- the number of a kind
abbrev pub kind_number : FaultKind → ℕ
kind_number BadCsv = 1
kind_number UnknownRow = 2
kind_number FieldCount = 3
kind_number BadNumber = 4
kind_number BadLabel = 5
kind_number UnknownLabel = 6
kind_number Duplicate = 7
kind_number OverLimit = 8
kind_number (SetupRefused code) = 9
kind_number BadSwap = 10
kind_number NoBatch = 11

-- the setup code after a kind, 0 where it has none
abbrev pub code_of : FaultKind → ℕ
code_of (SetupRefused code) = code_number code
code_of _ = 0

-- goes on with what was found, or stops with the fault
infixl 10 ◌>>=◌
abbrev pub ◌>>=◌ : {A B E : Type 0} → Result A E → (A → Result B E) → Result B E
(Ok x) >>= next = next x
(Err e) >>= next = Err e

-- what was found, or else the fault
abbrev pub found_or : {A : Type 0} → Option A → FaultKind → Result A FaultKind
found_or (Some x) kind = Ok x
found_or None kind = Err kind

-- goes on where the test fails, and stops with the fault where it holds
abbrev pub unless : {A : Type 0} → Bool → FaultKind → Result A FaultKind → Result A FaultKind
unless test kind next = if test then Err kind else next
