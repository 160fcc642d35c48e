-- How a desk goes on: it takes rows, and lets those that were accepted act.
use Rattle.std.specs.Prelude.{◌≡◌, ℕ, ℤ, List, [], ◌∷◌, ◌++◌, Option, Some, None, Result, Ok, Err, codes, unsigned_abs}
use Rattle.std.specs.List.{flat_map}
use Rattle.dex_dump.specs.DumpText.{dump_text}
use Rattle.dex_refusal_lines.specs.Lines.{script_refused}
use Rattle.dex_report.specs.Report.{head_line}
use Rattle.dex_statement.specs.declared.faults.FaultKind.{FaultKind}
use Rattle.dex_statement.specs.declared.faults.FaultKind.TheVariants.{UnknownLabel}
use Rattle.dex_types.specs.declared.addresses.Address.{Address}
use Rattle.dex_types.specs.Accounts.{PlainMarketAccounts}
use Rattle.dex_statement.specs.Faults.{code_of, kind_number}
use Rattle.dex_statement.specs.Words.{Fields}
use Rattle.dex_desk.specs.Asking.{PlainAsked, asked_of}
use Rattle.dex_desk.specs.Asking.PlainAsked.{Dumps, Instructs, Sets, Shows, Swaps}
use Rattle.dex_desk.specs.Blocks.{PlainBlock, with_both, with_time, with_words}
use Rattle.dex_desk.specs.Books.{book_text, found_market}
use Rattle.dex_desk.specs.Replies.{Acted}

-- a row was taken, or, where none is told, the rows of the block acted; what was said to it; and what the block is then
pub record PlainStep : Type 0 where
  pub row : Option Fields
  pub said : List ℕ
  pub after : PlainBlock

-- what is said of a row with this fault
abbrev pub fault_line : PlainBlock → FaultKind → List ℕ
fault_line block kind = script_refused (record { row = block.number; kind = kind_number kind; code = code_of kind })

-- what is said of another clock
abbrev pub clock_line : ℤ → List ℕ
clock_line now = head_line (codes "clock") None (unsigned_abs now)

-- what is said of the book of a market that is here, or is not
abbrev pub shown_of : PlainBlock → ℕ → Option PlainMarketAccounts → List ℕ
shown_of block depth None = fault_line block UnknownLabel
shown_of block depth (Some accounts) = book_text depth accounts

-- what is said of the book of a market
abbrev pub shown : PlainBlock → Address → ℕ → List ℕ
shown block market depth = shown_of block depth (found_market market block.draft.script.start.markets)

-- the rows of the block acted, and were answered, and behind that this was said
pub record SaidBehind (before after : PlainBlock) (text said : List ℕ) : Type 0 where
  pub answers : List ℕ
  pub acted : Acted before after answers
  pub is : said ≡ answers ++ text

-- a row was added to the block, and is answered when it acts; or it has a fault, and then the block is left as it is
-- without it
abbrev pub Added : Result PlainBlock FaultKind → PlainBlock → PlainStep → Type 0
Added (Ok block) before step = (step.said ≡ []) × (step.after ≡ block)
Added (Err kind) before step = SaidBehind before step.after (fault_line before kind) step.said

-- a row that asks this was taken
abbrev pub TookBy : Result PlainAsked FaultKind → PlainBlock → PlainStep → Type 0
TookBy (Ok (Instructs words)) before step = Added (with_words before words) before step
TookBy (Ok (Swaps words)) before step = Added (with_both before words) before step
TookBy (Ok (Sets now)) before step =
    (between : PlainBlock) × SaidBehind before between (clock_line now) step.said × (step.after ≡ with_time between now)
TookBy (Ok (Shows market depth)) before step = SaidBehind before step.after (shown step.after market depth) step.said
TookBy (Ok Dumps) before step = SaidBehind before step.after (dump_text step.after.draft.script.start) step.said
TookBy (Err kind) before step = SaidBehind before step.after (fault_line before kind) step.said

-- a step of the desk
abbrev pub IsStepBy : Option Fields → PlainBlock → PlainStep → Type 0
IsStepBy None before step = Acted before step.after step.said
IsStepBy (Some row) before step = TookBy (asked_of row) before step

-- steps, one after the other
abbrev pub AreSteps : PlainBlock → List PlainStep → PlainBlock → Type 0
AreSteps before [] after = after ≡ before
AreSteps before (step ∷ steps) after = IsStepBy step.row before step × AreSteps step.after steps after

-- the row that a step took
abbrev pub told_row : Option Fields → List Fields
told_row None = []
told_row (Some row) = row ∷ []

abbrev pub row_taken : PlainStep → List Fields
row_taken step = told_row step.row

-- the rows that steps took
abbrev pub rows_taken : List PlainStep → List Fields
rows_taken steps = flat_map row_taken steps

-- what was said at them
abbrev pub text_said : List PlainStep → List ℕ
text_said steps = flat_map (λ (step : PlainStep). step.said) steps

-- a desk took these rows, and this was said meanwhile
pub record Went (rows : List Fields) (before after : PlainBlock) (old new : List ℕ) : Type 0 where
  pub steps : List PlainStep
  pub are : AreSteps before steps after
  pub taken : rows_taken steps ≡ rows
  pub said : new ≡ old ++ text_said steps

-- a block acted, and then this was said, behind a text
pub record SaidIn (before after : PlainBlock) (text old new : List ℕ) : Type 0 where
  pub said : List ℕ
  pub is : new ≡ old ++ said
  pub behind : SaidBehind before after text said

-- a block acted, and then its accounts were written, behind a text
abbrev pub SaysDump : PlainBlock → PlainBlock → List ℕ → List ℕ → Type 0
SaysDump before after old new = SaidIn before after (dump_text after.draft.script.start) old new
