-- A block: rows that were accepted, and have not acted yet. It is a script so far, of the accounts that the blocks
-- before it left.
use Rattle.std.specs.Prelude.{◌≡◌, ℕ, ◌≤◌, ◌-◌, ◌^◌, ℤ, true, false, List, [], Result, Ok, Err}
use Rattle.dex_types.specs.declared.limits.TheConstants.{WIDE}
use Rattle.dex_types.specs.declared.terms.Program.{Program}
use Rattle.dex_types.specs.Accounts.{PlainAccounts}
use Rattle.dex_statement.specs.declared.faults.FaultKind.{FaultKind}
use Rattle.dex_statement.specs.declared.faults.RowError.{RowError}
use Rattle.dex_statement.specs.declared.faults.RowError.TheVariants as row_error
use Rattle.dex_statement.specs.Faults.{◌>>=◌}
use Rattle.dex_statement.specs.Stated.{PlainInstruction, PlainSwap}
use Rattle.dex_statement.specs.Words.{Fields}
use Rattle.dex_script_types.specs.Facts.{IsStart}
use Rattle.dex_script.specs.Drafts.{PlainDraft}
use Rattle.dex_dump.specs.Answers.{next_number}
use Rattle.dex_script.specs.Pieces.{number_after}
use Rattle.dex_script.specs.Rows.{with_clock, with_instruction, with_swap}
use Rattle.dex_script.specs.Scripts.{draft_after}

-- a block, and the number of the next row
pub record PlainBlock : Type 0 where
  pub draft : PlainDraft
  pub number : ℕ

-- of these accounts, under this program and clock, no row was accepted yet
abbrev pub no_rows_of : PlainAccounts → Program → ℤ → PlainDraft
no_rows_of start program clock = record {
  script = record { start = start; rows = []; lanes = 1; program = program; limits = WIDE };
  taken = [];
  clock = clock;
  is_first = false;
  is_late = true;
  items = 0;
  batch = false;
}

-- the rows of a block were accepted one after the other, as those of a script are that starts with its accounts
pub record IsBlock (block : PlainBlock) : Type 0 where
  pub first : ℕ
  pub clock : ℤ
  pub rows : List Fields
  pub small : first ≤ 2 ^ 32 - 1
  pub read :
      draft_after (no_rows_of block.draft.script.start block.draft.script.program clock) first rows ≡ Ok block.draft
  pub next : block.number ≡ number_after first rows
  pub start : IsStart WIDE block.draft.script.start

-- the block behind a row that left this draft
abbrev pub behind_row : PlainBlock → PlainDraft → Result PlainBlock FaultKind
behind_row block draft = Ok (record { draft = draft; number = next_number block.number })

-- the block with an instruction row more, or what is wrong with the row behind the others
abbrev pub with_words : PlainBlock → PlainInstruction → Result PlainBlock FaultKind
with_words block words = with_instruction block.draft block.number words >>= behind_row block

-- the block with a swap more, or what is wrong with the row behind the others
abbrev pub with_both : PlainBlock → PlainSwap → Result PlainBlock FaultKind
with_both block words = with_swap block.draft block.number words >>= behind_row block

-- the block behind a `clock` row
abbrev pub with_time : PlainBlock → ℤ → PlainBlock
with_time block now = record { draft = with_clock block.draft now; number = next_number block.number }

-- behind a row that was accepted a block is so, behind one with a fault it is as it was; want of memory leaves it too
abbrev pub TellsRow : Result (Unit {0}) RowError → PlainBlock → PlainBlock → Result PlainBlock FaultKind → Type 0
TellsRow (Ok done) old new meant = meant ≡ Ok new
TellsRow (Err (row_error.Fault kind)) old new meant = (meant ≡ Err kind) × (new ≡ old)
TellsRow (Err row_error.NoMemory) old new meant = new ≡ old
