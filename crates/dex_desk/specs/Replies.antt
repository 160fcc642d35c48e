-- What rows are answered: the entries of their markets' journals.
use Rattle.std.specs.Prelude.{◌≡◌, ◌⊎◌, ℕ, ◌≤◌, ◌==◌, List, [], ◌++◌, length, Option, Some}
use Rattle.std.specs.List.{flat_map}
use Rattle.dex_types.specs.declared.movements.Entry.{Entry}
use Rattle.dex_types.specs.Addresses.{is_same}
use Rattle.dex_types.specs.Rows.{PlainRow}
use Rattle.dex_replay.specs.Replays.{IsReplayOf}
use Rattle.dex_replay.specs.Runs.{IsRunOf}
use Rattle.dex_state.specs.Outcomes.{PlainMarketJournal, PlainOutcome}
use Rattle.dex_report.specs.Report.{entry_line}
use Rattle.dex_script_types.specs.Firsts.{first_of}
use Rattle.dex_desk.specs.Blocks.{PlainBlock, no_rows_of}

-- the line of an entry, where there is one
abbrev pub line_told : Option (Option Entry) → List ℕ
line_told (Some (Some entry)) = entry_line entry
line_told _ = []

-- the entry of the row of this number
abbrev pub entry_of : ℕ → List Entry → Option Entry
entry_of number entries = first_of (λ (entry : Entry). entry.row == number) (λ (entry : Entry). entry) entries

-- what a row is answered: the line of the entry that has its number, in its market's journal
abbrev pub answer_to : List PlainMarketJournal → PlainRow → List ℕ
answer_to journals row = line_told
    (first_of (λ (journal : PlainMarketJournal). is_same row.market journal.address)
    (λ journal. entry_of row.number journal.entries) journals)

-- what rows are answered, one after the other
abbrev pub answers_to : List PlainMarketJournal → List PlainRow → List ℕ
answers_to journals rows = flat_map (answer_to journals) rows

-- the rows of a block acted, one at least, as a replay of them, and were answered by their entries there; what is left
-- is a block without rows, of the accounts that they leave
pub record HaveActed (before after : PlainBlock) (said : List ℕ) : Type 0 where
  pub some : 1 ≤ length before.draft.script.rows
  pub outcome : PlainOutcome
  pub replay : IsReplayOf before.draft.script outcome
  pub run : IsRunOf before.draft.script outcome
  pub told : said ≡ answers_to outcome.markets before.draft.script.rows
  pub left :
      after ≡ record {
        draft = no_rows_of outcome.accounts before.draft.script.program before.draft.clock;
        number = before.number;
      }

-- there was no row, and nothing was said
pub record HadNone (before after : PlainBlock) (said : List ℕ) : Type 0 where
  pub none : before.draft.script.rows ≡ []
  pub same : after ≡ before
  pub quiet : said ≡ []

-- a block acted
abbrev pub Acted : PlainBlock → PlainBlock → List ℕ → Type 0
Acted before after said = HadNone before after said ⊎ HaveActed before after said

-- a block acted, and what was said stands behind a text
pub record ActedIn (before after : PlainBlock) (old new : List ℕ) : Type 0 where
  pub said : List ℕ
  pub text : new ≡ old ++ said
  pub acted : Acted before after said
