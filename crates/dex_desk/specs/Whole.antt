-- A session as one replay: of its set-up's script, and behind it of the rows that were accepted and have acted.
use Rattle.std.specs.Prelude.{◌≡◌, ◌⊎◌, ℕ, true, false, All, List, [], ◌∷◌, ◌++◌, map}
use Rattle.std.specs.Prelude.{Option, Some, None, Result, Ok, Err}
use Rattle.std.specs.List.{flat_map}
use Rattle.dex_types.specs.declared.terms.Program.{Program}
use Rattle.dex_types.specs.Accounts.{PlainAccounts}
use Rattle.dex_types.specs.Rows.{PlainRow}
use Rattle.dex_types.specs.declared.limits.TheConstants.{WIDE}
use Rattle.dex_answers.specs.Answers.{IsNoScript}
use Rattle.dex_answers.specs.declared.status.Status.{Status}
use Rattle.dex_dump.specs.DumpText.{dump_text}
use Rattle.dex_parts.specs.Chains.{outcome_behind}
use Rattle.dex_replay.specs.Replays.{IsReplayOf}
use Rattle.dex_rows.specs.Records.{rows_of}
use Rattle.dex_script.specs.Rows.{instruction_row}
use Rattle.dex_script_types.specs.PlainScript.{PlainScript}
use Rattle.dex_state.specs.Outcomes.{PlainOutcome}
use Rattle.dex_statement.specs.declared.faults.FaultKind.{FaultKind}
use Rattle.dex_statement.specs.Stated.{leg_words}
use Rattle.dex_statement.specs.Words.{Fields}
use Rattle.dex_desk.specs.declared.ends.Over.{Over}
use Rattle.dex_desk.specs.declared.ends.Over.TheVariants as over
use Rattle.dex_desk.specs.Asking.{PlainAsked, asked_of}
use Rattle.dex_desk.specs.Asking.PlainAsked.{Instructs, Swaps}
use Rattle.dex_desk.specs.Blocks.{PlainBlock, with_both, with_words}
use Rattle.dex_desk.specs.Replies.{answers_to}
use Rattle.dex_desk.specs.SetUps.{IsOpened}
use Rattle.dex_desk.specs.Steps.{PlainStep, Went, text_said}
use Rattle.dex_desk.specs.Talks.{HasNoEnd, Session, is_opening, last_line, open_line}
use Rattle.dex_desk.specs.Talks.Session.{Closes, Ended, Serves, Sets}
use Rattle.dex_desk.specs.Turns.{Turn}
use Rattle.dex_desk.specs.Turns.Turn.{Heard, Said}

-- rows that acted together, as a script, and what they left
pub record PlainPart : Type 0 where
  pub script : PlainScript
  pub outcome : PlainOutcome

-- the rows of all parts
abbrev pub rows_in : List PlainPart → List PlainRow
rows_in parts = flat_map (λ (part : PlainPart). part.script.rows) parts

-- what the rows of a part are answered: the lines of their entries
abbrev pub answers_in : PlainPart → List ℕ
answers_in part = answers_to part.outcome.markets part.script.rows

-- each part is replayed, under this program, and starts with the accounts that the one before left; the first with
-- these
abbrev pub AreLinked : Program → PlainAccounts → List PlainPart → Type 0
AreLinked program accounts [] = Unit {0}
AreLinked program accounts (part ∷ parts) =
    (part.script.start ≡ accounts) × (part.script.program ≡ program) × IsReplayOf part.script part.outcome
    × AreLinked program part.outcome.accounts parts

-- what is left behind all parts, each journal behind those before
abbrev pub left_in : PlainOutcome → List PlainPart → PlainOutcome
left_in before [] = before
left_in before (part ∷ parts) = left_in (outcome_behind before part.outcome) parts

-- a script with more rows
abbrev pub with_rows : PlainScript → List PlainRow → PlainScript
with_rows script rows = record script { rows = script.rows ++ rows }

-- these stand in a text, one behind the other
abbrev pub AreAmong : List (List ℕ) → List ℕ → Type 0
AreAmong [] text = Unit {0}
AreAmong (piece ∷ pieces) text = (front rest : List ℕ) × (text ≡ front ++ (piece ++ rest)) × AreAmong pieces rest

-- ---- what was heard

-- a line with its end
abbrev pub ended : List ℕ → List ℕ
ended line = line ++ 10 ∷ []

-- a set-up, the line `open` behind it, and what was told of it
pub record PlainRefused : Type 0 where
  pub set_up : List ℕ
  pub line : List ℕ
  pub told : List ℕ

-- it is no script
abbrev pub IsRefused : PlainRefused → Type 0
IsRefused one = (is_opening one.line ≡ true) × (status : Status) × IsNoScript WIDE false one.set_up status one.told

-- set-ups were heard that are none, one behind the other, and nothing was said but why
pub record HasRefused (heard said : List ℕ) : Type 0 where
  pub refused : List PlainRefused
  pub are : All IsRefused refused
  pub text : heard ≡ flat_map (λ (one : PlainRefused). one.set_up ++ ended one.line) refused
  pub told : said ≡ flat_map (λ (one : PlainRefused). one.told) refused

-- all that was heard, the part of it of which no whole line was taken, and the rows of this part that were taken
pub record PlainHeard : Type 0 where
  pub text : List ℕ
  pub rest : List ℕ
  pub more : List Fields

-- this was heard: set-ups that are none, then this set-up, the line `open`, these lines, and this rest
pub record IsHeard (text set_up : List ℕ) (lines : List (List ℕ)) (rest : List ℕ) : Type 0 where
  pub before : List ℕ
  pub told : List ℕ
  pub refused : HasRefused before told
  pub line : List ℕ
  pub opening : is_opening line ≡ true
  pub whole : All HasNoEnd lines
  pub is : text ≡ before ++ (set_up ++ (ended line ++ (flat_map ended lines ++ rest)))

-- ---- what was accepted

-- these rows where a block takes them, and none where it says what is wrong
abbrev pub where_taken : Result PlainBlock FaultKind → List PlainRow → List PlainRow
where_taken (Ok after) rows = rows
where_taken (Err kind) rows = []

-- the rows that a block accepts of one that asks this, with its number and its clock: an instruction's, or those of
-- both legs of a swap
abbrev pub accepted_by : PlainBlock → Result PlainAsked FaultKind → List PlainRow
accepted_by block (Ok (Instructs words)) =
    where_taken (with_words block words) (instruction_row block.number block.draft.clock words ∷ [])
accepted_by block (Ok (Swaps words)) =
    where_taken (with_both block words)
    (instruction_row block.number block.draft.clock (leg_words words.lane words.signer words.first)
    ∷ instruction_row block.number block.draft.clock (leg_words words.lane words.signer words.second) ∷ [])
accepted_by block _ = []

abbrev pub accepted_of : PlainBlock → Option Fields → List PlainRow
accepted_of block None = []
accepted_of block (Some row) = accepted_by block (asked_of row)

-- the rows that were accepted in steps: those that their block took. Any other row was answered by its fault, or asked
-- for none
abbrev pub accepted_in : PlainBlock → List PlainStep → List PlainRow
accepted_in block [] = []
accepted_in block (step ∷ steps) = accepted_of block step.row ++ accepted_in step.after steps

-- ---- one replay

-- a desk was opened over the set-up that was heard, and took the rows that were heard behind it, each in its step; this
-- block is left, and what was said is all that was said of refused set-ups, of this one, and at these steps
pub record HasTaken (heard : PlainHeard) (block : PlainBlock) (said : List ℕ) : Type 0 where
  pub set_up : List ℕ
  pub lines : List (List ℕ)
  pub is : IsHeard heard.text set_up lines heard.rest
  pub begin : PlainBlock
  pub opened : IsOpened set_up begin
  pub went : Went (flat_map rows_of lines ++ heard.more) begin block (is.told ++ open_line begin.number) said

-- the rows that were accepted acted in parts, but for those of the block, which are still to act; what the parts leave
-- together is a replay of all their rows behind the set-up's script, and has the block's accounts; and the answers of
-- each part stand in what was said at the steps
pub record IsOneReplay (heard : PlainHeard) (block : PlainBlock) (said : List ℕ) : Type 0 where
  pub taken : HasTaken heard block said
  pub parts : List PlainPart
  pub accepted : rows_in parts ++ block.draft.script.rows ≡ accepted_in taken.begin taken.went.steps
  pub links : AreLinked taken.opened.script.program taken.opened.outcome.accounts parts
  pub replay :
      IsReplayOf (with_rows taken.opened.script (rows_in parts)) (left_in taken.opened.outcome parts)
  pub left : block.draft.script.start ≡ (left_in taken.opened.outcome parts).accounts
  pub told : AreAmong (map answers_in parts) (text_said taken.went.steps)

-- what turns heard
abbrev pub heard_in : List Turn → List ℕ
heard_in [] = []
heard_in (Heard bytes ∷ turns) = bytes ++ heard_in turns
heard_in (Said bytes ∷ turns) = heard_in turns

-- what turns said
abbrev pub said_in : List Turn → List ℕ
said_in [] = []
said_in (Heard bytes ∷ turns) = said_in turns
said_in (Said bytes ∷ turns) = bytes ++ said_in turns

-- the rows that are taken of the last line: where the input has ended all of them, and else none
abbrev pub last_rows : Over → List ℕ → List Fields
last_rows over.Input rest = rows_of rest
last_rows _ rest = []

-- no desk was opened; or all rows have acted and the accounts were said behind the answers. The last line is the end's
abbrev pub HasEnded : Over → List ℕ → List ℕ → Type 0
HasEnded why heard said =
    ((before rest old : List ℕ) × HasRefused before old × (heard ≡ before ++ rest) × (said ≡ old ++ last_line why))
    ⊎ ((rest old : List ℕ) × (block : PlainBlock)
    × IsOneReplay (record { text = heard; rest = rest; more = last_rows why rest }) block old
    × (block.draft.script.rows ≡ []) × (said ≡ (old ++ dump_text block.draft.script.start) ++ last_line why))

-- a session that heard this and said this is one replay, where a desk is open, and where its session is over; for want
-- of memory nothing is told
abbrev pub IsWhole : Session → List ℕ → List ℕ → Type 0
IsWhole (Sets kept text) heard said = (before : List ℕ) × HasRefused before said × (heard ≡ before ++ (kept ++ text))
IsWhole (Serves block text) heard said =
    IsOneReplay (record { text = heard; rest = text; more = [] }) block said
IsWhole (Closes block text) heard said =
    IsOneReplay (record { text = heard; rest = text; more = [] }) block said
IsWhole (Ended over.NoMemory) heard said = Unit {0}
IsWhole (Ended why) heard said = HasEnded why heard said
