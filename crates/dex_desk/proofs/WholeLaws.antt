-- A session is one replay.
use Rattle.std.proofs.Common.{◌≡◌, ◌∙◌, ◌==◌, ◌+◌, ◌-◌, ◌^◌, ◌<◌, ◌≤◌, ⊎_elim, ℕ, ℤ, Bool, true, false, nat_le, All, List, [], ◌∷◌, ◌++◌, None, Option, Some, Result, Ok, Err, ap, append_assoc, arith, inl, inr, map, refl, subst, sym}
use Rattle.std.specs.List.{flat_map}
use Rattle.std.proofs.lemmas.Bool.{eqb-false, eqb-true}
use Rattle.std.proofs.lemmas.List.{append-nil, map-append}
use Rattle.std.proofs.lemmas.List.Concat.{flat_map-append}
use Rattle.std.proofs.lemmas.List.Elements.{All-append, All-nil, All-push, All-weaker}
use Rattle.dex_types.specs.declared.limits.TheConstants.{WIDE}
use Rattle.dex_types.specs.declared.terms.Program.{Program}
use Rattle.dex_types.specs.Rows.{PlainRow}
use Rattle.dex_rows.specs.Records.{rows_of}
use Rattle.dex_audit.specs.Findings.{findings}
use Rattle.dex_audit_rules.specs.declared.finding.Finding.{Finding}
use Rattle.dex_dump.specs.Answers.{Answers, AnswersDump, Ends, PlainAnswer, PlainDump, next_number}
use Rattle.dex_dump.specs.Answers.Ends.{AtAccount, AtEnd, AtRow}
use Rattle.dex_dump.specs.DumpText.{dump_text}
use Rattle.dex_dump.specs.Reading.{PlainReading, start}
use Rattle.dex_statement.specs.declared.faults.FaultKind.{FaultKind}
use Rattle.dex_statement.specs.Stated.{PlainInstruction, PlainSwap}
use Rattle.dex_statement.specs.Words.{Fields}
use Rattle.dex_parts.specs.Chains.{AreTwoParts, IsCut, outcome_behind}
use Rattle.dex_parts.proofs.ChainLaws.{two-are-one}
use Rattle.dex_replay.specs.Replays.{IsReplayOf}
use Rattle.dex_script.specs.Drafts.{PlainDraft, behind_dump, no_rows}
use Rattle.dex_script.specs.Pieces.{number_after}
use Rattle.dex_script.specs.Rows.{instruction_row, is_full, with_instruction, with_item, with_row, with_swap}
use Rattle.dex_script.specs.Scripts.{AnswersBy, ReadsWithin, Refusal, begins_with_dump, behind, draft_after, script_from, unless_found}
use Rattle.dex_script.proofs.FaultLaws.{bind-ok, ok-same, or-none}
use Rattle.dex_script.proofs.ItemRows.{first_leg, instruction-row, second_leg, swap-row}
use Rattle.dex_script.proofs.OrderLaws.{by-row, first-row, last_script, read-limits}
use Rattle.dex_script_types.specs.PlainScript.{PlainScript}
use Rattle.dex_state.specs.Outcomes.{PlainOutcome}
use Rattle.dex_desk.specs.declared.ends.Over.{Over}
use Rattle.dex_desk.specs.declared.ends.Over.TheVariants as over
use Rattle.dex_desk.specs.Asking.{PlainAsked, asked_of}
use Rattle.dex_desk.specs.Asking.PlainAsked.{Dumps, Instructs, Sets as SetsTime, Shows, Swaps}
use Rattle.dex_desk.specs.Blocks.{PlainBlock, behind_row, with_both, with_time, with_words}
use Rattle.dex_desk.specs.Replies.{Acted, ActedIn, HadNone, HaveActed}
use Rattle.dex_desk.specs.SetUps.{IsOpened}
use Rattle.dex_desk.specs.Steps.{Added, AreSteps, IsStepBy, PlainStep, SaidBehind, SaysDump, TookBy, Went, text_said}
use Rattle.dex_desk.specs.Talks.{Does, DoesAll, DoesBy, EndsWell, HasNoEnd, IsListening, Session, Stops, StopsBy, Talk, Talks, first, heard, last_line, is_opening, open_line}
use Rattle.dex_desk.specs.Talks.Session.{Closes, Ended, Serves, Sets}
use Rattle.dex_desk.specs.Turns.{Turn}
use Rattle.dex_desk.specs.Turns.Turn.{Heard, Said}
use Rattle.dex_desk.specs.Whole.{AreAmong, AreLinked, HasEnded, HasRefused, HasTaken, IsHeard, IsOneReplay, IsRefused, IsWhole, PlainHeard, PlainPart, PlainRefused, accepted_by, accepted_in, accepted_of, answers_in, ended, heard_in, last_rows, left_in, rows_in, said_in, where_taken, with_rows}
use Rattle.dex_desk.proofs.BlockLaws.{number-small}
use Rattle.dex_desk.proofs.StepLaws.{went-acted, went-behind, went-none, went-on}

-- ---- parts

left-push : (before : PlainOutcome) (parts : List PlainPart) (part : PlainPart) → left_in before (parts ++ part ∷ []) ≡ outcome_behind (left_in before parts) part.outcome
left-push before [] part = refl
left-push before (one ∷ parts) part = left-push (outcome_behind before one.outcome) parts part

rows-push : (parts : List PlainPart) (part : PlainPart) → rows_in (parts ++ part ∷ []) ≡ rows_in parts ++ part.script.rows
rows-push parts part =
    flat_map-append (λ (one : PlainPart). one.script.rows) parts (part ∷ []) ∙ ap (λ (l : List PlainRow). rows_in parts ++ l) (append-nil part.script.rows)

linked-push : (program : Program) (before : PlainOutcome) (parts : List PlainPart) (part : PlainPart) → AreLinked program before.accounts parts
    → part.script.start ≡ (left_in before parts).accounts → part.script.program ≡ program → IsReplayOf part.script part.outcome
    → AreLinked program before.accounts (parts ++ part ∷ [])
linked-push program before [] part links start same replay = (start, same, replay, tt)
linked-push program before (one ∷ parts) part links start same replay =
    (links.0, links.1, links.2, linked-push program (outcome_behind before one.outcome) parts part links.3 start same replay)

among-more : (pieces : List (List ℕ)) (text more : List ℕ) → AreAmong pieces text → AreAmong pieces (text ++ more)
among-more [] text more are = tt
among-more (piece ∷ pieces) text more are = (
  are.0,
  are.1 ++ more,
  ap (λ (l : List ℕ). l ++ more) are.2 ∙ append_assoc are.0 (piece ++ are.1) more ∙ ap (λ (l : List ℕ). are.0 ++ l) (append_assoc piece are.1 more),
  among-more pieces are.1 more are.3,
)

among-push : (pieces : List (List ℕ)) (text piece more : List ℕ) → AreAmong pieces text → AreAmong (pieces ++ piece ∷ []) (text ++ (piece ++ more))
among-push [] text piece more are = (text, more, refl, tt)
among-push (one ∷ pieces) text piece more are = (
  are.0,
  are.1 ++ (piece ++ more),
  ap (λ (l : List ℕ). l ++ (piece ++ more)) are.2 ∙ append_assoc are.0 (one ++ are.1) (piece ++ more) ∙ ap (λ (l : List ℕ). are.0 ++ l) (append_assoc one are.1 (piece ++ more)),
  among-push pieces are.1 piece more are.3,
)

different : (a b : ℕ) → a < b → (a == b) ≡ false
different a b less = by (a == b) refl
  where
    by : (t : Bool) → (a == b) ≡ t → (a == b) ≡ false
    by true is = let same = eqb-true a b is in absurd (omega (arith, less, same))
    by false is = is

-- rows below a number, and from it on
abbrev AreBelow : ℕ → List PlainRow → Type 0
AreBelow low rows = All (λ (row : PlainRow). row.number < low) rows

abbrev AreFrom : ℕ → List PlainRow → Type 0
AreFrom low rows = All (λ (row : PlainRow). low ≤ row.number) rows

apart : (low : ℕ) (done later : List PlainRow) → AreBelow low done → AreFrom low later → IsCut done later
apart low done later below above = λ k d within. λ i e inside.
    let a = below k d within in
    let b = above i e inside in
    different _ _ (omega (arith, a, b))

below-more : (low next : ℕ) (rows : List PlainRow) → low ≤ next → AreBelow low rows → AreBelow next rows
below-more low next rows later below =
    All-weaker (λ (row : PlainRow). row.number < low) (λ (row : PlainRow). row.number < next) (λ row less. omega (arith, later, less)) rows below

-- ---- what is so of a block at any time

-- behind what a script left, rows that were accepted have acted in parts, or are still to act
record Since (script : PlainScript) (begin : PlainOutcome) (accepted : List PlainRow) (block : PlainBlock) (said : List ℕ) : Type 0 where
  parts : List PlainPart
  rows : rows_in parts ++ block.draft.script.rows ≡ accepted
  links : AreLinked script.program begin.accounts parts
  replay : IsReplayOf (with_rows script (rows_in parts)) (left_in begin parts)
  left : block.draft.script.start ≡ (left_in begin parts).accounts
  told : AreAmong (map answers_in parts) said
  program : block.draft.script.program ≡ script.program
  limits : block.draft.script.limits ≡ script.limits
  width : WIDE ≡ script.limits
  low : ℕ
  done : AreBelow low (script.rows ++ rows_in parts)
  above : AreFrom low block.draft.script.rows
  below : AreBelow block.number block.draft.script.rows
  wide : low ≤ block.number
  small : block.number ≤ 2 ^ 32 - 1

more-said : (script : PlainScript) (begin : PlainOutcome) (accepted : List PlainRow) (block : PlainBlock) (said more : List ℕ)
    → Since script begin accepted block said → Since script begin accepted block (said ++ more)
more-said script begin accepted block said more since = record {
  parts = since.parts;
  rows = since.rows;
  links = since.links;
  replay = since.replay;
  left = since.left;
  told = among-more (map answers_in since.parts) said more since.told;
  program = since.program;
  limits = since.limits;
  width = since.width;
  low = since.low;
  done = since.done;
  above = since.above;
  below = since.below;
  wide = since.wide;
  small = since.small;
}

-- rows acted
have-acted : (script : PlainScript) (begin : PlainOutcome) (accepted : List PlainRow) (block after : PlainBlock) (said answers more : List ℕ)
    → Since script begin accepted block said → HaveActed block after answers → Since script begin accepted after (said ++ (answers ++ more))
have-acted script begin accepted block after said answers more since have =
    let rows = block.draft.script.rows in
    let part : PlainPart = record { script = block.draft.script; outcome = have.outcome } in
    let parts : List PlainPart = since.parts ++ part ∷ [] in
    let all : script.rows ++ rows_in parts ≡ (script.rows ++ rows_in since.parts) ++ rows =
    ap (λ (l : List PlainRow). script.rows ++ l) (rows-push since.parts part) ∙ sym (append_assoc script.rows (rows_in since.parts) rows) in
    let whole = with_rows script (rows_in parts) in
    let front = with_rows script (rows_in since.parts) in
    let left : left_in begin parts ≡ outcome_behind (left_in begin since.parts) have.outcome = left-push begin since.parts part in
    let two : AreTwoParts whole front (left_in begin since.parts) block.draft.script =
    record {
      rows = all;
      cut = apart since.low (script.rows ++ rows_in since.parts) rows since.done since.above;
      start = refl;
      goes_on = since.left;
      program = refl;
      same_program = since.program;
      limits = refl;
      same_limits = since.limits;
    } in
    subst (λ (b : PlainBlock). Since script begin accepted b (said ++ (answers ++ more))) (sym have.left)
    (record {
      parts = parts;
      rows = append-nil (rows_in parts) ∙ rows-push since.parts part ∙ since.rows;
      links = linked-push script.program begin since.parts part since.links since.left since.program have.replay;
      replay = subst (IsReplayOf whole) (sym left) (two-are-one whole front block.draft.script (left_in begin since.parts) have.outcome two since.replay have.replay);
      left = ap (λ (o : PlainOutcome). o.accounts) (sym left);
      told = subst (λ (l : List ℕ). AreAmong (map answers_in parts) (said ++ (l ++ more))) (sym have.told)
          (subst (λ (pieces : List (List ℕ)). AreAmong pieces (said ++ (answers_in part ++ more))) (sym (map-append answers_in since.parts (part ∷ [])))
          (among-push (map answers_in since.parts) said (answers_in part) more since.told));
      program = since.program;
      limits = since.width;
      width = since.width;
      low = block.number;
      done = subst (AreBelow block.number) (sym all)
          (All-append (λ (row : PlainRow). row.number < block.number) (script.rows ++ rows_in since.parts) rows
          (below-more since.low block.number (script.rows ++ rows_in since.parts) since.wide since.done) since.below);
      above = All-nil (λ (row : PlainRow). block.number ≤ row.number);
      below = All-nil (λ (row : PlainRow). row.number < block.number);
      wide = omega arith;
      small = since.small;
    })

acted : (script : PlainScript) (begin : PlainOutcome) (accepted : List PlainRow) (block after : PlainBlock) (said answers more : List ℕ)
    → Since script begin accepted block said → Acted block after answers → Since script begin accepted after (said ++ (answers ++ more))
acted script begin accepted block after said answers more since is =
    ⊎_elim
    (λ (none : HadNone block after answers).
    subst (λ (b : PlainBlock). Since script begin accepted b (said ++ (answers ++ more))) (sym none.same)
    (more-said script begin accepted block said (answers ++ more) since))
    (λ (have : HaveActed block after answers). have-acted script begin accepted block after said answers more since have) is

behind-answers : (script : PlainScript) (begin : PlainOutcome) (accepted : List PlainRow) (block after : PlainBlock) (said text new : List ℕ)
    → Since script begin accepted block said → SaidBehind block after text new → Since script begin accepted after (said ++ new)
behind-answers script begin accepted block after said text new since is =
    subst (λ (l : List ℕ). Since script begin accepted after (said ++ l)) (sym is.is) (acted script begin accepted block after said is.answers text since is.acted)

-- no row is left where rows acted
none-left : (block after : PlainBlock) (answers : List ℕ) → Acted block after answers → after.draft.script.rows ≡ []
none-left block after answers is =
    ⊎_elim (λ (none : HadNone block after answers). ap (λ (b : PlainBlock). b.draft.script.rows) none.same ∙ none.none)
    (λ (have : HaveActed block after answers). ap (λ (b : PlainBlock). b.draft.script.rows) have.left) is

-- ---- rows that are accepted

-- the block with rows of its number more
grown : (script : PlainScript) (begin : PlainOutcome) (accepted : List PlainRow) (block after : PlainBlock) (said : List ℕ) (rows : List PlainRow) (lane : ℕ)
    → Since script begin accepted block said → is_full block.draft block.number ≡ false → All (λ (r : PlainRow). r.number ≡ block.number) rows
    → after ≡ record { draft = with_item block.draft rows lane; number = next_number block.number } → Since script begin (accepted ++ rows) after said
grown script begin accepted block after said rows lane since room same is =
    let other : block.number ≡ 2 ^ 32 - 1 → ⊥ = eqb-false block.number (2 ^ 32 - 1) (or-none (nat_le block.draft.script.limits.items block.draft.items) (block.number == 2 ^ 32 - 1) room).1 in
    let next : next_number block.number ≡ block.number + 1 = omega (arith, other, since.small) in
    let old = block.draft.script.rows in
    subst (λ (b : PlainBlock). Since script begin (accepted ++ rows) b said) (sym is)
    (record {
      parts = since.parts;
      rows = sym (append_assoc (rows_in since.parts) old rows) ∙ ap (λ (l : List PlainRow). l ++ rows) since.rows;
      links = since.links;
      replay = since.replay;
      left = since.left;
      told = since.told;
      program = since.program;
      limits = since.limits;
      width = since.width;
      low = since.low;
      done = since.done;
      above = All-append (λ (r : PlainRow). since.low ≤ r.number) old rows since.above
          (All-weaker (λ (r : PlainRow). r.number ≡ block.number) (λ (r : PlainRow). since.low ≤ r.number) (λ r e. omega (arith, e, since.wide)) rows same);
      below = All-append (λ (r : PlainRow). r.number < next_number block.number) old rows
          (below-more block.number (next_number block.number) old (omega (arith, next)) since.below)
          (All-weaker (λ (r : PlainRow). r.number ≡ block.number) (λ (r : PlainRow). r.number < next_number block.number) (λ r e. omega (arith, e, next)) rows same);
      wide = omega (arith, next, since.wide);
      small = omega arith;
    })

with-instruction : (script : PlainScript) (begin : PlainOutcome) (accepted : List PlainRow) (block after : PlainBlock) (said : List ℕ) (words : PlainInstruction)
    → Since script begin accepted block said → with_words block words ≡ Ok after
    → Since script begin (accepted ++ instruction_row block.number block.draft.clock words ∷ []) after said
with-instruction script begin accepted block after said words since is =
    let a = bind-ok (with_instruction block.draft block.number words) (behind_row block) after is in
    let kept = instruction-row block.number block.draft a.0 words a.1 in
    let made : after ≡ record { draft = a.0; number = next_number block.number } = sym (ok-same {E = FaultKind} _ after a.2) in
    grown script begin accepted block after said (instruction_row block.number block.draft.clock words ∷ []) words.lane since kept.room
    (All-push (λ (r : PlainRow). r.number ≡ block.number) [] (instruction_row block.number block.draft.clock words) (All-nil (λ (r : PlainRow). r.number ≡ block.number)) refl)
    (made ∙ ap (λ (d : PlainDraft). record { draft = d; number = next_number block.number }) (sym kept.is))

with-legs : (script : PlainScript) (begin : PlainOutcome) (accepted : List PlainRow) (block after : PlainBlock) (said : List ℕ) (words : PlainSwap)
    → Since script begin accepted block said → with_both block words ≡ Ok after
    → Since script begin
    (accepted ++ instruction_row block.number block.draft.clock (first_leg words) ∷ instruction_row block.number block.draft.clock (second_leg words) ∷ []) after said
with-legs script begin accepted block after said words since is =
    let a = bind-ok (with_swap block.draft block.number words) (behind_row block) after is in
    let kept = swap-row block.number block.draft a.0 words a.1 in
    let made : after ≡ record { draft = a.0; number = next_number block.number } = sym (ok-same {E = FaultKind} _ after a.2) in
    let one = instruction_row block.number block.draft.clock (first_leg words) in
    let other = instruction_row block.number block.draft.clock (second_leg words) in
    let Same : PlainRow → Type 0 = λ (r : PlainRow). r.number ≡ block.number in
    grown script begin accepted block after said (one ∷ other ∷ []) words.lane since kept.room
    (All-push Same (one ∷ []) other (All-push Same [] one (All-nil Same) refl) refl)
    (made ∙ ap (λ (d : PlainDraft). record { draft = d; number = next_number block.number }) (sym kept.is))

-- behind a `clock` row
later : (script : PlainScript) (begin : PlainOutcome) (accepted : List PlainRow) (block : PlainBlock) (now : ℤ) (said : List ℕ)
    → Since script begin accepted block said → Since script begin accepted (with_time block now) said
later script begin accepted block now said since = record {
  parts = since.parts;
  rows = since.rows;
  links = since.links;
  replay = since.replay;
  left = since.left;
  told = since.told;
  program = since.program;
  limits = since.limits;
  width = since.width;
  low = since.low;
  done = since.done;
  above = since.above;
  below = below-more block.number (next_number block.number) block.draft.script.rows (omega (arith, since.small)) since.below;
  wide = omega (arith, since.wide, since.small);
  small = omega arith;
}

-- ---- steps

-- a row that was not accepted
none-more : (script : PlainScript) (begin : PlainOutcome) (accepted : List PlainRow) (block : PlainBlock) (said : List ℕ)
    → Since script begin accepted block said → Since script begin (accepted ++ []) block said
none-more script begin accepted block said since = subst (λ (l : List PlainRow). Since script begin l block said) (sym (append-nil accepted)) since

added : (script : PlainScript) (begin : PlainOutcome) (accepted rows : List PlainRow) (meant : Result PlainBlock FaultKind) (block : PlainBlock) (said : List ℕ) (step : PlainStep)
    → Since script begin accepted block said → ((after : PlainBlock) → meant ≡ Ok after → Since script begin (accepted ++ rows) after said) → Added meant block step
    → Since script begin (accepted ++ where_taken meant rows) step.after (said ++ step.said)
added script begin accepted rows (Ok after) block said step since more is =
    subst (λ (b : PlainBlock). Since script begin (accepted ++ rows) b (said ++ step.said)) (sym is.1)
    (more-said script begin (accepted ++ rows) after said step.said (more after refl))
added script begin accepted rows (Err kind) block said step since more is =
    none-more script begin accepted step.after (said ++ step.said) (behind-answers script begin accepted block step.after said _ step.said since is)

took : (script : PlainScript) (begin : PlainOutcome) (accepted : List PlainRow) (asked : Result PlainAsked FaultKind) (block : PlainBlock) (said : List ℕ) (step : PlainStep)
    → Since script begin accepted block said → TookBy asked block step → Since script begin (accepted ++ accepted_by block asked) step.after (said ++ step.said)
took script begin accepted (Ok (Instructs words)) block said step since is =
    added script begin accepted (instruction_row block.number block.draft.clock words ∷ []) (with_words block words) block said step since
    (λ after same. with-instruction script begin accepted block after said words since same) is
took script begin accepted (Ok (Swaps words)) block said step since is =
    added script begin accepted
    (instruction_row block.number block.draft.clock (first_leg words) ∷ instruction_row block.number block.draft.clock (second_leg words) ∷ [])
    (with_both block words) block said step since (λ after same. with-legs script begin accepted block after said words since same) is
took script begin accepted (Ok (SetsTime now)) block said step since is =
    none-more script begin accepted step.after (said ++ step.said)
    (subst (λ (b : PlainBlock). Since script begin accepted b (said ++ step.said)) (sym is.2)
    (later script begin accepted is.0 now (said ++ step.said) (behind-answers script begin accepted block is.0 said _ step.said since is.1)))
took script begin accepted (Ok (Shows market depth)) block said step since is =
    none-more script begin accepted step.after (said ++ step.said) (behind-answers script begin accepted block step.after said _ step.said since is)
took script begin accepted (Ok Dumps) block said step since is =
    none-more script begin accepted step.after (said ++ step.said) (behind-answers script begin accepted block step.after said _ step.said since is)
took script begin accepted (Err kind) block said step since is =
    none-more script begin accepted step.after (said ++ step.said) (behind-answers script begin accepted block step.after said _ step.said since is)

stepped : (script : PlainScript) (begin : PlainOutcome) (accepted : List PlainRow) (row : Option Fields) (block : PlainBlock) (said : List ℕ) (step : PlainStep)
    → Since script begin accepted block said → IsStepBy row block step → Since script begin (accepted ++ accepted_of block row) step.after (said ++ step.said)
stepped script begin accepted None block said step since is =
    none-more script begin accepted step.after (said ++ step.said)
    (subst (λ (l : List ℕ). Since script begin accepted step.after (said ++ l)) (append-nil step.said)
    (acted script begin accepted block step.after said step.said [] since is))
stepped script begin accepted (Some row) block said step since is = took script begin accepted (asked_of row) block said step since is

steps-on : (script : PlainScript) (begin : PlainOutcome) (accepted : List PlainRow) (block : PlainBlock) (steps : List PlainStep) (after : PlainBlock) (said : List ℕ)
    → Since script begin accepted block said → AreSteps block steps after → Since script begin (accepted ++ accepted_in block steps) after (said ++ text_said steps)
steps-on script begin accepted block [] after said since are =
    none-more script begin accepted after (said ++ [])
    (subst (λ (b : PlainBlock). Since script begin accepted b (said ++ [])) (sym are) (more-said script begin accepted block said [] since))
steps-on script begin accepted block (step ∷ steps) after said since are =
    let new = accepted_of block step.row in
    let rest = steps-on script begin (accepted ++ new) step.after steps after (said ++ step.said)
    (stepped script begin accepted step.row block said step since are.0) are.1 in
    subst (λ (l : List PlainRow). Since script begin l after (said ++ (step.said ++ text_said steps))) (append_assoc accepted new (accepted_in step.after steps))
    (subst (λ (l : List ℕ). Since script begin ((accepted ++ new) ++ accepted_in step.after steps) after l) (append_assoc said step.said (text_said steps)) rest)

-- ---- a set-up

-- the rows of a script are numbered below the row behind it
record IsNumbered (number : ℕ) (draft : PlainDraft) : Type 0 where
  below : AreBelow number draft.script.rows
  small : number ≤ 2 ^ 32 - 1

next-numbered : (number : ℕ) (before after : PlainDraft) (fields : Fields) → IsNumbered number before → with_row before number fields ≡ Ok after
    → IsNumbered (next_number number) after
next-numbered number before after fields is =
    by-row number before after
    (λ kept. record {
      below = subst (AreBelow (next_number number)) (sym kept.rows) (below-more number (next_number number) before.script.rows (omega (arith, is.small)) is.below);
      small = omega arith;
    })
    (λ words row. with-rows (instruction_row number before.clock words ∷ []) words.lane row.room
    (All-push Same [] (instruction_row number before.clock words) (All-nil Same) refl) row.is)
    (λ words row.
    let one = instruction_row number before.clock (first_leg words) in
    let other = instruction_row number before.clock (second_leg words) in
    with-rows (one ∷ other ∷ []) words.lane row.room (All-push Same (one ∷ []) other (All-push Same [] one (All-nil Same) refl) refl) row.is)
    fields
  where
    Same : PlainRow → Type 0
    Same row = row.number ≡ number

    with-rows : (rows : List PlainRow) (lane : ℕ) → is_full before number ≡ false → All Same rows → with_item before rows lane ≡ after
        → IsNumbered (next_number number) after
    with-rows rows lane room same made =
        let other : number ≡ 2 ^ 32 - 1 → ⊥ = eqb-false number (2 ^ 32 - 1) (or-none (nat_le before.script.limits.items before.items) (number == 2 ^ 32 - 1) room).1 in
        let next : next_number number ≡ number + 1 = omega (arith, other, is.small) in
        subst (IsNumbered (next_number number)) made
        (record {
          below = All-append (λ (row : PlainRow). row.number < next_number number) before.script.rows rows
              (below-more number (next_number number) before.script.rows (omega (arith, next)) is.below)
              (All-weaker Same (λ (row : PlainRow). row.number < next_number number) (λ row e. omega (arith, e, next)) rows same);
          small = omega arith;
        })

all-numbered : (number : ℕ) (before last : PlainDraft) (rows : List Fields) → IsNumbered number before → draft_after before number rows ≡ Ok last
    → IsNumbered (number_after number rows) last
all-numbered number before last [] is read = subst (IsNumbered number) (ok-same {E = Refusal} before last read) is
all-numbered number before last (row ∷ rows) is read =
    let a = first-row number before last row rows read in
    all-numbered (next_number number) a.0 last rows (next-numbered number before a.0 row is a.1) a.2

from-numbered : (number : ℕ) (draft : PlainDraft) (rows : List Fields) (script : PlainScript) → IsNumbered number draft → Ok script ≡ script_from draft number rows
    → AreBelow (number_after number rows) script.rows
from-numbered number draft rows script is read =
    let a = bind-ok (draft_after draft number rows) last_script script (sym read) in
    subst (λ (s : PlainScript). AreBelow (number_after number rows) s.rows) (ok-same {E = Refusal} a.0.script script a.2)
    (all-numbered number draft a.0 rows is a.1).below

-- a dump counts its rows
counted : (number : ℕ) (reading : PlainReading) (rows : List Fields) (dump : PlainDump) → Answers number reading rows (Ok dump)
    → number_after (next_number dump.count) dump.behind ≡ number_after number rows
counted number reading [] dump is = absurd (cc)
counted number reading (row ∷ rows) dump is = ⊎_elim (ends) (λ more. counted (next_number number) more.0 rows dump more.2) is
  where
    ends : Ends number reading row rows (Ok dump) → number_after (next_number dump.count) dump.behind ≡ number_after number (row ∷ rows)
    ends (AtEnd states answer) =
        let same : dump ≡ record { accounts = reading.accounts; count = number; behind = rows } = cc in
        ap (λ (d : PlainDump). number_after (next_number d.count) d.behind) same
    ends (AtRow states answer) = absurd (cc)
    ends (AtAccount line states account fault fails answer) = absurd (cc)

none-found : {A : Type 0} (found : List Finding) (next : Result A Refusal) (x : A) → Ok x ≡ unless_found found next → Ok x ≡ next
none-found [] next x is = is
none-found (finding ∷ found) next x is = absurd (cc)

script-below : (text : List ℕ) (script : PlainScript) → ReadsWithin WIDE false text script → AreBelow (number_after 1 (rows_of text)) script.rows
script-below text script reads = by (rows_of text) (begins_with_dump (rows_of text)) reads
  where
    behind-dump : (rows : List Fields) (dump : PlainAnswer) → AnswersDump WIDE rows dump → Ok script ≡ behind WIDE false dump → AreBelow (number_after 1 rows) script.rows
    behind-dump rows (Err fault) told is = absurd (cc)
    behind-dump [] (Ok dump) told is = absurd (cc)
    behind-dump (row ∷ rows) (Ok dump) told is =
        let draft = behind_dump WIDE false dump.accounts in
        let a = none-found (findings dump.accounts) (script_from draft (next_number dump.count) dump.behind) script is in
        let below = from-numbered (next_number dump.count) draft dump.behind script
        (record { below = All-nil (λ (r : PlainRow). r.number < next_number dump.count); small = omega arith }) a in
        ⊎_elim (λ whole. subst (λ (n : ℕ). AreBelow n script.rows) (counted 2 (start WIDE) rows dump whole.1) below) (λ other. absurd (cc)) told

    by : (rows : List Fields) (dump : Bool) → AnswersBy WIDE false dump rows (Ok script) → AreBelow (number_after 1 rows) script.rows
    by rows true is = behind-dump rows is.0 is.1 is.2
    by rows false is =
        from-numbered 1 (no_rows WIDE false) rows script (record { below = All-nil (λ (r : PlainRow). r.number < 1); small = omega arith }) is

-- no row was accepted yet
none-yet : (text : List ℕ) (block : PlainBlock) (is : IsOpened text block) → Since is.script is.outcome [] block []
none-yet text block is =
    let script = is.script in
    let number = number_after 1 (rows_of text) in
    let rows : script.rows ++ [] ≡ script.rows = append-nil script.rows in
    let below = script-below text script is.reads in
    subst (λ (b : PlainBlock). Since script is.outcome [] b []) (sym is.fresh)
    (record {
      parts = [];
      rows = refl;
      links = tt;
      replay = subst (λ (l : List PlainRow). IsReplayOf (record script { rows = l }) is.outcome) (sym rows) is.replay;
      left = refl;
      told = tt;
      program = refl;
      limits = sym (read-limits WIDE false text script is.reads);
      width = sym (read-limits WIDE false text script is.reads);
      low = number;
      done = subst (AreBelow number) (sym rows) below;
      above = All-nil (λ (row : PlainRow). number ≤ row.number);
      below = All-nil (λ (row : PlainRow). row.number < number);
      wide = omega arith;
      small = number-small 1 (rows_of text) (omega arith);
    })

-- what a desk took is one replay
one-replay : (heard : PlainHeard) (block : PlainBlock) (said : List ℕ) → HasTaken heard block said → IsOneReplay heard block said
one-replay heard block said taken =
    let opened = taken.opened in
    let since = steps-on opened.script opened.outcome [] taken.begin taken.went.steps block [] (none-yet taken.set_up taken.begin opened) taken.went.are in
    record {
      taken = taken;
      parts = since.parts;
      accepted = since.rows;
      links = since.links;
      replay = since.replay;
      left = since.left;
      told = since.told;
    }

-- ---- what was heard

-- a line, and what is behind it
line-behind : (line rest : List ℕ) → line ++ 10 ∷ rest ≡ ended line ++ rest
line-behind line rest = sym (append_assoc line (10 ∷ []) rest)

-- a line of a set-up is kept
kept-line : (before kept text line rest all : List ℕ) → all ≡ before ++ (kept ++ text) → text ≡ line ++ 10 ∷ rest
    → all ≡ before ++ ((kept ++ line ++ 10 ∷ []) ++ rest)
kept-line before kept text line rest all is cut =
    is
    ∙ ap (λ (l : List ℕ). before ++ l)
    (ap (λ (l : List ℕ). kept ++ l) cut ∙ sym (append_assoc kept line (10 ∷ rest)) ∙ sym (append_assoc (kept ++ line) (10 ∷ []) rest))

-- a set-up that is none
refused-more : (before kept line rest old told all : List ℕ) (one : HasRefused before old) → all ≡ before ++ (kept ++ (line ++ 10 ∷ rest))
    → IsRefused (record { set_up = kept; line = line; told = told })
    → (more : List ℕ) × HasRefused more (old ++ told) × (all ≡ more ++ ([] ++ rest))
refused-more before kept line rest old told all one is none =
    let new : PlainRefused = record { set_up = kept; line = line; told = told } in
    let text_in : PlainRefused → List ℕ = λ (r : PlainRefused). r.set_up ++ ended r.line in
    let told_in : PlainRefused → List ℕ = λ (r : PlainRefused). r.told in (
      before ++ (kept ++ ended line),
      record {
        refused = one.refused ++ new ∷ [];
        are = All-push IsRefused one.refused new one.are none;
        text = ap (λ (l : List ℕ). l ++ (kept ++ ended line)) one.text
            ∙ ap (λ (l : List ℕ). flat_map text_in one.refused ++ l) (sym (append-nil (kept ++ ended line)))
            ∙ sym (flat_map-append text_in one.refused (new ∷ []));
        told = ap (λ (l : List ℕ). l ++ told) one.told ∙ ap (λ (l : List ℕ). flat_map told_in one.refused ++ l) (sym (append-nil told))
            ∙ sym (flat_map-append told_in one.refused (new ∷ []));
      },
      is ∙ ap (λ (l : List ℕ). before ++ (kept ++ l)) (line-behind line rest)
          ∙ ap (λ (l : List ℕ). before ++ l) (sym (append_assoc kept (ended line) rest)) ∙ sym (append_assoc before (kept ++ ended line) rest),
    )

-- the set-up that opens a desk
abbrev heard-opening : (before old kept text line rest all : List ℕ) → HasRefused before old → is_opening line ≡ true → all ≡ before ++ (kept ++ text)
    → text ≡ line ++ 10 ∷ rest → IsHeard all kept [] rest
heard-opening before old kept text line rest all refused opening is cut = record {
  before = before;
  told = old;
  refused = refused;
  line = line;
  opening = opening;
  whole = All-nil HasNoEnd;
  is = is ∙ ap (λ (l : List ℕ). before ++ (kept ++ l)) (cut ∙ line-behind line rest);
}

-- a line of a session
abbrev heard-line : (all set_up text line rest : List ℕ) (lines : List (List ℕ)) → IsHeard all set_up lines text → text ≡ line ++ 10 ∷ rest
    → HasNoEnd line → IsHeard all set_up (lines ++ line ∷ []) rest
heard-line all set_up text line rest lines is cut none =
    let front = flat_map ended lines in
    let more : front ++ text ≡ flat_map ended (lines ++ line ∷ []) ++ rest =
    ap (λ (l : List ℕ). front ++ l) (cut ∙ line-behind line rest)
    ∙ sym (append_assoc front (ended line) rest)
    ∙ ap (λ (l : List ℕ). l ++ rest) (ap (λ (l : List ℕ). front ++ l) (sym (append-nil (ended line))) ∙ sym (flat_map-append ended lines (line ∷ []))) in
    record {
      before = is.before;
      told = is.told;
      refused = is.refused;
      line = is.line;
      opening = is.opening;
      whole = All-push HasNoEnd lines line is.whole none;
      is = is.is ∙ ap (λ (l : List ℕ). is.before ++ (set_up ++ (ended is.line ++ l))) more;
    }

-- more bytes
abbrev heard-bytes : (all set_up text bytes : List ℕ) (lines : List (List ℕ)) → IsHeard all set_up lines text → IsHeard (all ++ bytes) set_up lines (text ++ bytes)
heard-bytes all set_up text bytes lines is =
    let front = flat_map ended lines in record {
      before = is.before;
      told = is.told;
      refused = is.refused;
      line = is.line;
      opening = is.opening;
      whole = is.whole;
      is = ap (λ (l : List ℕ). l ++ bytes) is.is ∙ append_assoc is.before (set_up ++ (ended is.line ++ (front ++ text))) bytes
          ∙ ap (λ (l : List ℕ). is.before ++ l)
          (append_assoc set_up (ended is.line ++ (front ++ text)) bytes
          ∙ ap (λ (l : List ℕ). set_up ++ l)
          (append_assoc (ended is.line) (front ++ text) bytes ∙ ap (λ (l : List ℕ). ended is.line ++ l) (append_assoc front text bytes)));
    }

-- ---- what was taken

-- all that was heard, where no row of the rest was taken
abbrev here : List ℕ → List ℕ → PlainHeard
here text rest = record { text = text; rest = rest; more = [] }

-- these rows of the rest were taken
abbrev behind_rows : List ℕ → List ℕ → List Fields → PlainHeard
behind_rows text rest rows = record { text = text; rest = rest; more = rows }

-- the rows of lines, and no other
none-more-rows : (lines : List (List ℕ)) → flat_map rows_of lines ++ [] ≡ flat_map rows_of lines
none-more-rows lines = append-nil (flat_map rows_of lines)

-- a desk was opened
just-opened : (text all rest old owed : List ℕ) (block : PlainBlock) (is : IsHeard all text [] rest) → is.told ≡ old ++ owed → IsOpened text block
    → HasTaken (here all rest) block (old ++ (owed ++ open_line block.number))
just-opened text all rest old owed block is told opened = record {
  set_up = text;
  lines = [];
  is = is;
  begin = block;
  opened = opened;
  went = subst (λ (l : List ℕ). Went [] block block (is.told ++ open_line block.number) l)
      (ap (λ (l : List ℕ). l ++ open_line block.number) told ∙ append_assoc old owed (open_line block.number)) (went-none block (is.told ++ open_line block.number));
}

-- rows of the rest were taken
rows-taken : (all text : List ℕ) (rows : List Fields) (block after : PlainBlock) (said old new : List ℕ) → HasTaken (here all text) block (said ++ old)
    → Went rows block after old new → HasTaken (behind_rows all text rows) after (said ++ new)
rows-taken all text rows block after said old new taken went =
    let whole = went-on (flat_map rows_of taken.lines ++ []) rows taken.begin block after (taken.is.told ++ open_line taken.begin.number) (said ++ old) (said ++ new)
    taken.went (went-behind rows block after said old new went) in record {
      set_up = taken.set_up;
      lines = taken.lines;
      is = taken.is;
      begin = taken.begin;
      opened = taken.opened;
      went = subst (λ (l : List Fields). Went l taken.begin after (taken.is.told ++ open_line taken.begin.number) (said ++ new))
          (ap (λ (l : List Fields). l ++ rows) (none-more-rows taken.lines)) whole;
    }

-- rows acted
acted-in : (at : PlainHeard) (block after : PlainBlock) (said old new : List ℕ) → HasTaken at block (said ++ old) → ActedIn block after old new
    → HasTaken at after (said ++ new)
acted-in at block after said old new taken is =
    let rows = flat_map rows_of taken.lines ++ at.more in
    let whole = went-on rows [] taken.begin block after (taken.is.told ++ open_line taken.begin.number) (said ++ old) (said ++ new)
    taken.went (went-behind [] block after said old new (went-acted block after old new is)) in record {
      set_up = taken.set_up;
      lines = taken.lines;
      is = taken.is;
      begin = taken.begin;
      opened = taken.opened;
      went = subst (λ (l : List Fields). Went l taken.begin after (taken.is.told ++ open_line taken.begin.number) (said ++ new)) (append-nil rows) whole;
    }

-- a line was taken
line-taken : (all text line rest : List ℕ) (block : PlainBlock) (said : List ℕ) → text ≡ line ++ 10 ∷ rest → HasNoEnd line
    → HasTaken (behind_rows all text (rows_of line)) block said → HasTaken (here all rest) block said
line-taken all text line rest block said cut none taken =
    let lines = taken.lines ++ line ∷ [] in
    let same : flat_map rows_of taken.lines ++ rows_of line ≡ flat_map rows_of lines ++ [] =
    ap (λ (l : List Fields). flat_map rows_of taken.lines ++ l) (sym (append-nil (rows_of line)))
    ∙ sym (flat_map-append rows_of taken.lines (line ∷ [])) ∙ sym (none-more-rows lines) in record {
      set_up = taken.set_up;
      lines = lines;
      is = heard-line all taken.set_up text line rest taken.lines taken.is cut none;
      begin = taken.begin;
      opened = taken.opened;
      went = subst (λ (l : List Fields). Went l taken.begin block (taken.is.told ++ open_line taken.begin.number) said) same taken.went;
    }

-- more was heard
bytes-taken : (all text bytes : List ℕ) (block : PlainBlock) (said : List ℕ) → HasTaken (here all text) block said
    → HasTaken (here (all ++ bytes) (text ++ bytes)) block said
bytes-taken all text bytes block said taken = record {
  set_up = taken.set_up;
  lines = taken.lines;
  is = heard-bytes all taken.set_up text bytes taken.lines taken.is;
  begin = taken.begin;
  opened = taken.opened;
  went = taken.went;
}

-- ---- a talk

-- what is so where a session stands that heard this and said this
abbrev IsSo : Session → List ℕ → List ℕ → Type 0
IsSo (Sets kept text) all said = IsWhole (Sets kept text) all said
IsSo (Serves block text) all said = HasTaken (here all text) block said
IsSo (Closes block text) all said = HasTaken (here all text) block said
IsSo (Ended why) all said = IsWhole (Ended why) all said

whole : (session : Session) (all said : List ℕ) → IsSo session all said → IsWhole session all said
whole (Sets kept text) all said is = is
whole (Serves block text) all said is = one-replay (here all text) block said is
whole (Closes block text) all said is = one-replay (here all text) block said is
whole (Ended why) all said is = is

-- the accounts are written, and then a line
dumped : (why : Over) (all rest : List ℕ) (block left : PlainBlock) (said old new : List ℕ)
    → HasTaken (behind_rows all rest (last_rows why rest)) block (said ++ old) → SaysDump block left old new → HasEnded why all (said ++ (new ++ last_line why))
dumped why all rest block left said old new taken is =
    let at : PlainHeard = behind_rows all rest (last_rows why rest) in
    let line = last_line why in
    let dump = dump_text left.draft.script.start in
    let answers = is.behind.answers in
    let before = said ++ (old ++ answers) in
    let last = acted-in at block left said old (old ++ answers) taken (record { said = answers; text = refl; acted = is.behind.acted }) in
    let text : said ++ (new ++ line) ≡ (before ++ dump) ++ line =
    ap (λ (l : List ℕ). said ++ (l ++ line)) (is.is ∙ ap (λ (l : List ℕ). old ++ l) is.behind.is ∙ sym (append_assoc old answers dump))
    ∙ sym (append_assoc said ((old ++ answers) ++ dump) line)
    ∙ ap (λ (l : List ℕ). l ++ line) (sym (append_assoc said (old ++ answers) dump)) in
    inr (rest, before, left, one-replay at left before last, none-left block left answers is.behind.acted, text)

-- at the end of input
ends-well : (block : PlainBlock) (all text said owed : List ℕ) (after : Talk) → HasTaken (here all text) block (said ++ owed) → EndsWell block text owed after
    → IsSo after.session all (said ++ after.owed)
ends-well block all text said owed after taken ends =
    let mid = rows-taken all text (rows_of text) block ends.between said owed ends.mid taken ends.went in
    subst (λ (t : Talk). IsSo t.session all (said ++ t.owed)) (sym ends.is)
    (subst (λ (l : List ℕ). HasEnded over.Input all (said ++ l)) (append-nil ends.said)
    (dumped over.Input all text ends.between ends.left said ends.mid ends.said mid ends.dump))

-- before it, of a set-up
leaves-none : (why : Over) (kept text all said new : List ℕ) → IsSo (Sets kept text) all (said ++ []) → new ≡ [] → HasEnded why all (said ++ (new ++ last_line why))
leaves-none why kept text all said new is left =
    inl (
      is.0,
      kept ++ text,
      said ++ [],
      is.1,
      is.2,
      ap (λ (l : List ℕ). said ++ (l ++ last_line why)) left ∙ ap (λ (l : List ℕ). l ++ last_line why) (sym (append-nil said)),
    )

stops : (why : Over) (session : Session) (all said text : List ℕ) → IsSo session all (said ++ []) → StopsBy why session text
    → IsSo (Ended why) all (said ++ (text ++ last_line why))
stops over.Input session all said text is stop = absurd stop
stops over.ReadFault (Sets kept rest) all said text is stop = leaves-none over.ReadFault kept rest all said text is stop.1
stops over.ReadFault (Serves block rest) all said text is stop = dumped over.ReadFault all rest block stop.1.0 said [] text is stop.1.1
stops over.ReadFault (Closes block rest) all said text is stop = absurd stop.0
stops over.ReadFault (Ended why) all said text is stop = absurd stop.0
stops over.TooLong (Sets kept rest) all said text is stop = leaves-none over.TooLong kept rest all said text is stop.2
stops over.TooLong (Serves block rest) all said text is stop = dumped over.TooLong all rest block stop.2.0 said [] text is stop.2.1
stops over.TooLong (Closes block rest) all said text is stop = absurd stop.0
stops over.TooLong (Ended why) all said text is stop = absurd stop.0
stops over.NoMemory session all said text is stop = tt

does : (before after : Talk) (all said : List ℕ) → IsSo before.session all (said ++ before.owed) → Does before after → IsSo after.session all (said ++ after.owed)
does before after all said is =
    ⊎_elim (λ on. by before.session before.owed is on)
    (λ (stop : Stops before after). subst (λ (t : Talk). IsSo t.session all (said ++ t.owed)) (sym stop.is)
    (stops stop.why before.session all said stop.said (subst (λ (l : List ℕ). IsSo before.session all (said ++ l)) stop.quiet is) stop.stops))
  where
    by : (session : Session) (owed : List ℕ) → IsSo session all (said ++ owed) → DoesBy session owed after → IsSo after.session all (said ++ after.owed)
    by (Sets kept text) owed is (inl keeps) =
        subst (λ (t : Talk). IsSo t.session all (said ++ t.owed)) (sym keeps.is) (is.0, is.1, kept-line is.0 kept text keeps.line keeps.rest all is.2 keeps.cut.parts)
    by (Sets kept text) owed is (inr (inl opens)) =
        subst (λ (t : Talk). IsSo t.session all (said ++ t.owed)) (sym opens.is)
        (just-opened kept all opens.rest said owed opens.block
        (heard-opening is.0 (said ++ owed) kept text opens.line opens.rest all is.1 opens.opening is.2 opens.cut.parts) refl opens.opened)
    by (Sets kept text) owed is (inr (inr refuses)) =
        let more = refused-more is.0 kept refuses.line refuses.rest (said ++ owed) refuses.told all is.1
        (is.2 ∙ ap (λ (l : List ℕ). is.0 ++ (kept ++ l)) refuses.cut.parts) (refuses.opening, refuses.status, refuses.none) in
        subst (λ (t : Talk). IsSo t.session all (said ++ t.owed)) (sym refuses.is)
        (more.0, subst (HasRefused more.0) (append_assoc said owed refuses.told) more.1, more.2)
    by (Serves block text) owed is (inl takes) =
        subst (λ (t : Talk). IsSo t.session all (said ++ t.owed)) (sym takes.is)
        (line-taken all text takes.line takes.rest takes.left (said ++ takes.said) takes.cut.parts takes.cut.whole
        (rows-taken all text (rows_of takes.line) block takes.left said owed takes.said is takes.went))
    by (Serves block text) owed is (inr acts) =
        subst (λ (t : Talk). IsSo t.session all (said ++ t.owed)) (sym acts.is) (acted-in (here all text) block acts.left said owed acts.said is acts.acted)
    by (Closes block text) owed is ends = ends-well block all text said owed after is ends
    by (Ended why) owed is ends = absurd ends

does-all : (before : Talk) (through : List Talk) (after : Talk) (all said : List ℕ) → IsSo before.session all (said ++ before.owed) → DoesAll before through after
    → IsSo after.session all (said ++ after.owed)
does-all before [] after all said is are = subst (λ (t : Talk). IsSo t.session all (said ++ t.owed)) (sym are) is
does-all before (next ∷ others) after all said is are = does-all next others after all said (does before next all said is are.0) are.1

heard-so : (bytes : List ℕ) (session : Session) (all said : List ℕ) → IsListening session → IsSo session all said → IsSo (heard bytes session) (all ++ bytes) said
heard-so [] (Sets kept text) all said listens is =
    inl (is.0, kept ++ text, said, is.1, append-nil all ∙ is.2, sym (append-nil said))
heard-so [] (Serves block text) all said listens is = subst (λ (l : List ℕ). HasTaken (here l text) block said) (sym (append-nil all)) is
heard-so (byte ∷ bytes) (Sets kept text) all said listens is =
    let more = byte ∷ bytes in (
      is.0,
      is.1,
      ap (λ (l : List ℕ). l ++ more) is.2 ∙ append_assoc is.0 (kept ++ text) more ∙ ap (λ (l : List ℕ). is.0 ++ l) (append_assoc kept text more),
    )
heard-so (byte ∷ bytes) (Serves block text) all said listens is = bytes-taken all text (byte ∷ bytes) block said is
heard-so [] (Closes block text) all said listens is = absurd listens
heard-so [] (Ended why) all said listens is = absurd listens
heard-so (byte ∷ bytes) (Closes block text) all said listens is = absurd listens
heard-so (byte ∷ bytes) (Ended why) all said listens is = absurd listens

talks-whole : (before : Talk) (turns : List Turn) (after : Talk) (all said : List ℕ) → IsSo before.session all (said ++ before.owed) → Talks before turns after
    → IsSo after.session (all ++ heard_in turns) ((said ++ said_in turns) ++ after.owed)
talks-whole before [] after all said is talks =
    subst (λ (l : List ℕ). IsSo after.session l ((said ++ []) ++ after.owed)) (sym (append-nil all))
    (subst (λ (l : List ℕ). IsSo after.session all (l ++ after.owed)) (sym (append-nil said)) (does-all before talks.through after all said is talks.does))
talks-whole before (Heard bytes ∷ turns) after all said is talks =
    let ready = does-all before talks.2.through talks.0 all said is talks.2.does in
    let turn = talks.3 in
    let quiet : said ++ talks.0.owed ≡ said ++ [] = ap (λ (l : List ℕ). said ++ l) turn.0 in
    let now = heard-so bytes talks.0.session all (said ++ []) turn.1 (subst (IsSo talks.0.session all) quiet ready) in
    subst (λ (l : List ℕ). IsSo after.session l ((said ++ said_in turns) ++ after.owed)) (append_assoc all bytes (heard_in turns))
    (talks-whole talks.1 turns after (all ++ bytes) said (subst (λ (t : Talk). IsSo t.session (all ++ bytes) (said ++ t.owed)) (sym turn.2) now) talks.4)
talks-whole before (Said bytes ∷ turns) after all said is talks =
    let ready = does-all before talks.2.through talks.0 all said is talks.2.does in
    let turn = talks.3 in
    let text : said ++ talks.0.owed ≡ (said ++ bytes) ++ talks.1.owed = ap (λ (l : List ℕ). said ++ l) turn.0 ∙ sym (append_assoc said bytes talks.1.owed) in
    let now = subst (λ (s : Session). IsSo s all ((said ++ bytes) ++ talks.1.owed)) (sym turn.1) (subst (IsSo talks.0.session all) text ready) in
    subst (λ (l : List ℕ). IsSo after.session (all ++ heard_in turns) (l ++ after.owed)) (append_assoc said bytes (said_in turns))
    (talks-whole talks.1 turns after all (said ++ bytes) now talks.4)

pub a-whole-session : (turns : List Turn) (after : Talk) → Talks first turns after → IsWhole after.session (heard_in turns) (said_in turns ++ after.owed)
a-whole-session turns after talks =
    let begin : IsSo (Sets [] []) [] [] = ([], record { refused = []; are = All-nil IsRefused; text = refl; told = refl }, refl) in
    whole after.session (heard_in turns) (said_in turns ++ after.owed) (talks-whole first turns after [] [] begin talks)
