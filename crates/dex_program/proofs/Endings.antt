-- What a script leaves that was run, from how the run ended.
use Rattle.std.proofs.Common.{◌≡◌, ◌∙◌, ℕ, false, List, Option, Some, ap, subst}
use Rattle.std.specs.Io.KnownBytes.{append_known}
use Rattle.dex_words.specs.declared.command.Command.{Command}
use Rattle.dex_words.specs.declared.command.Command.TheVariants.{Run}
use Rattle.dex_answers.specs.declared.status.Status.{Status}
use Rattle.dex_answers.specs.declared.status.Status.TheVariants as status
use Rattle.dex_answers.specs.Answers.{rows_told}
use Rattle.dex_commands.specs.Ending.{Ends, Input, Output}
use Rattle.dex_commands.specs.LaneAnswers.{HaveRun}
use Rattle.dex_state.specs.Outcomes.{PlainOutcome}
use Rattle.dex_report.specs.Report.{report_text}
use Rattle.dex_script_types.specs.PlainScript.{PlainScript}
use Rattle.dex_script.specs.Scripts.{Reads}
use Rattle.dex_program.specs.Ending.{OneLegalHistory, OneOrder, WhereRun}

-- what a run of lanes answered, where its source told these bytes
record RunAnswer (bytes : List ℕ) (o : Output) : Type 0 where
  script : PlainScript
  outcome : PlainOutcome
  reads : Reads false bytes script
  left : HaveRun script outcome
  taken : o.taken_after ≡ append_known o.taken (report_text outcome (rows_told script))

told-end : (i : Input) (o : Output) → Ends (Some Run) i o status.Ok → (bytes : List ℕ) → i.left ≡ Some bytes → RunAnswer bytes o
told-end i o end bytes told =
    let a = end.stands in
    let same : a.0 ≡ bytes = rw told at a.1.told in
    record {
      script = a.2.0;
      outcome = a.2.1;
      reads = subst (λ (b : List ℕ). Reads false b a.2.0) same a.2.2;
      left = a.2.3;
      taken = end.taken ∙ ap (append_known o.taken) a.2.4;
    }

told-run : (asked : Option Command) (i : Input) (o : Output) (ended : Status) → Ends asked i o ended → WhereRun RunAnswer asked i o ended
told-run asked i o ended end run done =
    let there : Ends asked i o status.Ok = subst (λ (s : Status). Ends asked i o s) done end in
    told-end i o (subst (λ (x : Option Command). Ends x i o status.Ok) run there)

pub legal : (asked : Option Command) (i : Input) (o : Output) (ended : Status) → Ends asked i o ended → WhereRun OneLegalHistory asked i o ended
legal asked i o ended end run done bytes told =
    let t = told-run asked i o ended end run done bytes told in
    record { script = t.script; outcome = t.outcome; reads = t.reads; run = t.left.run; paired = t.left.paired; told = t.left.told; taken = t.taken }

pub ordered : (asked : Option Command) (i : Input) (o : Output) (ended : Status) → Ends asked i o ended → WhereRun OneOrder asked i o ended
ordered asked i o ended end run done bytes told =
    let t = told-run asked i o ended end run done bytes told in
    record { script = t.script; outcome = t.outcome; reads = t.reads; run = t.left.run; order = t.left.order; rows = t.left.rows; told = t.left.told; taken = t.taken }
