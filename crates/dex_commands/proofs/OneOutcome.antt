-- two outcomes that have one report are equal
use Rattle.std.proofs.Common.{ℕ, ◌≡◌, ◌<◌, ◌^◌, ◌∙◌, Bool, false, List, ap, sym, arith}
use Rattle.dex_types.specs.declared.limits.Limits.{Limits}
use Rattle.dex_types.specs.declared.limits.TheConstants.{STANDARD}
use Rattle.dex_state.specs.Outcomes.{PlainOutcome}
use Rattle.dex_report.specs.Report.{report_text}
use Rattle.dex_report.specs.Telling.{IsToldOutcome}
use Rattle.dex_report.proofs.Journals.{report_text-injective}
use Rattle.dex_script_types.specs.PlainScript.{PlainScript}
use Rattle.dex_script.specs.Scripts.{Reads}
use Rattle.dex_script.proofs.OrderLaws.{read-limits, read-rows}
use Rattle.dex_answers.specs.Answers.{Reported, rows_told}
use Rattle.dex_commands.specs.LaneAnswers.{Ran}

-- a script has not too many rows
few : (batch : Bool) (bytes : List ℕ) (script : PlainScript) → Reads batch bytes script → rows_told script < 2 ^ 32
few batch bytes script reads =
    let rows = read-rows STANDARD batch bytes script reads in
    let limits = ap (λ (l : Limits). l.items) (read-limits STANDARD batch bytes script reads) in
    omega (arith, rows.few, limits)

one-outcome : (batch twin : Bool) (bytes others text : List ℕ) (script another : PlainScript) (one other : PlainOutcome) → Reads batch bytes script
    → Reads twin others another → IsToldOutcome one → IsToldOutcome other → text ≡ report_text one (rows_told script)
    → text ≡ report_text other (rows_told another) → one ≡ other
one-outcome batch twin bytes others text script another one other reads read first second is same =
    (report_text-injective one other (rows_told script) (rows_told another) first second (few batch bytes script reads) (few twin others another read) (sym is ∙ same)).0

pub run-once : (bytes others text : List ℕ) (one : Ran bytes text) (other : Ran others text) → one.1 ≡ other.1
run-once bytes others text one other =
    one-outcome false false bytes others text one.0 other.0 one.1 other.1 one.2 other.2 one.3.told other.3.told one.4 other.4

pub replay-once : (batch twin : Bool) (bytes others text : List ℕ) (one : Reported STANDARD batch bytes text)
    (other : Reported STANDARD twin others text) → one.1 ≡ other.1
replay-once batch twin bytes others text one other =
    one-outcome batch twin bytes others text one.0 other.0 one.1 other.1 one.2 other.2 one.4 other.4 one.5 other.5

pub both-once : (batch : Bool) (bytes others text : List ℕ) (one : Ran bytes text) (other : Reported STANDARD batch others text) → one.1 ≡ other.1
both-once batch bytes others text one other =
    one-outcome false batch bytes others text one.0 other.0 one.1 other.1 one.2 other.2 one.3.told other.4 one.4 other.5
