-- What those have heard who answer commands.
use Rattle.std.specs.Prelude.{◌≡◌}
use Rattle.dex_state.specs.Outcomes.{PlainOutcome}
use Rattle.dex_script_types.specs.PlainScript.{PlainScript}
use Rattle.dex_report.specs.Bulk.{counts_of}
use Rattle.dex_report.specs.Growing.{Tells}
use Rattle.dex_answers.specs.declared.bulk.Counting.{Counting}
use Rattle.dex_answers.specs.declared.replay.Reporting.{Reporting}

-- the journals of the outcome are told as text
abbrev pub HasTold : Reporting → PlainScript → PlainOutcome → Type 0
HasTold reporting script outcome = Tells reporting.texts outcome

-- the outcome's instructions are counted
abbrev pub HasCounted : Counting → PlainScript → PlainOutcome → Type 0
HasCounted counting script outcome = counting.counts ≡ counts_of outcome
