-- What is known between two parts of a text.
use Rattle.std.specs.Prelude.{◌≡◌, ℕ, false, IfSome, List, map, None}
use Rattle.dex_types.specs.declared.limits.Limits.{Limits}
use Rattle.dex_types.specs.Accounts.{accounts_of}
use Rattle.dex_types.specs.Rows.{row_of}
use Rattle.dex_rows.specs.Records.{Fields}
use Rattle.dex_state.specs.Outcomes.{PlainOutcome, market_journal_of, wallet_journal_of}
use Rattle.dex_script_types.specs.PlainScript.{PlainScript}
use Rattle.dex_script.specs.Begun.{IsBegun}
use Rattle.dex_script.specs.Drafts.{PlainDraft}
use Rattle.dex_script.specs.Pieces.{IsReadyBehind, IsUnderway, beside}
use Rattle.dex_script.specs.Scripts.{ReadsWithin}
use Rattle.dex_parts.specs.Chains.{outcome_behind}
use Rattle.dex_stream.specs.declared.parts.Acted.{Acted}
use Rattle.dex_stream.specs.declared.parts.Behind.{Behind}
use Rattle.dex_stream.specs.declared.parts.First.{First}
use Rattle.dex_stream.specs.declared.parts.Playing.{Playing}
use Rattle.dex_stream.specs.Heard.{HasActed, IsNext}

-- these rows of the text are behind a script, and this reader beside it
pub record IsBehind (limits : Limits) (text : List ℕ) (script : PlainScript) (behind : Behind) : Type 0 where
  pub draft : PlainDraft
  pub begun : IsBegun limits false text draft behind.number behind.rows
  pub underway : IsUnderway draft
  pub is_script : draft.script ≡ script
  pub reader : behind.reader ≡ beside draft draft.clock

-- the text is a script that is its first part, or begins with it
pub record IsFirst (limits : Limits) (text : List ℕ) (first : First) : Type 0 where
  pub whole : first.behind ≡ None → ReadsWithin limits false text first.script
  pub begins : IfSome first.behind (IsBehind limits text first.script)

-- the script so far has acted, and these rows of the text are left, for which the reader is ready
pub record IsBetween (limits : Limits) (text : List ℕ) (playing : Playing) (left : List Fields) : Type 0 where
  pub before : PlainDraft
  pub outcome : PlainOutcome
  pub begun : IsBegun limits false text before playing.number left
  pub acted : HasActed before.script outcome (accounts_of playing.accounts) playing.items
  pub reader : IsReadyBehind before playing.reader

-- and the listener has heard of it
pub record IsHeardSoFar {L : Type 0} (heard : L → PlainScript → PlainOutcome → Type 0) (limits : Limits)
    (text : List ℕ) (listener : L) (playing : Playing) (left : List Fields) : Type 0 where
  pub between : IsBetween limits text playing left
  pub hears : heard listener between.before.script between.outcome

-- the next part of the text has acted, and these rows of it are left
pub record HasActedNext (limits : Limits) (text : List ℕ) (playing : Playing) (rows : List Fields)
    (between : IsBetween limits text playing rows) (acted : Acted) (left : List Fields) : Type 0 where
  pub part : PlainScript
  pub outcome : PlainOutcome
  pub now : IsBetween limits text acted.next left
  pub is_next : IsNext between.before.script between.outcome part outcome now.before.script
  pub together : now.outcome ≡ outcome_behind between.outcome outcome
  pub rows_are : map row_of acted.rows.items ≡ part.rows
  pub markets : map market_journal_of acted.markets.items ≡ outcome.markets
  pub wallets : map wallet_journal_of acted.wallets.items ≡ outcome.wallets
