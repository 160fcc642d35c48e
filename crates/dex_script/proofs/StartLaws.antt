-- What a script starts with: accounts that are accepted, those of sound markets, and whose mints are conserved.
use Rattle.std.proofs.Common.{◌≡◌, [], ℕ, List, Bool, true, false, Ok, arith, subst, sym}
use Rattle.std.specs.List.{All}
use Rattle.std.proofs.lemmas.List.Elements.{All-nil}
use Rattle.dex_types.specs.Accounts.{PlainAccounts}
use Rattle.dex_rows.specs.Records.{rows_of}
use Rattle.dex_accounts.specs.Decoded.{AreSound}
use Rattle.dex_types.specs.declared.limits.Limits.{Limits}
use Rattle.dex_types.specs.Limits.{AreLimits}
use Rattle.dex_state.specs.Conserved.{IsConserved}
use Rattle.dex_audit.specs.Findings.{findings}
use Rattle.dex_dump.specs.Answers.{AnswersDump, PlainDump}
use Rattle.dex_dump.proofs.SoFarLaws.{dump-read, start-so-far}
use Rattle.dex_state.specs.Accepted.{AreAccepted}
use Rattle.dex_state.specs.Held.{HoldBytes}
use Rattle.dex_statement.specs.declared.statement.Statement.{Statement}
use Rattle.dex_statement.specs.declared.statement.Statement.TheVariants as row
use Rattle.dex_statement.specs.Statements.{statement_of}
use Rattle.dex_statement.specs.Words.{Fields}
use Rattle.dex_script_types.specs.PlainScript.{PlainScript}
use Rattle.dex_script_types.specs.Facts.{IsStart}
use Rattle.dex_script.specs.Drafts.{PlainDraft, no_rows}
use Rattle.dex_script.specs.Rows.{with_row, with_statement}
use Rattle.dex_script.specs.Scripts.{AnswersBy, ReadsWithin, Refusal, begins_with_dump, draft_after, script_from}
use Rattle.dex_script.proofs.FaultLaws.{bind-ok, ok-same}
use Rattle.dex_script.proofs.KeptLaws.{clock-row, program-row}
use Rattle.dex_script.proofs.ItemRows.{instruction-row, swap-row}
use Rattle.dex_script.proofs.OrderLaws.{dump-audited, last_script, through}
use Rattle.dex_script.proofs.RowParts.{market-row, mint-row, msrm-row, orders-row, srm-row, wallet-row}
use Rattle.dex_script.proofs.StartRows.{IsDeclared, market-declared, mint-declared, msrm-declared, orders-declared, srm-declared, wallet-declared}
use Rattle.dex_script.proofs.StartSupplies.{IsBacked, conserved}
use Rattle.dex_script.proofs.Started.{IsMade, declared-start}
use Rattle.dex_script.proofs.StatedLaws.{IsStated, row-stated}

nothing-declared : (limits : Limits) → AreLimits limits → (batch : Bool) → IsDeclared (no_rows limits batch)
nothing-declared limits are batch = record {
  accepted = (start-so-far limits are).accepted;
  made = All-nil IsMade;
  srm = tt;
  msrm = tt;
  taken = record { all = λ address. omega arith; once = λ address. omega arith };
  backed = All-nil (IsBacked []);
}

by-row : (number : ℕ) (before after : PlainDraft) (fields : Fields) → IsDeclared before → with_row before number fields ≡ Ok after → IsDeclared after
unfolding with_row
by-row number before after fields so is =
    let a = bind-ok (statement_of fields) (with_statement before number) after is in by a.0 (row-stated fields a.0 a.1) a.2
  where
    by : (statement : Statement) → IsStated statement → with_statement before number statement ≡ Ok after → IsDeclared after
    by (row.Program program) stated told = subst IsDeclared (program-row before after program told).1 so
    by (row.Clock now) stated told = subst IsDeclared (clock-row before after now told) so
    by (row.Mint address decimals) stated told = mint-declared before after so address decimals stated (mint-row before after address decimals told)
    by (row.Srm mint) stated told = srm-declared before after so mint (srm-row before after mint told)
    by (row.Msrm mint) stated told = msrm-declared before after so mint (msrm-row before after mint told)
    by (row.Wallet address mint owner amount) stated told =
        wallet-declared before after so address mint owner amount stated (wallet-row before after address mint owner amount told)
    by (row.Market words) stated told = market-declared before after so words stated (market-row before after words told)
    by (row.Orders market address) stated told = orders-declared before after so market address (orders-row before after market address told)
    by (row.Instruction words) stated told = subst IsDeclared (instruction-row number before after words told).is so
    by (row.Swap words) stated told = subst IsDeclared (swap-row number before after words told).is so

-- what rows without a dump give
pub plain-start : (limits : Limits) → AreLimits limits → (batch : Bool) (rows : List Fields) (draft : PlainDraft)
    → draft_after (no_rows limits batch) 1 rows ≡ Ok draft → IsStart draft.script.limits draft.script.start
plain-start limits are batch rows draft is =
    let last = through (λ _. IsDeclared) by-row 1 (no_rows limits batch) draft rows (nothing-declared limits are batch) is in
    declared-start draft.script.limits draft.script.start last.accepted last.made (conserved draft.script.start last.made last.backed)

from-rows : (limits : Limits) → AreLimits limits → (batch : Bool) (rows : List Fields) (script : PlainScript)
    → Ok script ≡ script_from (no_rows limits batch) 1 rows → IsStart script.limits script.start
from-rows limits are batch rows script is =
    let a = bind-ok (draft_after (no_rows limits batch) 1 rows) last_script script (sym is) in
    subst (λ (s : PlainScript). IsStart s.limits s.start) (ok-same {E = Refusal} a.0.script script a.2)
    (plain-start limits are batch rows a.0 a.1)

-- accounts without findings are those of sound markets
abbrev pub AuditedAreSound : Type 0
AuditedAreSound =
    (limits : Limits) (accounts : PlainAccounts) → AreAccepted limits accounts → HoldBytes accounts → findings accounts ≡ [] → All AreSound accounts.markets

-- and their mints are conserved
abbrev pub AuditedAreConserved : Type 0
AuditedAreConserved =
    (limits : Limits) (accounts : PlainAccounts) → AreAccepted limits accounts → HoldBytes accounts → findings accounts ≡ [] → All (IsConserved accounts) accounts.mints

module _ (are-sound : AuditedAreSound) (are-conserved : AuditedAreConserved) (limits : Limits) where
  audited : (accounts : PlainAccounts) → AreAccepted limits accounts → HoldBytes accounts → findings accounts ≡ [] → IsStart limits accounts
  audited accounts accepted held none = record {
    accepted = accepted;
    sound = are-sound limits accounts accepted held none;
    conserved = are-conserved limits accounts accepted held none;
  }

  -- what a dump without findings gives
  pub dump-start : AreLimits limits → (rows : List Fields) (dump : PlainDump) → AnswersDump limits rows (Ok dump) → findings dump.accounts ≡ []
      → IsStart limits dump.accounts
  dump-start are rows dump told none = let read = dump-read limits are rows dump told in audited dump.accounts read.accepted read.held none

by-answer : AuditedAreSound → AuditedAreConserved → (limits : Limits) → AreLimits limits → (batch begins : Bool) (rows : List Fields)
    (script : PlainScript) → AnswersBy limits batch begins rows (Ok script) → IsStart script.limits script.start
by-answer are-sound are-conserved limits are batch true rows script told =
    let so = dump-audited limits are batch rows told.0 script told.1 told.2 in
    audited are-sound are-conserved script.limits script.start so.accepted so.held so.none
by-answer are-sound are-conserved limits are batch false rows script is = from-rows limits are batch rows script is

pub starts-sound : AuditedAreSound → AuditedAreConserved → (limits : Limits) (batch : Bool) (text : List ℕ) (script : PlainScript)
    → AreLimits limits → ReadsWithin limits batch text script → IsStart script.limits script.start
starts-sound are-sound are-conserved limits batch text script are reads =
    by-answer are-sound are-conserved limits are batch (begins_with_dump (rows_of text)) (rows_of text) script reads
