-- A script for batches is the same script for any other command; and one without a swap is a script for batches.
use Rattle.std.proofs.Common.{◌≡◌, ◌∙◌, ◌+◌, ◌^◌, ◌<◌, ◌||◌, ◌⊎◌, ℕ, Bool, true, false, not, nat_le, List, [], ◌∷◌, ◌++◌, Result, Ok, Err, ap, arith, get_or, inl, inr, length, length-append, refl, subst, sym, ⊎_elim}
use Rattle.std.proofs.lemmas.Grind.{common_steps}
use Rattle.dex_types.specs.declared.terms.Program.{Program}
use Rattle.dex_types.specs.Rows.{PlainRow}
use Rattle.dex_rows.specs.Records.{rows_of}
use Rattle.dex_types.specs.declared.limits.Limits.{Limits}
use Rattle.dex_dump.specs.Answers.{PlainAnswer, next_number}
use Rattle.dex_dump.specs.Reading.{is_among}
use Rattle.dex_audit.specs.Findings.{findings}
use Rattle.dex_audit_rules.specs.declared.finding.Finding.{Finding}
use Rattle.dex_statement.specs.declared.faults.FaultKind.{FaultKind}
use Rattle.dex_statement.specs.declared.faults.FaultKind.TheVariants.{UnknownLabel}
use Rattle.dex_statement.specs.declared.statement.Statement.{Statement}
use Rattle.dex_statement.specs.declared.statement.Statement.TheVariants as row
use Rattle.dex_statement.specs.Faults.{◌>>=◌, found_or, unless}
use Rattle.dex_statement.specs.Stated.{PlainSwap}
use Rattle.dex_statement.specs.Statements.{statement_of}
use Rattle.dex_statement.specs.Words.{Fields}
use Rattle.dex_script_types.specs.PlainScript.{PlainScript}
use Rattle.dex_script_types.specs.Known.{has_account}
use Rattle.dex_script_types.specs.Facts.{HasNoSwap}
use Rattle.dex_script.specs.Drafts.{PlainDraft, behind_dump, no_rows}
use Rattle.dex_script.specs.Known.{is_any_among, made_addresses, mint_at, orders_at}
use Rattle.dex_script.specs.Rows.{checked_name, checked_new, exceeds_market, exceeds_row, instruction_row, is_full, is_unknown, set_of, with_instruction, with_item, with_known, with_market, with_mint, with_msrm, with_orders_row, with_program, with_row, with_srm, with_statement, with_wallet}
use Rattle.dex_script.specs.Scripts.{AnswersBy, ReadsWithin, Refusal, begins_with_dump, behind, draft_after, fault_in, script_from, unless_found}
use Rattle.dex_script.proofs.FaultLaws.{bind-ok, differ, no-error, ok-same}
use Rattle.dex_script.proofs.ItemRows.{IsSwapRow, first_leg, second_leg, swap-row}
use Rattle.dex_script.proofs.OrderLaws.{by-row, first-row, last_script, none-found, through}

-- a draft as it is for another command
abbrev other_use : Bool → PlainDraft → PlainDraft
other_use use_batch draft = record draft { batch = use_batch }

-- what a row leaves, for that command
abbrev other_left : Bool → Result PlainDraft FaultKind → Result PlainDraft FaultKind
other_left use_batch (Ok draft) = Ok (other_use use_batch draft)
other_left use_batch (Err kind) = Err kind

module _ (b : Bool) where
  unless-other : (test : Bool) (kind : FaultKind) (next other : Result PlainDraft FaultKind) → other ≡ other_left b next
      → unless test kind other ≡ other_left b (unless test kind next)
  unless-other true kind next other is = refl
  unless-other false kind next other is = is

  bind-other : {A : Type 0} (r : Result A FaultKind) (next other : A → Result PlainDraft FaultKind) → ((x : A) → other x ≡ other_left b (next x))
      → (r >>= other) ≡ other_left b (r >>= next)
  bind-other (Ok x) next other each = each x
  bind-other (Err kind) next other each = refl

-- ---- no swap stands before, where none does in the end

front : (rows more : List PlainRow) → HasNoSwap (rows ++ more) → HasNoSwap rows
front rows more none = λ i j d before within.
    let low : get_or (rows ++ more) i d ≡ get_or rows i d = grind (arith, common_steps) in
    let high : get_or (rows ++ more) j d ≡ get_or rows j d = grind (arith, common_steps) in
    let longer : j < length (rows ++ more) = omega (arith, length-append rows more, within) in
    rw (sym low, sym high) (none i j d before longer)

no-legs : (rows : List PlainRow) (one other : PlainRow) → one.number ≡ other.number → HasNoSwap (rows ++ one ∷ other ∷ []) → ⊥
no-legs rows one other same none =
    let first : get_or (rows ++ one ∷ other ∷ []) (length rows) one ≡ one = grind (arith, common_steps) in
    let second : get_or (rows ++ one ∷ other ∷ []) (length rows + 1) one ≡ other = grind (arith, common_steps) in
    let within : length rows + 1 < length (rows ++ one ∷ other ∷ []) = omega (arith, length-append rows (one ∷ other ∷ [])) in
    let less = none (length rows) (length rows + 1) one (omega arith) within in
    let apart : one.number < other.number = rw (first, second) at less in
    omega (arith, apart, same)

-- what one row leaves, and what it keeps of the rows
record Keeps (before after : PlainDraft) : Type 0 where
  batch : after.batch ≡ before.batch
  rows : HasNoSwap after.script.rows → HasNoSwap before.script.rows

keeps-item : (before after : PlainDraft) (more : List PlainRow) (lane : ℕ) → with_item before more lane ≡ after → Keeps before after
keeps-item before after more lane is =
    subst (Keeps before) is (record { batch = refl; rows = λ none. front before.script.rows more none })

-- ---- rows

-- a swap that would be taken, which is not
abbrev IsSwapless : ℕ → PlainDraft → PlainDraft → Type 0
IsSwapless number before after = (words : PlainSwap) → IsSwapRow number before after words → ⊥

module _ (b : Bool) (number : ℕ) (before after : PlainDraft) where
  statement-other : IsSwapless number before after → (statement : Statement) → with_statement before number statement ≡ Ok after
      → with_statement (other_use b before) number statement ≡ other_left b (with_statement before number statement)
  unfolding with_program with_mint with_srm with_msrm with_wallet with_market with_orders_row with_instruction with_known checked_new checked_name
  statement-other none (row.Program program) is = unless-other b (not before.is_first) _ _ _ refl
  statement-other none (row.Clock now) is = refl
  statement-other none (row.Mint address decimals) is =
      bind-other b (checked_new before (is_among address before.taken) (nat_le before.script.limits.mints (length before.script.start.mints))) _ _ (λ _. refl)
  statement-other none (row.Srm mint) is = bind-other b (checked_name before mint before.script.start.srm 6) _ _ (λ _. refl)
  statement-other none (row.Msrm mint) is = bind-other b (checked_name before mint before.script.start.msrm 0) _ _ (λ _. refl)
  statement-other none (row.Wallet address mint owner amount) is =
      bind-other b (found_or (mint_at mint before.script.start.mints) UnknownLabel) _ _ (λ words.
      bind-other b (checked_new before (is_among address before.taken) (nat_le before.script.limits.wallets (length before.script.start.wallets))) _ _ (λ _.
      unless-other b (nat_le (2 ^ 64) (words.supply + amount)) _ _ _ refl))
  statement-other none (row.Market words) is =
      let mints = before.script.start.mints in
      let full = nat_le before.script.limits.markets (length before.script.start.markets) || exceeds_market words in
      unless-other b (not (has_account words.coin mints) || not (has_account words.pc mints)) _ _ _
      (bind-other b (checked_new before (is_any_among (made_addresses words.address) before.taken) full) _ _ (λ _. bind-other b (set_of words) _ _ (λ set. refl)))
  statement-other none (row.Orders market address) is =
      bind-other b (found_or (orders_at market before.script.start.markets) UnknownLabel) _ _ (λ count.
      bind-other b (checked_new before (is_among address before.taken) (nat_le before.script.limits.orders count)) _ _ (λ _. refl))
  statement-other none (row.Instruction words) is =
      unless-other b (is_unknown before.script.start words.parties) _ _ _ (unless-other b (is_full before number || exceeds_row words) _ _ _ refl)
  statement-other none (row.Swap words) is = absurd (none words (swap-row number before after words is))

  row-other : IsSwapless number before after → (fields : Fields) → with_row before number fields ≡ Ok after
      → with_row (other_use b before) number fields ≡ Ok (other_use b after)
  unfolding with_row
  row-other none fields is =
      let a = bind-ok (statement_of fields) (with_statement before number) after is in
      ap (λ (r : Result Statement FaultKind). r >>= with_statement (other_use b before) number) a.1
      ∙ statement-other none a.0 a.2 ∙ ap (other_left b) a.2

keeps-row : (number : ℕ) (before after : PlainDraft) (fields : Fields) → with_row before number fields ≡ Ok after → Keeps before after
keeps-row number before after =
    by-row number before after (λ kept. record { batch = kept.batch; rows = λ none. subst HasNoSwap kept.rows none })
    (λ words one. keeps-item before after _ words.lane one.is) (λ words two. keeps-item before after _ words.lane two.is)

no-swap-before : (number : ℕ) (before last : PlainDraft) (rows : List Fields) → draft_after before number rows ≡ Ok last
    → HasNoSwap last.script.rows → HasNoSwap before.script.rows
no-swap-before number before last rows is =
    through (λ _ (d : PlainDraft). HasNoSwap d.script.rows → HasNoSwap before.script.rows)
    (λ n d after fields behind one none. behind ((keeps-row n d after fields one).rows none)) number before last rows (λ none. none) is

-- the script is for batches, or has no swap in the end
abbrev IsQuiet : PlainDraft → PlainDraft → Type 0
IsQuiet before last = (before.batch ≡ true) ⊎ HasNoSwap last.script.rows

by-rows : (b : Bool) (number : ℕ) (before last : PlainDraft) (rows : List Fields) → IsQuiet before last → draft_after before number rows ≡ Ok last
    → draft_after (other_use b before) number rows ≡ Ok (other_use b last)
by-rows b number before last [] quiet is = ap (λ (d : PlainDraft). Ok (other_use b d)) (ok-same {E = Refusal} before last is)
by-rows b number before last (fields ∷ rows) quiet is =
    let a = first-row number before last fields rows is in
    let swapless : IsSwapless number before a.0 =
    λ words one.
    ⊎_elim
    (λ (batch : before.batch ≡ true). differ (sym batch ∙ one.apart))
    (λ (none : HasNoSwap last.script.rows).
    let here = no-swap-before (next_number number) a.0 last rows a.2 none in
    no-legs before.script.rows (instruction_row number before.clock (first_leg words)) (instruction_row number before.clock (second_leg words)) refl
    (subst (λ (d : PlainDraft). HasNoSwap d.script.rows) (sym one.is) here))
    quiet in
    let later : IsQuiet a.0 last =
    ⊎_elim (λ (batch : before.batch ≡ true). inl ((keeps-row number before a.0 fields a.1).batch ∙ batch)) (λ (none : HasNoSwap last.script.rows). inr none) quiet in
    ap (λ (r : Result PlainDraft FaultKind). fault_in number r >>= λ d. draft_after d (next_number number) rows) (row-other b number before a.0 swapless fields a.1)
    ∙ by-rows b (next_number number) a.0 last rows later a.2

from-rows : (b : Bool) (number : ℕ) (draft : PlainDraft) (rows : List Fields) (script : PlainScript) → (draft.batch ≡ true) ⊎ HasNoSwap script.rows
    → Ok script ≡ script_from draft number rows → Ok script ≡ script_from (other_use b draft) number rows
from-rows b number draft rows script quiet is =
    let a = bind-ok (draft_after draft number rows) last_script script (sym is) in
    let e = ok-same {E = Refusal} a.0.script script a.2 in
    let ends : IsQuiet draft a.0 = subst (λ (s : PlainScript). (draft.batch ≡ true) ⊎ HasNoSwap s.rows) (sym e) quiet in
    sym a.2 ∙ sym (ap (λ (r : Result PlainDraft Refusal). r >>= last_script) (by-rows b number draft a.0 rows ends a.1))

-- ---- a script

from-dump : (limits : Limits) (batch b : Bool) (dump : PlainAnswer) (script : PlainScript) → (batch ≡ true) ⊎ HasNoSwap script.rows → Ok script ≡ behind limits batch dump
    → Ok script ≡ behind limits b dump
from-dump limits batch b (Err fault) script quiet is = absurd (no-error _ script (sym is))
from-dump limits batch b (Ok dump) script quiet is =
    let draft = behind_dump limits batch dump.accounts in
    let number = next_number dump.count in
    let a = none-found (findings dump.accounts) (script_from draft number dump.behind) script is in
    from-rows b number draft dump.behind script quiet a.1
    ∙ ap (λ (fs : List Finding). unless_found fs (script_from (other_use b draft) number dump.behind)) (sym a.0)

by-answer : (limits : Limits) (batch b begins : Bool) (rows : List Fields) (script : PlainScript) → (batch ≡ true) ⊎ HasNoSwap script.rows
    → AnswersBy limits batch begins rows (Ok script) → AnswersBy limits b begins rows (Ok script)
by-answer limits batch b true rows script quiet told = (told.0, told.1, from-dump limits batch b told.0 script quiet told.2)
by-answer limits batch b false rows script quiet is = from-rows b 1 (no_rows limits batch) rows script quiet is

pub read-listed : (limits : Limits) (text : List ℕ) (script : PlainScript) → ReadsWithin limits true text script → ReadsWithin limits false text script
read-listed limits text script reads = by-answer limits true false (begins_with_dump (rows_of text)) (rows_of text) script (inl refl) reads

pub read-batch : (limits : Limits) (text : List ℕ) (script : PlainScript) → ReadsWithin limits false text script → HasNoSwap script.rows
    → ReadsWithin limits true text script
read-batch limits text script reads none = by-answer limits false true (begins_with_dump (rows_of text)) (rows_of text) script (inr none) reads
