-- The instruction rows of a script: they are in order, and each is of the start.
use Rattle.std.proofs.Common.{◌≡◌, ◌∙◌, ℕ, ◌+◌, ◌-◌, ◌^◌, ◌<◌, ◌≤◌, ◌∷◌, [], ◌++◌, ◌||◌, ◌==◌, Bool, true, false, not, nat_le, nat_lt, List, Result, Ok, Err, All, ap, append_assoc, arith, get_or, length, length-append, max, refl, subst, sym}
use Rattle.std.proofs.lemmas.Bool.{eqb-false, leb-false, ltb-false, not-false}
use Rattle.std.proofs.lemmas.Grind.{common_steps}
use Rattle.std.proofs.lemmas.List.Elements.{All-append, All-cons, All-nil, All-push, All-weaker}
use Rattle.std.proofs.lemmas.List.Quantifiers.{all_pairs_push}
use Rattle.dex_types.specs.Accounts.{PlainAccounts}
use Rattle.dex_types.specs.Rows.{PlainRow}
use Rattle.dex_rows.specs.Records.{rows_of}
use Rattle.dex_types.specs.declared.limits.Limits.{Limits}
use Rattle.dex_types.specs.Limits.{AreLimits}
use Rattle.dex_state.specs.Accepted.{AreAccepted}
use Rattle.dex_state.specs.Held.{HoldBytes}
use Rattle.dex_dump.specs.Answers.{AnswersDump, PlainAnswer, PlainDump, next_number}
use Rattle.dex_dump.proofs.SoFarLaws.{dump-read}
use Rattle.dex_audit.specs.Findings.{findings}
use Rattle.dex_audit_rules.specs.declared.finding.Finding.{Finding}
use Rattle.dex_world.specs.Items.{items_of}
use Rattle.dex_statement.specs.declared.faults.FaultKind.{FaultKind}
use Rattle.dex_statement.specs.declared.statement.Statement.{Statement}
use Rattle.dex_statement.specs.declared.statement.Statement.TheVariants as row
use Rattle.dex_statement.specs.Stated.{PlainInstruction, PlainSwap}
use Rattle.dex_statement.specs.Statements.{statement_of}
use Rattle.dex_statement.specs.Words.{Fields}
use Rattle.dex_script_types.specs.PlainScript.{PlainScript}
use Rattle.dex_script_types.specs.Facts.{AreLegs, AreRows, HasNoSwap, IsRowOf, lanes_of}
use Rattle.dex_script_types.specs.Known.{has_market, is_known_role}
use Rattle.dex_script.specs.Drafts.{IsGood, PlainDraft, behind_dump, no_rows}
use Rattle.dex_script.specs.Pieces.{number_after}
use Rattle.dex_script.specs.Rows.{exceeds_row, instruction_row, is_full, is_unknown, with_item, with_row, with_statement}
use Rattle.dex_script.specs.Scripts.{AnswersBy, ReadsWithin, Refusal, begins_with_dump, behind, draft_after, fault_in, script_from, unless_found}
use Rattle.dex_script.proofs.FaultLaws.{bind-ok, differ, no-error, ok-same, or-none}
use Rattle.dex_script.proofs.ItemRows.{IsOneRow, IsSwapRow, first_leg, instruction-row, second_leg, swap-row}
use Rattle.dex_script.proofs.KeptLaws.{Kept, kept-clock, kept-setup}
use Rattle.dex_script.proofs.LegLaws.{are-legs}
use Rattle.dex_script.proofs.RowOrder.{AreInOrder, items-more, lanes-more, no-rows-in-order, push-row}

-- ---- one more row

below-more : (number next : ℕ) (rows : List PlainRow) → number ≤ next → All (λ (one : PlainRow). one.number < number) rows
    → All (λ (one : PlainRow). one.number < next) rows
below-more number next rows later below = λ k d within. let one = below k d within in omega arith

-- what known names and limits that are not passed say of a row
pub known-row : (start : PlainAccounts) (number : ℕ) (draft : PlainDraft) (words : PlainInstruction) → is_unknown start words.parties ≡ false
    → exceeds_row words ≡ false → IsRowOf start (instruction_row number draft.clock words)
known-row start number draft words known within =
    let parties = words.parties in
    let market = not (has_market parties.market start.markets) in
    let coin = not (is_known_role start.wallets parties.coin) in
    let pc = not (is_known_role start.wallets parties.pc) in
    let discount = not (is_known_role start.wallets parties.discount) in
    let referrer = not (is_known_role start.wallets parties.referrer) in
    let a = or-none (market || coin || pc || discount) referrer known in
    let b = or-none (market || coin || pc) discount a.0 in
    let c = or-none (market || coin) pc b.0 in
    let d = or-none market coin c.0 in
    let f = or-none (nat_le 16 words.lane || nat_lt 16 (length words.parties.named)) (nat_lt 256 (length words.bytes)) within in
    let g = or-none (nat_le 16 words.lane) (nat_lt 16 (length words.parties.named)) f.0 in
    record {
      market = not-false (has_market parties.market start.markets) d.0;
      coin = not-false (is_known_role start.wallets parties.coin) d.1;
      pc = not-false (is_known_role start.wallets parties.pc) c.1;
      discount = not-false (is_known_role start.wallets parties.discount) b.1;
      referrer = not-false (is_known_role start.wallets parties.referrer) a.1;
      lane = leb-false 16 words.lane g.0;
      named = ltb-false 16 (length words.parties.named) g.1;
      bytes = ltb-false 256 (length words.bytes) f.1;
    }

in-order : (script : PlainScript) → AreRows script → AreInOrder script.start script.rows
in-order script are = record { each = are.each; rising = are.rising; legs = are.legs; two = are.two }

rows-of : (script : PlainScript) → AreInOrder script.start script.rows → length (items_of script.rows) ≤ script.limits.items
    → script.lanes ≡ lanes_of script.rows → AreRows script
rows-of script order few lanes = record { few = few; each = order.each; rising = order.rising; legs = order.legs; two = order.two; lanes = lanes }

-- a row of this number after the others
pub push-new : (number : ℕ) (draft : PlainDraft) (one : PlainRow) → IsGood number draft → one.number ≡ number → IsRowOf draft.script.start one
    → AreInOrder draft.script.start (draft.script.rows ++ one ∷ [])
push-new number draft one good is of_start =
    push-row draft.script.start draft.script.rows one (in-order draft.script good.rows) of_start
    (λ k d within. let less = good.below k d within in omega (arith, less, is))
    (λ k d within same. let less = good.below k d within in absurd (omega (arith, less, is, same)))
    (λ place row within. let less = good.below place row (omega (arith, within)) in omega (arith, less, is))

-- and one more of it, the second leg
pub push-second : (number : ℕ) (draft : PlainDraft) (one other : PlainRow) → IsGood number draft → one.number ≡ number → other.number ≡ number
    → IsRowOf draft.script.start one → IsRowOf draft.script.start other → AreLegs one other
    → AreInOrder draft.script.start (draft.script.rows ++ one ∷ other ∷ [])
push-second number draft one other good is other_is of_start other_of_start legs =
    let rows = draft.script.rows in
    let Low : PlainRow → Type 0 = λ (row : PlainRow). row.number ≤ other.number in
    let Fits : PlainRow → Type 0 = λ (row : PlainRow). row.number ≡ other.number → AreLegs row other in
    let both = push-row draft.script.start (rows ++ one ∷ []) other (push-new number draft one good is of_start) other_of_start
    (All-push Low rows one (λ k d within. let less = good.below k d within in omega (arith, less, other_is)) (omega (arith, is, other_is)))
    (All-push Fits rows one (λ k d within same. let less = good.below k d within in absurd (omega (arith, less, other_is, same))) (λ same. legs))
    (λ place row within.
    let early : place < length rows = omega (arith, length-append rows (one ∷ []), within) in
    let low : get_or (rows ++ one ∷ []) place row ≡ get_or rows place row = grind (arith, common_steps) in
    let less = good.below place row early in
    rw low (omega (arith, less, other_is))) in
    subst (AreInOrder draft.script.start) (append_assoc rows (one ∷ []) (other ∷ [])) both

-- the rows of one item after the others: `few` tells that there is room
pub item-good : (number : ℕ) (draft : PlainDraft) (first : PlainRow) (others : List PlainRow) (lane : ℕ) → IsGood number draft
    → is_full draft number ≡ false → All (λ (row : PlainRow). row.number ≡ number) (first ∷ others)
    → AreInOrder draft.script.start (draft.script.rows ++ first ∷ others) → lanes_of (first ∷ others) ≡ max 1 (lane + 1)
    → (draft.batch ≡ true → HasNoSwap (draft.script.rows ++ first ∷ others)) → IsGood (next_number number) (with_item draft (first ∷ others) lane)
item-good number draft first others lane good free same order lanes single =
    let rows = draft.script.rows in
    let more = first ∷ others in
    let room = or-none (nat_le draft.script.limits.items draft.items) (number == 2 ^ 32 - 1) free in
    let space : draft.items < draft.script.limits.items = leb-false draft.script.limits.items draft.items room.0 in
    let other : number ≡ 2 ^ 32 - 1 → ⊥ = eqb-false number (2 ^ 32 - 1) room.1 in
    let next : next_number number ≡ number + 1 = omega (arith, other, good.small) in
    let items : length (items_of (rows ++ more)) ≡ length (items_of rows) + 1 = items-more rows number first others good.below same in
    record {
      rows = rows-of (with_item draft more lane).script order (omega (arith, items, good.items, space))
          (ap (λ (n : ℕ). max n (lane + 1)) good.rows.lanes ∙ sym (lanes-more rows more lane lanes));
      below = All-append (λ (r : PlainRow). r.number < next_number number) rows more
          (below-more number (next_number number) rows (omega (arith, next)) good.below)
          (All-weaker (λ (r : PlainRow). r.number ≡ number) (λ (r : PlainRow). r.number < next_number number) (λ r is. omega (arith, next, is)) more same);
      quiet = λ early. absurd (differ early);
      items = omega (arith, items, good.items);
      single = single;
      small = omega arith;
    }

pub one-good : (number : ℕ) (draft after : PlainDraft) (words : PlainInstruction) → IsGood number draft → IsOneRow number draft after words
    → IsGood (next_number number) after
one-good number draft after words good row =
    let one = instruction_row number draft.clock words in
    let order = push-new number draft one good refl (known-row draft.script.start number draft words row.known row.within) in
    let Same : PlainRow → Type 0 = λ (r : PlainRow). r.number ≡ number in
    subst (IsGood (next_number number)) row.is
    (item-good number draft one [] words.lane good row.room (All-cons Same one [] refl (All-nil Same)) order (omega arith)
    (λ batch. all_pairs_push (λ (a b : PlainRow). a.number < b.number) draft.script.rows one (good.single batch) (λ k d inside. good.below k d inside)))

pub two-good : (number : ℕ) (draft after : PlainDraft) (words : PlainSwap) → IsGood number draft → IsSwapRow number draft after words
    → IsGood (next_number number) after
two-good number draft after words good row =
    let start = draft.script.start in
    let one = instruction_row number draft.clock (first_leg words) in
    let other = instruction_row number draft.clock (second_leg words) in
    let legs = are-legs number draft.clock words.lane words.signer words.first words.second row.good in
    let order = push-second number draft one other good refl refl
    (known-row start number draft (first_leg words) row.first_known row.first_within)
    (known-row start number draft (second_leg words) row.second_known row.second_within) legs in
    let Same : PlainRow → Type 0 = λ (r : PlainRow). r.number ≡ number in
    subst (IsGood (next_number number)) row.is
    (item-good number draft one (other ∷ []) words.lane good row.room
    (All-cons Same one (other ∷ []) refl (All-cons Same other [] refl (All-nil Same))) order (omega arith)
    (λ batch. absurd (differ (sym batch ∙ row.apart))))

-- ---- other rows

-- no rows are good of any start
empty-rows : (script : PlainScript) → script.rows ≡ [] → script.lanes ≡ 1 → AreRows script
empty-rows script none one =
    rows-of script (subst (AreInOrder script.start) (sym none) (no-rows-in-order script.start))
    (subst (λ (rows : List PlainRow). length (items_of rows) ≤ script.limits.items) (sym none) (omega arith)) (one ∙ sym (ap lanes_of none))

pub same-rows : (before after : PlainScript) → after.rows ≡ before.rows → after.lanes ≡ before.lanes → after.start ≡ before.start
    → after.limits ≡ before.limits → AreRows before → AreRows after
same-rows before after rows lanes start limits are =
    let order = subst (λ (s : PlainAccounts). AreInOrder s after.rows) (sym start) (subst (AreInOrder before.start) (sym rows) (in-order before are)) in
    rows-of after order
    (subst (λ (l : Limits). length (items_of after.rows) ≤ l.items) (sym limits)
    (subst (λ (rs : List PlainRow). length (items_of rs) ≤ before.limits.items) (sym rows) are.few)) (lanes ∙ are.lanes ∙ sym (ap lanes_of rows))

kept-good : (number : ℕ) (before after : PlainDraft) → IsGood number before → Kept before after → IsGood (next_number number) after
kept-good number before after good kept = by before.is_late refl
  where
    rows_now : (late : Bool) → before.is_late ≡ late → AreRows after.script
    rows_now true is = same-rows before.script after.script kept.rows kept.lanes (kept.start is) kept.limits good.rows
    rows_now false is =
        let none = good.quiet is in
        empty-rows after.script (kept.rows ∙ none) (kept.lanes ∙ good.rows.lanes ∙ ap lanes_of none)

    by : (late : Bool) → before.is_late ≡ late → IsGood (next_number number) after
    by late is = record {
      rows = rows_now late is;
      below = subst (All (λ (r : PlainRow). r.number < next_number number)) (sym kept.rows)
          (below-more number (next_number number) before.script.rows (omega (arith, good.small)) good.below);
      quiet = λ early. kept.rows ∙ good.quiet (sym kept.late ∙ early);
      items = kept.items ∙ good.items ∙ sym (ap (λ (rows : List PlainRow). length (items_of rows)) kept.rows);
      single = λ batch. subst HasNoSwap (sym kept.rows) (good.single (sym kept.batch ∙ batch));
      small = omega arith;
    }

-- ---- all rows

-- a row keeps the instruction rows, is one more, or is a swap
pub by-row : {P : Type 0} (number : ℕ) (before after : PlainDraft) → (Kept before after → P) → ((words : PlainInstruction) → IsOneRow number before after words → P)
    → ((words : PlainSwap) → IsSwapRow number before after words → P) → (fields : Fields) → with_row before number fields ≡ Ok after → P
unfolding with_row
by-row {P} number before after kept one two fields is = let a = bind-ok (statement_of fields) (with_statement before number) after is in by a.0 a.2
  where
    by : (statement : Statement) → with_statement before number statement ≡ Ok after → P
    by (row.Clock now) told = kept (kept-clock before after now told)
    by (row.Instruction words) told = one words (instruction-row number before after words told)
    by (row.Swap words) told = two words (swap-row number before after words told)
    by setup told = kept (kept-setup number before after setup tt told).0

fault-ok : {A : Type 0} (number : ℕ) (r : Result A FaultKind) (x : A) → fault_in number r ≡ Ok x → r ≡ Ok x
fault-ok {A} number (Ok y) x is = ap (λ (z : A). Ok z) (ok-same y x is)
fault-ok number (Err kind) x is = absurd (no-error _ x is)

-- the first row and the others, without a fault
pub first-row : (number : ℕ) (before last : PlainDraft) (fields : Fields) (rows : List Fields) → draft_after before number (fields ∷ rows) ≡ Ok last
    → (next : PlainDraft) × (with_row before number fields ≡ Ok next) × (draft_after next (next_number number) rows ≡ Ok last)
first-row number before last fields rows is =
    let a = bind-ok (fault_in number (with_row before number fields)) (λ d. draft_after d (next_number number) rows) last is in
    (a.0, fault-ok number (with_row before number fields) a.0 a.1, a.2)

-- what each row keeps, all rows keep
pub through : (P : ℕ → PlainDraft → Type 0)
    → ((number : ℕ) (before after : PlainDraft) (fields : Fields) → P number before → with_row before number fields ≡ Ok after → P (next_number number) after)
    → (number : ℕ) (before last : PlainDraft) (rows : List Fields) → P number before → draft_after before number rows ≡ Ok last
    → P (number_after number rows) last
through P step number before last [] holds is = subst (P number) (ok-same {E = Refusal} before last is) holds
through P step number before last (fields ∷ rows) holds is =
    let a = first-row number before last fields rows is in
    through P step (next_number number) a.0 last rows (step number before a.0 fields holds a.1) a.2

-- a good script after the first rows: the start is theirs where setup rows come too late
pub record Goes (first : PlainDraft) (number : ℕ) (draft : PlainDraft) : Type 0 where
  pub good : IsGood number draft
  pub start : first.is_late ≡ true → draft.script.start ≡ first.script.start
  pub limits : draft.script.limits ≡ first.script.limits
  pub late : first.is_late ≡ true → draft.is_late ≡ true
  pub batch : draft.batch ≡ first.batch

module _ (first : PlainDraft) (number : ℕ) (before after : PlainDraft) (goes : Goes first number before) where
  by-kept : Kept before after → Goes first (next_number number) after
  by-kept kept = record {
    good = kept-good number before after goes.good kept;
    start = λ is. kept.start (goes.late is) ∙ goes.start is;
    limits = kept.limits ∙ goes.limits;
    late = λ is. kept.late ∙ goes.late is;
    batch = kept.batch ∙ goes.batch;
  }

  -- an instruction row or a swap leaves the start, and setup rows come too late after it
  by-item : (rows : List PlainRow) (lane : ℕ) → with_item before rows lane ≡ after → IsGood (next_number number) after → Goes first (next_number number) after
  by-item rows lane is good = record {
    good = good;
    start = λ late. sym (ap (λ (d : PlainDraft). d.script.start) is) ∙ goes.start late;
    limits = sym (ap (λ (d : PlainDraft). d.script.limits) is) ∙ goes.limits;
    late = λ _. sym (ap (λ (d : PlainDraft). d.is_late) is);
    batch = sym (ap (λ (d : PlainDraft). d.batch) is) ∙ goes.batch;
  }

  goes-row : (fields : Fields) → with_row before number fields ≡ Ok after → Goes first (next_number number) after
  goes-row =
      by-row number before after by-kept
      (λ words one. by-item _ words.lane one.is (one-good number before after words goes.good one))
      (λ words two. by-item _ words.lane two.is (two-good number before after words goes.good two))

-- ---- a script

pub first-good : (number : ℕ) (draft : PlainDraft) → draft.script.rows ≡ [] → draft.script.lanes ≡ 1 → draft.items ≡ 0 → number ≤ 2 ^ 32 - 1
    → IsGood number draft
first-good number draft none one items small = record {
  rows = empty-rows draft.script none one;
  below = subst (All (λ (r : PlainRow). r.number < number)) (sym none) (All-nil (λ (r : PlainRow). r.number < number));
  quiet = λ _. none;
  items = items ∙ sym (ap (λ (rows : List PlainRow). length (items_of rows)) none);
  single = λ _. subst HasNoSwap (sym none) (λ i j d before within. absurd (omega arith));
  small = small;
}

abbrev pub last_script : PlainDraft → Result PlainScript Refusal
last_script last = Ok last.script

-- what holds of the script that rows give
pub record Gives (draft : PlainDraft) (script : PlainScript) : Type 0 where
  pub rows : AreRows script
  pub start : draft.is_late ≡ true → script.start ≡ draft.script.start
  pub limits : script.limits ≡ draft.script.limits
  pub single : draft.batch ≡ true → HasNoSwap script.rows

pub goes-on : (number : ℕ) (draft last : PlainDraft) (rows : List Fields) → IsGood number draft → draft_after draft number rows ≡ Ok last
    → Goes draft (number_after number rows) last
goes-on number draft last rows good is =
    through (Goes draft) (λ n b d fields goes. goes-row draft n b d goes fields) number draft last rows
    (record { good = good; start = λ _. refl; limits = refl; late = λ late. late; batch = refl }) is

pub from-rows : (number : ℕ) (draft : PlainDraft) (rows : List Fields) (script : PlainScript) → IsGood number draft
    → Ok script ≡ script_from draft number rows → Gives draft script
from-rows number draft rows script good is =
    let a = bind-ok (draft_after draft number rows) last_script script (sym is) in
    let ends = goes-on number draft a.0 rows good a.1 in
    subst (Gives draft) (ok-same {E = Refusal} a.0.script script a.2)
    (record { rows = ends.good.rows; start = ends.start; limits = ends.limits; single = λ batch. ends.good.single (ends.batch ∙ batch) })

-- rows that have no lower numbers
abbrev pub AreFrom : ℕ → List PlainRow → Type 0
AreFrom low rows = All (λ (row : PlainRow). low ≤ row.number) rows

abbrev RunFrom : ℕ → ℕ → PlainDraft → Type 0
RunFrom low number draft = (low ≤ number) × AreFrom low draft.script.rows

runs-from : (low : ℕ) → low ≤ 2 ^ 32 - 1 → (number : ℕ) (before after : PlainDraft) (fields : Fields) → RunFrom low number before
    → with_row before number fields ≡ Ok after → RunFrom low (next_number number) after
runs-from low small number before after fields (below, from) is =
    let Low : PlainRow → Type 0 = λ (row : PlainRow). low ≤ row.number in
    let rows = before.script.rows in (
      omega arith,
      by-row number before after (λ kept. subst (AreFrom low) (sym kept.rows) from)
          (λ words one. subst (λ (d : PlainDraft). AreFrom low d.script.rows) one.is (All-push Low rows (instruction_row number before.clock words) from below))
          (λ words two.
          let first = instruction_row number before.clock (first_leg words) in
          let second = instruction_row number before.clock (second_leg words) in
          subst (λ (d : PlainDraft). AreFrom low d.script.rows) two.is
          (All-append Low rows (first ∷ second ∷ []) from (All-cons Low first (second ∷ []) below (All-cons Low second [] below (All-nil Low)))))
          fields is,
    )

pub none-lower : (number : ℕ) (before last : PlainDraft) (rows : List Fields) → number ≤ 2 ^ 32 - 1 → AreFrom number before.script.rows
    → draft_after before number rows ≡ Ok last → AreFrom number last.script.rows
none-lower number before last rows small from is =
    (through (RunFrom number) (runs-from number small) number before last rows (omega arith, from) is).1

pub none-found : {A : Type 0} (found : List Finding) (next : Result A Refusal) (x : A) → Ok x ≡ unless_found found next → (found ≡ []) × (Ok x ≡ next)
none-found [] next x is = (refl, is)
none-found (finding ∷ found) next x is = absurd (no-error _ x (sym is))

-- what a dump and the rows after it give: the dump has no fault and no findings
from-dump : (limits : Limits) (batch : Bool) (dump : PlainAnswer) (script : PlainScript) → Ok script ≡ behind limits batch dump
    → (read : PlainDump) × (dump ≡ Ok read) × (findings read.accounts ≡ []) × Gives (behind_dump limits batch read.accounts) script
from-dump limits batch (Err fault) script is = absurd (no-error _ script (sym is))
from-dump limits batch (Ok dump) script is =
    let draft = behind_dump limits batch dump.accounts in
    let number = next_number dump.count in
    let a = none-found (findings dump.accounts) (script_from draft number dump.behind) script is in
    (dump, refl, a.0, from-rows number draft dump.behind script (first-good number draft refl refl refl (omega arith)) a.1)

-- accounts that are accepted and have no findings
pub record AreAudited (limits : Limits) (accounts : PlainAccounts) : Type 0 where
  pub accepted : AreAccepted limits accounts
  pub held : HoldBytes accounts
  pub none : findings accounts ≡ []

pub dump-audited : (limits : Limits) → AreLimits limits → (batch : Bool) (rows : List Fields) (dump : PlainAnswer) (script : PlainScript)
    → AnswersDump limits rows dump → Ok script ≡ behind limits batch dump → AreAudited script.limits script.start
dump-audited limits are batch rows dump script told is =
    let a = from-dump limits batch dump script is in
    let read = dump-read limits are rows a.0 (subst (AnswersDump limits rows) a.1 told) in
    let audited : AreAudited limits a.0.accounts = record { accepted = read.accepted; held = read.held; none = a.2 } in
    subst (λ (l : Limits). AreAudited l script.start) (sym a.3.limits) (subst (AreAudited limits) (sym (a.3.start refl)) audited)

-- what holds of every script within limits
record IsRead (limits : Limits) (batch : Bool) (script : PlainScript) : Type 0 where
  rows : AreRows script
  single : batch ≡ true → HasNoSwap script.rows
  limits_are : script.limits ≡ limits

by-answer : (limits : Limits) (batch begins : Bool) (rows : List Fields) (script : PlainScript) → AnswersBy limits batch begins rows (Ok script)
    → IsRead limits batch script
by-answer limits batch true rows script told =
    let gives = (from-dump limits batch told.0 script told.2).3 in record { rows = gives.rows; single = gives.single; limits_are = gives.limits }
by-answer limits batch false rows script is =
    let none = no_rows limits batch in
    let gives = from-rows 1 none rows script (first-good 1 none refl refl refl (omega arith)) is in
    record { rows = gives.rows; single = gives.single; limits_are = gives.limits }

pub read-rows : (limits : Limits) (batch : Bool) (text : List ℕ) (script : PlainScript) → ReadsWithin limits batch text script → AreRows script
read-rows limits batch text script reads = (by-answer limits batch (begins_with_dump (rows_of text)) (rows_of text) script reads).rows

pub read-limits : (limits : Limits) (batch : Bool) (text : List ℕ) (script : PlainScript) → ReadsWithin limits batch text script → script.limits ≡ limits
read-limits limits batch text script reads = (by-answer limits batch (begins_with_dump (rows_of text)) (rows_of text) script reads).limits_are

pub read-apart : (limits : Limits) (text : List ℕ) (script : PlainScript) → ReadsWithin limits true text script → HasNoSwap script.rows
read-apart limits text script reads = (by-answer limits true (begins_with_dump (rows_of text)) (rows_of text) script reads).single refl

pub read-dump : (limits : Limits) → AreLimits limits → (batch : Bool) (text : List ℕ) (script : PlainScript)
    → begins_with_dump (rows_of text) ≡ true → ReadsWithin limits batch text script → AreAudited script.limits script.start
read-dump limits are batch text script begins reads =
    let told = subst (λ (b : Bool). AnswersBy limits batch b (rows_of text) (Ok script)) begins reads in
    dump-audited limits are batch (rows_of text) told.0 script told.1 told.2
