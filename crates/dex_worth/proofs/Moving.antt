-- What an entry moved for accounts, by its row.
use Rattle.std.proofs.Common.{ℕ, ◌≡◌, Bool, true, false, List, [], ◌∷◌, Option, Some, None, if◌then◌else◌, refl, sym, ap, ◌∙◌, subst}
use Rattle.std.specs.Option.{option_map}
use Rattle.std.proofs.lemmas.Option.{none-some, same_Some}
use Rattle.dex_types.specs.declared.addresses.Address.{Address}
use Rattle.dex_types.specs.declared.movements.Entry.{Entry}
use Rattle.dex_types.specs.declared.terms.Side.{Side}
use Rattle.dex_types.specs.declared.terms.Side.TheVariants.{Bid, Ask}
use Rattle.dex_types.specs.Rows.{PlainRow}
use Rattle.dex_history.specs.Journal.{Call}
use Rattle.dex_instruction.specs.Reading.{decoded}
use Rattle.dex_eager.specs.Worth.{is_first}
use Rattle.dex_script_types.specs.PlainScript.{PlainScript}
use Rattle.dex_script_types.specs.Firsts.{first_of}
use Rattle.dex_replay.specs.EntryCalls.{call_by, call_told, is_row_on}
use Rattle.dex_worth.specs.declared.amounts.TokenAmounts.{TokenAmounts}
use Rattle.dex_worth.specs.declared.entries.Moved.{Moved}
use Rattle.dex_worth.specs.Amounts.{none}
use Rattle.dex_replay.specs.Debits.{debits_in}
use Rattle.dex_worth.specs.Entries.{AreMoved, deposited_in, entered, for_first, settled_by, settled_in}
use Rattle.dex_replay.specs.Told.{entering, side_of}
use Rattle.dex_worth.proofs.Sums.{pair}

-- ---- the row of a call

first-told : {X Y : Type 0} (test : X → Bool) (told : X → Y) (xs : List X) → first_of test told xs ≡ option_map told (first_of test (λ (x : X). x) xs)
first-told test told [] = refl
first-told {X} test told (x ∷ xs) = by (test x) (first-told test told xs)
  where
    by : (passes : Bool) → first_of test told xs ≡ option_map told (first_of test (λ (y : X). y) xs)
        → (if passes then Some (told x) else first_of test told xs) ≡ option_map told (if passes then Some x else first_of test (λ (y : X). y) xs)
    by true later = refl
    by false later = later

found-told : (script : PlainScript) (market : Address) (entry : Entry) (call : Call) (rows : List PlainRow) → rows ≡ script.rows → call_told script market entry ≡ Some call
    → option_map (call_by script entry) (first_of (is_row_on market entry.row) (λ (one : PlainRow). one) rows) ≡ Some call
found-told script market entry call rows are told =
    ap (λ (some : List PlainRow). option_map (call_by script entry) (first_of (is_row_on market entry.row) (λ (one : PlainRow). one) some)) are
    ∙ sym (first-told (is_row_on market entry.row) (call_by script entry) script.rows) ∙ told

pub call-is : (script : PlainScript) (market : Address) (entry : Entry) (call : Call) (rows : List PlainRow) (row : PlainRow) → rows ≡ script.rows
    → call_told script market entry ≡ Some call → first_of (is_row_on market entry.row) (λ (one : PlainRow). one) rows ≡ Some row → call ≡ call_by script entry row
call-is script market entry call rows row are told found =
    sym (same_Some (call_by script entry row) call (ap (option_map (call_by script entry)) (sym found) ∙ found-told script market entry call rows are told))

pub no-call : (script : PlainScript) (market : Address) (entry : Entry) (call : Call) (rows : List PlainRow) → rows ≡ script.rows
    → call_told script market entry ≡ Some call → first_of (is_row_on market entry.row) (λ (one : PlainRow). one) rows ≡ None → ⊥
no-call script market entry call rows are told missed =
    none-some call (ap (option_map (call_by script entry)) (sym missed) ∙ found-told script market entry call rows are told)

-- ---- amounts of the account that a row names first

by-first : (b : Bool) (coin pc : ℕ) → (if b then pair coin pc else none) ≡ pair (if b then coin else 0) (if b then pc else 0)
by-first true coin pc = refl
by-first false coin pc = refl

-- ---- what moved is what the call tells

pub moved-are : (script : PlainScript) (entry : Entry) (row : PlainRow) (call : Call) (moved : Option Moved) → call ≡ call_by script entry row
    → ((owner : Address) → deposited_in owner moved ≡ for_first owner row.named (entered (side_of (decoded row.bytes)) (debits_in entry)))
    → ((owner : Address) → settled_in owner moved ≡ for_first owner row.named (settled_by entry.reply)) → AreMoved call moved
moved-are script entry row call moved is deposits settles =
    subst (λ (one : Call). AreMoved one moved) (sym is)
    (record {
      deposited = λ owner. deposits owner ∙ by-first (is_first owner row.named) (entering (side_of (decoded row.bytes)) (debits_in entry)).coin_in (entering (side_of (decoded row.bytes)) (debits_in entry)).pc_in;
      settled = λ owner. settles owner ∙ by-first (is_first owner row.named) (settled_by entry.reply).coin (settled_by entry.reply).pc;
    })

-- and nothing moved where nothing was debited or settled

entered-none : (side : Option Side) → (let debits : ℕ = 0 in entered side debits) ≡ none
entered-none None = refl
entered-none (Some Bid) = refl
entered-none (Some Ask) = refl

first-none : (b : Bool) → none ≡ (if b then none else none)
first-none true = refl
first-none false = refl

pub nothing-moved : (script : PlainScript) (market : Address) (entry : Entry) (call : Call) → call_told script market entry ≡ Some call → debits_in entry ≡ 0
    → settled_by entry.reply ≡ none → AreMoved call None
nothing-moved script market entry call told no_debits no_funds =
    by (first_of (is_row_on market entry.row) (λ (one : PlainRow). one) script.rows) refl
  where
    by : (found : Option PlainRow) → first_of (is_row_on market entry.row) (λ (one : PlainRow). one) script.rows ≡ found → AreMoved call None
    by None missed = absurd (no-call script market entry call script.rows refl told missed)
    by (Some row) found =
        moved-are script entry row call None (call-is script market entry call script.rows row refl told found)
        (λ owner. first-none (is_first owner row.named)
        ∙ ap (λ (amounts : TokenAmounts). if is_first owner row.named then amounts else none)
        (sym (ap (entered (side_of (decoded row.bytes))) no_debits ∙ entered-none (side_of (decoded row.bytes)))))
        (λ owner. first-none (is_first owner row.named) ∙ ap (λ (amounts : TokenAmounts). if is_first owner row.named then amounts else none) (sym no_funds))
