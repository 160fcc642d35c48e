-- A dump tells where it ends: of two dumps with something after them that are one text, both the dumps and what is
-- after are one.
use Rattle.std.proofs.Common.{◌≡◌, ◌∷◌, ◌++◌, ◌∙◌, ◌==◌, [], ℕ, List, Bool, true, false, not, arith, append_assoc, append-nil, refl, sym, ap}
use Rattle.std.specs.List.{list_all}
use Rattle.std.proofs.lemmas.Bool.{and_parts}
use Rattle.std.proofs.lemmas.Bool.Decides.{nat_tests}
use Rattle.std.proofs.lemmas.List.Folds.{list_all-append}
use Rattle.dex_types.specs.Accounts.{PlainAccounts}
use Rattle.dex_dump_rows.specs.Lines.{Fields}
use Rattle.dex_state.specs.Held.{HoldBytes}
use Rattle.dex_dump.specs.DumpText.{account_rows, behind_first, dump_text, first_row, last_row, line_text, lines_text}
use Rattle.dex_dump.proofs.EachRow.{AreAll, EachRow, all_accounts}
use Rattle.dex_dump.proofs.FieldLaws.{all-implies, is_plain}
use Rattle.dex_dump.proofs.OneText.{dump_text-injective}
use Rattle.dex_dump.proofs.PlainRows.{IsPlain, each_plain, plain}

-- ---- lines

-- no line feed
abbrev is_inside : ℕ → Bool
is_inside byte = not (byte == 10)

no_feed : (c : ℕ) → 10 ≡ c → is_inside c ≡ true → ⊥
no_feed c feed inside = grind (arith, nat_tests)

-- the first line and what is after it are told by a text
one_line : (x y s t : List ℕ) → list_all is_inside x ≡ true → list_all is_inside y ≡ true → x ++ (10 ∷ s) ≡ y ++ (10 ∷ t) → (x ≡ y) × (s ≡ t)
one_line [] [] s t hx hy e = (refl, cc)
one_line [] (c ∷ y) s t hx hy e =
    let feed : 10 ≡ c = cc in
    let inside : is_inside c ≡ true = (and_parts (is_inside c) (list_all is_inside y) hy).0 in
    absurd (no_feed c feed inside)
one_line (c ∷ x) [] s t hx hy e =
    let feed : 10 ≡ c = cc in
    let inside : is_inside c ≡ true = (and_parts (is_inside c) (list_all is_inside x) hx).0 in
    absurd (no_feed c feed inside)
one_line (c ∷ x) (d ∷ y) s t hx hy e =
    let same : c ≡ d = cc in
    let others : x ++ (10 ∷ s) ≡ y ++ (10 ∷ t) = cc in
    let next = one_line x y s t (and_parts (is_inside c) _ hx).1 (and_parts (is_inside d) _ hy).1 others in
    let whole : c ∷ x ≡ d ∷ y = rw (same, next.0) refl in
    (whole, next.1)

-- ---- a row without its line feed

abbrev bare_behind : Fields → List ℕ
bare_behind [] = []
bare_behind (field ∷ fields) = 44 ∷ (field ++ bare_behind fields)

abbrev bare : Fields → List ℕ
bare [] = []
bare (field ∷ fields) = field ++ bare_behind fields

behind-bare : (fields : Fields) (s : List ℕ) → behind_first fields ++ s ≡ bare_behind fields ++ (10 ∷ s)
unfolding behind_first
behind-bare [] s = refl
behind-bare (field ∷ fields) s =
    ap (λ (t : List ℕ). 44 ∷ t) (append_assoc field (behind_first fields) s ∙ ap (λ (t : List ℕ). field ++ t) (behind-bare fields s)
    ∙ sym (append_assoc field (bare_behind fields) (10 ∷ s)))

line-bare : (row : Fields) (s : List ℕ) → line_text row ++ s ≡ bare row ++ (10 ∷ s)
line-bare [] s = behind-bare [] s
line-bare (field ∷ fields) s =
    append_assoc field (behind_first fields) s ∙ ap (λ (t : List ℕ). field ++ t) (behind-bare fields s) ∙ sym (append_assoc field (bare_behind fields) (10 ∷ s))

plain_inside : (c : ℕ) → is_plain c ≡ true → is_inside c ≡ true
plain_inside c h = grind (arith, nat_tests)

inside_behind : (fields : Fields) → IsPlain fields → list_all is_inside (bare_behind fields) ≡ true
inside_behind [] h = refl
inside_behind (field ∷ fields) h =
    let parts = and_parts (plain field) (list_all plain fields) h in
    rw (list_all-append is_inside field (bare_behind fields), all-implies is_plain is_inside plain_inside field parts.0, inside_behind fields parts.1) refl

inside : (row : Fields) → IsPlain row → list_all is_inside (bare row) ≡ true
inside [] h = refl
inside (field ∷ fields) h =
    let parts = and_parts (plain field) (list_all plain fields) h in
    rw (list_all-append is_inside field (bare_behind fields), all-implies is_plain is_inside plain_inside field parts.0, inside_behind fields parts.1) refl

-- ---- rows before the last

-- a text does not begin as the last row does
abbrev goes_on : List ℕ → Bool
goes_on [] = false
goes_on (c ∷ text) = not (c == 101)

record IsBefore (row : Fields) : Type 0 where
  plain : IsPlain row
  other : goes_on (bare row) ≡ true

each_before : EachRow IsBefore
each_before = record {
  mint = λ mint is. record { plain = each_plain.mint mint is; other = refl };
  srm = λ mint is. record { plain = each_plain.srm mint is; other = refl };
  msrm = λ mint is. record { plain = each_plain.msrm mint is; other = refl };
  wallet = λ wallet is. record { plain = each_plain.wallet wallet is; other = refl };
  market = λ market is. record { plain = each_plain.market market is; other = refl };
  orders = λ market at account is. record { plain = each_plain.orders market at account is; other = refl };
}

-- the last row is told from those before it
not_last : (row : Fields) → IsBefore row → bare last_row ≡ bare row → ⊥
not_last row is same =
    let told : goes_on (bare last_row) ≡ true = ap goes_on same ∙ is.other in
    absurd cc

-- of two texts that are one the first rows are one, and so is what is after them
one_row : (row other : Fields) → IsPlain row → IsPlain other → (rows others : List Fields) (s t : List ℕ)
    → lines_text (row ∷ rows) ++ s ≡ lines_text (other ∷ others) ++ t
    → (bare row ≡ bare other) × (lines_text rows ++ s ≡ lines_text others ++ t)
unfolding lines_text
one_row row other h k rows others s t e =
    let left : lines_text (row ∷ rows) ++ s ≡ bare row ++ (10 ∷ (lines_text rows ++ s)) =
    append_assoc (line_text row) (lines_text rows) s ∙ line-bare row (lines_text rows ++ s) in
    let right : lines_text (other ∷ others) ++ t ≡ bare other ++ (10 ∷ (lines_text others ++ t)) =
    append_assoc (line_text other) (lines_text others) t ∙ line-bare other (lines_text others ++ t) in
    one_line (bare row) (bare other) (lines_text rows ++ s) (lines_text others ++ t) (inside row h) (inside other k) (sym left ∙ e ∙ right)

line_by_bare : (row other : Fields) → bare row ≡ bare other → line_text row ≡ line_text other
line_by_bare row other same =
    sym (append-nil (line_text row)) ∙ line-bare row [] ∙ ap (λ (b : List ℕ). b ++ 10 ∷ []) same ∙ sym (line-bare other []) ∙ append-nil (line_text other)

abbrev ended : List Fields → List Fields
ended rows = rows ++ last_row ∷ []

-- a text tells the rows before its first last row, and what is after that
one_front : (rows others : List Fields) → AreAll IsBefore rows → AreAll IsBefore others → (s t : List ℕ)
    → lines_text (ended rows) ++ s ≡ lines_text (ended others) ++ t → (lines_text (ended rows) ≡ lines_text (ended others)) × (s ≡ t)
unfolding lines_text
one_front [] [] h k s t e = (refl, (one_row last_row last_row refl refl [] [] s t e).1)
one_front [] (other ∷ others) h k s t e = absurd (not_last other k.0 (one_row last_row other refl k.0.plain [] (ended others) s t e).0)
one_front (row ∷ rows) [] h k s t e = absurd (not_last row h.0 (sym (one_row row last_row h.0.plain refl (ended rows) [] s t e).0))
one_front (row ∷ rows) (other ∷ others) h k s t e =
    let cut = one_row row other h.0.plain k.0.plain (ended rows) (ended others) s t e in
    let next = one_front rows others h.1 k.1 s t cut.1 in (
      ap (λ (l : List ℕ). l ++ lines_text (ended rows)) (line_by_bare row other cut.0) ∙ ap (λ (l : List ℕ). line_text other ++ l) next.0,
      next.1,
    )

-- one text is of one exchange, and of one text after it
pub dump_text-behind : (accounts others : PlainAccounts) (rest more : List ℕ) → HoldBytes accounts → HoldBytes others
    → dump_text accounts ++ rest ≡ dump_text others ++ more → (accounts ≡ others) × (rest ≡ more)
unfolding lines_text
dump_text-behind accounts others rest more h k e =
    let front = account_rows accounts in
    let front_of_others = account_rows others in
    let first = one_row first_row first_row refl refl (ended front) (ended front_of_others) rest more e in
    let told = one_front front front_of_others (all_accounts IsBefore each_before accounts h) (all_accounts IsBefore each_before others k) rest more first.1 in
    (dump_text-injective accounts others h k (ap (λ (l : List ℕ). line_text first_row ++ l) told.0), told.1)
