-- The rows of a dump are read back from its text.
use Rattle.std.proofs.Common.{◌≡◌, ◌∷◌, ◌++◌, ◌∙◌, [], ℕ, List, true, append_assoc, refl, sym, ap, map}
use Rattle.std.specs.List.{list_all}
use Rattle.std.proofs.lemmas.Bool.{and_parts}
use Rattle.csv.specs.Reading.{strip_bom}
use Rattle.csv.specs.Writing.{default_writer, fields_text, is_blank, read_back, row_text}
use Rattle.csv.proofs.RoundTrip.{rows_text}
use Rattle.dex_types.specs.Accounts.{PlainAccounts}
use Rattle.dex_rows.specs.Records.{rows_of}
use Rattle.dex_rows.proofs.RowLaws.{rows_of-written, strip_bom-none}
use Rattle.dex_dump_rows.specs.Lines.{Fields}
use Rattle.dex_state.specs.Held.{HoldBytes}
use Rattle.dex_dump.specs.DumpText.{account_rows, behind_first, dump_rows, dump_text, first_row, last_row, line_text, lines_text}
use Rattle.dex_dump.proofs.EachRow.{AreAll, EachRow, all_accounts, all_append}
use Rattle.dex_dump.proofs.FieldLaws.{unquoted}
use Rattle.dex_dump.proofs.PlainRows.{IsPlain, each_plain, plain}

-- ---- the text of one row

-- a row whose line is what a writer writes, and that is read as itself
pub record IsWritten (row : Fields) : Type 0 where
  pub text : row_text default_writer row ≡ line_text row
  pub back : read_back row ≡ row

fields_behind : (rest : Fields) → list_all plain rest ≡ true → fields_text default_writer rest ++ (10 ∷ []) ≡ behind_first rest
unfolding fields_text behind_first
fields_behind [] h = refl
fields_behind (field ∷ rest) h =
    let parts = and_parts (plain field) (list_all plain rest) h in
    rw (unquoted field parts.0) (ap (λ (t : List ℕ). 44 ∷ t) (append_assoc field (fields_text default_writer rest) (10 ∷ [])
    ∙ ap (λ (t : List ℕ). field ++ t) (fields_behind rest parts.1)))

-- of two fields or more
written : (x y : List ℕ) (ys : Fields) → IsPlain (x ∷ y ∷ ys) → IsWritten (x ∷ y ∷ ys)
unfolding is_blank
written x y ys all =
    let parts = and_parts (plain x) (list_all plain (y ∷ ys)) all in
    record {
      text = rw (unquoted x parts.0) (append_assoc x (fields_text default_writer (y ∷ ys)) (10 ∷ []) ∙ ap (λ (t : List ℕ). x ++ t) (fields_behind (y ∷ ys) parts.1));
      back = refl;
    }

-- ---- all rows

each_written : EachRow IsWritten
each_written = record {
  mint = λ mint is. written _ _ _ (each_plain.mint mint is);
  srm = λ mint is. written _ _ _ (each_plain.srm mint is);
  msrm = λ mint is. written _ _ _ (each_plain.msrm mint is);
  wallet = λ wallet is. written _ _ _ (each_plain.wallet wallet is);
  market = λ market is. written _ _ _ (each_plain.market market is);
  orders = λ market at account is. written _ _ _ (each_plain.orders market at account is);
}

first_written : IsWritten first_row
unfolding is_blank fields_text behind_first
first_written = record { text = refl; back = refl }

last_written : IsWritten last_row
unfolding is_blank fields_text behind_first
last_written = record { text = refl; back = refl }

all_rows : (accounts : PlainAccounts) → HoldBytes accounts → AreAll IsWritten (dump_rows accounts)
all_rows accounts h =
    (first_written, all_append IsWritten (account_rows accounts) (last_row ∷ []) (all_accounts IsWritten each_written accounts h) (last_written, tt))

-- ---- the text of all

lines_written : (rows : List Fields) → AreAll IsWritten rows → rows_text rows ≡ lines_text rows
unfolding rows_text lines_text
lines_written [] h = refl
lines_written (row ∷ rows) h = rw (h.0.text, lines_written rows h.1) refl

rows_back : (rows : List Fields) → AreAll IsWritten rows → map read_back rows ≡ rows
rows_back [] h = refl
rows_back (row ∷ rows) h = rw (h.0.back, rows_back rows h.1) refl

-- the rows of a dump's text are the dump's rows
pub rows_of-dump : (accounts : PlainAccounts) → HoldBytes accounts → rows_of (dump_text accounts) ≡ dump_rows accounts
unfolding lines_text behind_first
rows_of-dump accounts h =
    let all = all_rows accounts h in
    let text = lines_written (dump_rows accounts) all in
    let bare : strip_bom (rows_text (dump_rows accounts)) ≡ rows_text (dump_rows accounts) = rw text (strip_bom-none _ refl) in
    ap rows_of (sym text) ∙ sym (rows_of-written (dump_rows accounts) bare) ∙ rows_back (dump_rows accounts) all

-- dumps of one text have the same rows
pub one_text : (accounts others : PlainAccounts) → HoldBytes accounts → HoldBytes others → dump_text accounts ≡ dump_text others
    → dump_rows accounts ≡ dump_rows others
one_text accounts others h k same = sym (rows_of-dump accounts h) ∙ ap rows_of same ∙ rows_of-dump others k
