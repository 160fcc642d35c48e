-- What the tests of printable fields say.
use Rattle.std.proofs.Common.{◌≡◌, ◌∙◌, ◌==◌, ◌&&◌, ◌≤◌, ◌<◌, ◌+◌, ◌-◌, ◌∷◌, ◌↔◌, ℕ, Bool, List, [], true, false, All, length, take, drop, get_or, arith, refl, sym, ap}
use Rattle.std.specs.Bool.{Decides}
use Rattle.std.proofs.lemmas.Bool.Decides.{Decides-by_and, nat_tests}
use Rattle.std.specs.List.{list_all, onto_first}
use Rattle.std.proofs.Math.Bool.{and-true, and_assoc}
use Rattle.std.proofs.lemmas.Bool.{eqb-true}
use Rattle.std.proofs.lemmas.List.{take_all}
use Rattle.std.proofs.lemmas.List.Folds.{list_all_at, list_all_more}
use Rattle.csv.specs.Records.{Row, cut_from, fields_of, text_of}
use Rattle.std.proofs.lemmas.List.Elements.{All-cons, All-drop, All-nil, All-take}
use Rattle.dex_rows.specs.Lines.{cells_of}
use Rattle.dex_rows.specs.Printable.{IsPrintable, IsPrintableByte, is_printable, is_printable_byte, row_is_printable}

byte_decides : (byte : ℕ) → Decides (is_printable_byte byte) (IsPrintableByte byte)
byte_decides byte = (λ h. (grind (arith, nat_tests), grind (arith, nat_tests)), λ p. grind (arith, nat_tests))

pub is_printable-decides : (field : List ℕ) → Decides (is_printable field) (IsPrintable field)
unfolding is_printable
is_printable-decides field = Decides-by_and is_printable_byte IsPrintableByte is_printable byte_decides refl (λ _ _. refl) field

pub row_is_printable-decides : (row : List (List ℕ)) → Decides (row_is_printable row) (All IsPrintable row)
unfolding row_is_printable
row_is_printable-decides row = Decides-by_and is_printable IsPrintable row_is_printable is_printable-decides refl (λ _ _. refl) row

-- a test that answers as the definition does says the fact
pub field_every : (answer : Bool) (field : List ℕ) → answer ≡ is_printable field → (answer ≡ true) ↔ IsPrintable field
field_every answer field e = rw e (is_printable-decides field)

pub row_every : (answer : Bool) (row : List (List ℕ)) → answer ≡ row_is_printable row → (answer ≡ true) ↔ All IsPrintable row
row_every answer row e = rw e (row_is_printable-decides row)

-- one more field
pub row_more : (row : List (List ℕ)) (place : ℕ) (field : List ℕ) → place < length row → field ≡ get_or row place [] → is_printable field ≡ true
    → row_is_printable (take place row) ≡ true → row_is_printable (take (place + 1) row) ≡ true
unfolding row_is_printable
row_more row place field below same printable before =
    rw (list_all_more is_printable row place [] below, before, ← same, printable) refl

-- a field that fails
pub row_fails : (row : List (List ℕ)) (place : ℕ) (field : List ℕ) → place < length row → field ≡ get_or row place [] → is_printable field ≡ false
    → false ≡ row_is_printable row
unfolding row_is_printable
row_fails row place field below same printable = sym (list_all_at is_printable row place [] below (rw (← same) printable))

-- all fields
pub row_all : (row : List (List ℕ)) (place : ℕ) → length row ≤ place → row_is_printable (take place row) ≡ true → true ≡ row_is_printable row
row_all row place past all = sym (rw (take_all place row past) at all)

-- each field that is cut of printable bytes is printable
cut_printable : (start : ℕ) (ends bytes : List ℕ) → IsPrintable bytes → All IsPrintable (cut_from start ends bytes)
unfolding cut_from
cut_printable start [] bytes h = All-nil IsPrintable
cut_printable start (end ∷ ends) bytes h =
    All-cons IsPrintable (take (end - start) (drop start bytes)) (cut_from end ends bytes)
    (All-take IsPrintableByte (end - start) (drop start bytes) (All-drop IsPrintableByte start bytes h)) (cut_printable end ends bytes h)

-- a record whose bytes are printable, whether or not all of them stand in fields
pub row_of_printable : (row : Row) → is_printable (text_of row) ≡ true → row_is_printable (fields_of row) ≡ true
row_of_printable row h =
    (row_is_printable-decides (fields_of row)).1 (cut_printable 0 row.ends row.bytes ((is_printable-decides (text_of row)).0 h))

-- a field with one more byte
onto_printable : (c : ℕ) (parts : List (List ℕ)) → list_all is_printable (onto_first c parts) ≡ (is_printable_byte c && list_all is_printable parts)
unfolding is_printable
onto_printable c [] = and-true (is_printable_byte c && true)
onto_printable c (part ∷ parts) = and_assoc (is_printable_byte c) (list_all is_printable_byte part) (list_all is_printable parts)

cells_at : (c : ℕ) (rest : List ℕ) (comma : Bool) → (c == 44) ≡ comma → list_all is_printable (cells_of rest) ≡ list_all is_printable_byte rest
    → list_all is_printable (cells_of (c ∷ rest)) ≡ list_all is_printable_byte (c ∷ rest)
unfolding is_printable
cells_at c rest true e more = rw (e, eqb-true c 44 e) more
cells_at c rest false e more = rw e (onto_printable c (cells_of rest) ∙ ap (λ all. is_printable_byte c && all) more)

-- a comma is printable, so a row that stands in a text is so as it stands
cells_printable : (line : List ℕ) → list_all is_printable (cells_of line) ≡ list_all is_printable_byte line
unfolding is_printable
cells_printable [] = refl
cells_printable (c ∷ rest) = cells_at c rest (c == 44) refl (cells_printable rest)

pub line_printable : (line : List ℕ) → is_printable line ≡ row_is_printable (cells_of line)
unfolding is_printable row_is_printable
line_printable line = sym (cells_printable line)
