-- Fields of records and of items that stand one after another, and which of them are apart.
use Rattle.std.proofs.Common.{◌≡◌, ◌≢◌, ℕ, zero, suc, Bool, true, ◌||◌, leb, ◌+◌, ◌-◌, ◌*◌, ◌<◌, ◌≤◌, List, length, replicate, get_or, take, drop, refl, sym, ap, subst, ◌∙◌, arith, inl, inr}
use Rattle.std.proofs.Math.Nat.{add-mul, mul-le-mul_right, one-mul}
use Rattle.std.proofs.lemmas.Bool.{cases_lt, leb-true, or_cases}
use Rattle.std.proofs.lemmas.Grind.{same_number_lists}
use Rattle.std.proofs.lemmas.List.{drop-replicate, get_or-drop, get_or-take, take-replicate}
use Rattle.std.specs.List.{All}
use Rattle.dex_fields.specs.declared.field.Field.{Field}
use Rattle.dex_fields.specs.Bytes.{AreApart, bytes_in, end_of, item_of, moved_by, number_in, number_of_bytes, with_number}
use Rattle.dex_fields.specs.Tiling.{Tile}
use Rattle.dex_fields.proofs.Writing.{bytes_in-with_number_apart, number_in-with_number_apart}

pub AreApart-sym : (a b : Field) → AreApart a b → AreApart b a
AreApart-sym a b (inl h) = inr h
AreApart-sym a b (inr h) = inl h

-- the test of it, which computes at fields that are written out
abbrev pub are_apart : Field → Field → Bool
are_apart a b = leb (end_of a) b.at || leb (end_of b) a.at

pub AreApart-from_test : (a b : Field) → are_apart a b ≡ true → AreApart a b
AreApart-from_test a b h =
    elim (or_cases (leb (end_of a) b.at) (leb (end_of b) a.at) h) [
      | inl first ↦ inl (leb-true (end_of a) b.at first)
      | inr second ↦ inr (leb-true (end_of b) a.at second)
    ]

-- what stands in another field that is written out, where a number is written
pub bytes_in-other : (bytes : List ℕ) (field : Field) (x : ℕ) (other : Field) → are_apart other field ≡ true
    → bytes_in (with_number bytes field x) other ≡ bytes_in bytes other
bytes_in-other bytes field x other h = bytes_in-with_number_apart bytes other field x (AreApart-from_test other field h)

pub number_in-other : (bytes : List ℕ) (field : Field) (x : ℕ) (other : Field) → are_apart other field ≡ true
    → number_in (with_number bytes field x) other ≡ number_in bytes other
number_in-other bytes field x other h = number_in-with_number_apart bytes other field x (AreApart-from_test other field h)

-- fields of one record are apart wherever it stands
pub AreApart-moved_by : (base : ℕ) (a b : Field) → AreApart a b → AreApart (moved_by base a) (moved_by base b)
AreApart-moved_by base a b (inl h) = inl (omega arith)
AreApart-moved_by base a b (inr h) = inr (omega arith)

-- what is apart from a field is apart from each part of it
pub AreApart-part : (outer part other : Field) → outer.at ≤ part.at → end_of part ≤ end_of outer → AreApart outer other → AreApart part other
AreApart-part outer part other behind before (inl h) = inl (omega arith)
AreApart-part outer part other behind before (inr h) = inr (omega arith)

next_item : (index width : ℕ) → (index + 1) * width ≡ index * width + width
next_item index width = add-mul index 1 width ∙ ap (λ (w : ℕ). index * width + w) (one-mul width)

-- an earlier item ends before a later one begins
pub item_before : (width i j : ℕ) → i < j → i * width + width ≤ j * width
item_before width i j lt =
    let below : (i + 1) * width ≤ j * width = mul-le-mul_right width (omega arith) in
    omega (arith, next_item i width)

-- two items of one field are apart
pub AreApart-item_of : (field : Field) (width i j : ℕ) → i ≢ j → AreApart (item_of field width i) (item_of field width j)
AreApart-item_of field width i j other =
    elim (cases_lt i j) [
      | inl lt ↦ inl (omega (arith, item_before width i j lt))
      | inr ge ↦ inr (omega (arith, item_before width j i (omega arith)))
    ]

-- an item lies in its field
pub item_within : (field : Field) (width count index : ℕ) → index < count → count * width ≤ field.len
    → (field.at ≤ (item_of field width index).at) × (end_of (item_of field width index) ≤ end_of field)
item_within field width count index lt fits = (omega arith, omega (arith, item_before width index count lt))

-- the byte at a place of a field
pub get_or-bytes_in : (bytes : List ℕ) (field : Field) (k : ℕ) → k < field.len → get_or (bytes_in bytes field) k 0 ≡ get_or bytes (field.at + k) 0
unfolding bytes_in
get_or-bytes_in bytes field k lt = get_or-take field.len (drop field.at bytes) k 0 lt ∙ get_or-drop field.at bytes k 0

-- two accounts whose fields hold the same bytes are one
pub same_by_fields : (fields : List Field) (size : ℕ) (xs ys : List ℕ) → Tile fields size → length xs ≡ size → length ys ≡ size
    → All (λ field. bytes_in xs field ≡ bytes_in ys field) fields → xs ≡ ys
same_by_fields fields size xs ys tile lx ly same =
    same_number_lists xs ys (lx ∙ sym ly) (λ place below.
    let found = tile.covers place (omega arith) in
    let field : Field = found.1 in
    let k : ℕ = place - field.at in
    let here : place ≡ field.at + k = omega (arith, found.4) in
    let held : bytes_in xs field ≡ bytes_in ys field = subst (λ (f : Field). bytes_in xs f ≡ bytes_in ys f) found.3 (same found.0 field found.2) in
    ap (λ (p : ℕ). get_or xs p 0) here
    ∙ sym (get_or-bytes_in xs field k (omega (arith, found.4)))
    ∙ ap (λ (l : List ℕ). get_or l k 0) held
    ∙ get_or-bytes_in ys field k (omega (arith, found.4))
    ∙ ap (λ (p : ℕ). get_or ys p 0) (sym here))

-- a field of bytes that are all one
pub bytes_in-replicate : (count b : ℕ) (field : Field) → end_of field ≤ count → bytes_in (replicate count b) field ≡ replicate field.len b
unfolding bytes_in
bytes_in-replicate count b field h =
    ap (take field.len) (drop-replicate field.at count b) ∙ take-replicate field.len (count - field.at) b (omega arith)

-- zeros spell zero
pub number_of_bytes-zeros : (count : ℕ) → number_of_bytes (replicate count 0) ≡ 0
unfolding number_of_bytes
number_of_bytes-zeros zero = refl
number_of_bytes-zeros (suc count) = omega (arith, number_of_bytes-zeros count)
