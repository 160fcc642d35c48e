-- What a write into a field leaves, in that field and in every other.
use Rattle.std.proofs.Common.{◌≡◌, ℕ, zero, suc, ◌+◌, ◌-◌, ◌/◌, ◌%◌, ◌<◌, ◌≤◌, ◌^◌, ◌⊎◌, List, [], ◌∷◌, ◌++◌, length, take, drop, set, get_or, refl, sym, ap, ◌∙◌, arith, inl, inr, subst}
use Rattle.std.proofs.lemmas.List.{drop-set-lt, drop-set-add, append_assoc, drop-drop, drop_at, get_or-set_other, length-set, length-take, length-take-le, set-set, set_comm, set_past, take-append-drop, take-set-le, take_all, take_at}
use Rattle.std.proofs.lemmas.Bool.{cases_eq, cases_lt}
use Rattle.std.proofs.lemmas.Grind.{get_or-set_at}
use Rattle.std.proofs.lemmas.List.Edits.{paste_all, sets, sets-eq}
use Rattle.std.proofs.lemmas.Slice.{put_mid-paste}
use borrow.Rule.Slice.PartMut.{put_mid}
use Rattle.dex_fields.specs.declared.field.Field.{Field}
use Rattle.dex_fields.specs.Bytes.{AreApart, AreBytes, IsWithin, bytes_in, bytes_of_number, end_of, number_in, number_of_bytes, set_from, with_bytes, with_number}
use Rattle.dex_fields.proofs.Reading.{AreBytes-bytes_in, AreBytes-take, bytes_in-rest, length-bytes_in}
use Rattle.dex_fields.proofs.Numbers.{bytes_of_number-number_of_bytes, length-bytes_of_number, number_of_bytes-bytes_of_number}

-- ---- bytes set one after another

pub length-set_from : (bytes : List ℕ) (place : ℕ) (piece : List ℕ) → length (set_from bytes place piece) ≡ length bytes
unfolding set_from
length-set_from bytes place [] = refl
length-set_from bytes place (b ∷ piece) = length-set_from (set bytes place b) (suc place) piece ∙ length-set bytes place b

pub set_from-is_sets : (bytes : List ℕ) (place : ℕ) (piece : List ℕ) → set_from bytes place piece ≡ sets bytes place piece
unfolding set_from
set_from-is_sets bytes place [] = refl
set_from-is_sets bytes place (b ∷ piece) = set_from-is_sets (set bytes place b) (suc place) piece

-- where the piece fits: what stands before, the piece, what stands after
pub set_from-parts : (bytes : List ℕ) (place : ℕ) (piece : List ℕ) → place + length piece ≤ length bytes
    → set_from bytes place piece ≡ take place bytes ++ (piece ++ drop (place + length piece) bytes)
set_from-parts bytes place piece h =
    set_from-is_sets bytes place piece ∙ sets-eq piece bytes place h
    ∙ append_assoc (take place bytes) piece (drop (place + length piece) bytes)

-- one byte elsewhere
bytes_in-set : (bytes : List ℕ) (field : Field) (place b : ℕ) → (place < field.at) ⊎ (end_of field ≤ place)
    → bytes_in (set bytes place b) field ≡ bytes_in bytes field
unfolding bytes_in
bytes_in-set bytes field place b (inl h) = ap (take field.len) (drop-set-lt field.at bytes place b h)
bytes_in-set bytes field place b (inr h) =
    let k : ℕ = place - field.at in
    let e : place ≡ field.at + k = omega arith in
    ap (λ (i : ℕ). take field.len (drop field.at (set bytes i b))) e
    ∙ ap (take field.len) (drop-set-add field.at bytes k b)
    ∙ take-set-le field.len (drop field.at bytes) k b (omega arith)

-- bytes elsewhere
pub bytes_in-set_from : (bytes : List ℕ) (field : Field) (place : ℕ) (piece : List ℕ)
    → (place + length piece ≤ field.at) ⊎ (end_of field ≤ place)
    → bytes_in (set_from bytes place piece) field ≡ bytes_in bytes field
unfolding set_from
bytes_in-set_from bytes field place [] h = refl
bytes_in-set_from bytes field place (b ∷ piece) (inl h) =
    bytes_in-set_from (set bytes place b) field (suc place) piece (inl (omega arith))
    ∙ bytes_in-set bytes field place b (inl (omega arith))
bytes_in-set_from bytes field place (b ∷ piece) (inr h) =
    bytes_in-set_from (set bytes place b) field (suc place) piece (inr (omega arith))
    ∙ bytes_in-set bytes field place b (inr h)

-- ---- a piece in a field

pub length-with_bytes : (bytes : List ℕ) (field : Field) (piece : List ℕ) → length (with_bytes bytes field piece) ≡ length bytes
unfolding with_bytes
length-with_bytes bytes field piece = length-set_from bytes field.at (take field.len piece)

-- where a piece fits its field: what stands before, the piece, what stands after
pub with_bytes-parts : (bytes : List ℕ) (field : Field) (piece : List ℕ) → IsWithin field bytes → length piece ≡ field.len
    → with_bytes bytes field piece ≡ take field.at bytes ++ (piece ++ drop (end_of field) bytes)
unfolding with_bytes
with_bytes-parts bytes field piece within same =
    ap (set_from bytes field.at) (take_all field.len piece (omega arith))
    ∙ set_from-parts bytes field.at piece (omega arith)
    ∙ ap (λ (n : ℕ). take field.at bytes ++ (piece ++ drop (field.at + n) bytes)) same

-- what a copy into a part of a slice leaves
pub put_mid-is_with_bytes : (bytes : List ℕ) (field : Field) (piece now : List ℕ) (count : ℕ) → IsWithin field bytes → length piece ≡ field.len
    → count ≡ field.len → now ≡ piece → put_mid field.at count bytes now ≡ with_bytes bytes field piece
put_mid-is_with_bytes bytes field piece now count within same counted copied =
    put_mid-paste field.at count bytes now piece field.len copied (sym counted) (sym same)
    ∙ paste_all bytes field.at piece field.len (sym same)
    ∙ sym (with_bytes-parts bytes field piece within same)

-- a set of one byte is a write of a field of one byte
pub set-is_with_number : (bytes : List ℕ) (field : Field) (x : ℕ) → field.len ≡ 1 → x < 256 → set bytes field.at x ≡ with_number bytes field x
unfolding with_number with_bytes set_from bytes_of_number
set-is_with_number bytes field x one low =
    let byte : x ≡ x % 256 = omega arith in
    ap (set bytes field.at) byte
    ∙ ap (λ (n : ℕ). set_from bytes field.at (take n (bytes_of_number n x))) (sym one)

-- what was put is what stands there
pub bytes_in-with_bytes : (bytes : List ℕ) (field : Field) (piece : List ℕ) → IsWithin field bytes → length piece ≡ field.len
    → bytes_in (with_bytes bytes field piece) field ≡ piece
unfolding with_bytes bytes_in
bytes_in-with_bytes bytes field piece within same =
    let cut : take field.len piece ≡ piece = take_all field.len piece (omega arith) in
    let front : length (take field.at bytes) ≡ field.at = length-take-le field.at bytes (omega arith) in
    let behind : List ℕ = drop (field.at + length piece) bytes in
    let parts : set_from bytes field.at piece ≡ take field.at bytes ++ (piece ++ behind) = set_from-parts bytes field.at piece (omega arith) in
    ap (λ (p : List ℕ). take field.len (drop field.at (set_from bytes field.at p))) cut
    ∙ ap (λ (l : List ℕ). take field.len (drop field.at l)) parts
    ∙ ap (take field.len) (drop_at (take field.at bytes) (piece ++ behind) field.at front)
    ∙ take_at piece behind field.len same

-- a field apart from the one that was written keeps its bytes
pub bytes_in-with_bytes_apart : (bytes : List ℕ) (other field : Field) (piece : List ℕ) → AreApart other field
    → bytes_in (with_bytes bytes field piece) other ≡ bytes_in bytes other
unfolding with_bytes
bytes_in-with_bytes_apart bytes other field piece (inl h) = bytes_in-set_from bytes other field.at (take field.len piece) (inr h)
bytes_in-with_bytes_apart bytes other field piece (inr h) =
    bytes_in-set_from bytes other field.at (take field.len piece) (inl (omega (arith, length-take field.len piece)))

pub number_in-with_bytes_apart : (bytes : List ℕ) (other field : Field) (piece : List ℕ) → AreApart other field
    → number_in (with_bytes bytes field piece) other ≡ number_in bytes other
unfolding number_in
number_in-with_bytes_apart bytes other field piece apart = ap number_of_bytes (bytes_in-with_bytes_apart bytes other field piece apart)

-- ---- a number in a field

pub length-with_number : (bytes : List ℕ) (field : Field) (x : ℕ) → length (with_number bytes field x) ≡ length bytes
unfolding with_number
length-with_number bytes field x = length-with_bytes bytes field (bytes_of_number field.len x)

-- the number that was put is the one that stands there
pub number_in-with_number : (bytes : List ℕ) (field : Field) (x : ℕ) → IsWithin field bytes → x < 256 ^ field.len
    → number_in (with_number bytes field x) field ≡ x
unfolding with_number number_in
number_in-with_number bytes field x within fits =
    ap number_of_bytes (bytes_in-with_bytes bytes field (bytes_of_number field.len x) within (length-bytes_of_number field.len x))
    ∙ number_of_bytes-bytes_of_number field.len x fits

-- a number is read back from the bytes that its write left, at a width that is known
pub with_number-fits : (bytes now : List ℕ) (field : Field) (x width : ℕ) → field.len ≡ width → IsWithin field bytes → x < 256 ^ width
    → now ≡ with_number bytes field x → number_in now field ≡ x
with_number-fits bytes now field x width wide within fits made =
    ap (λ (l : List ℕ). number_in l field) made
    ∙ number_in-with_number bytes field x within (subst (λ (n : ℕ). x < 256 ^ n) (sym wide) fits)

pub bytes_in-with_number_apart : (bytes : List ℕ) (other field : Field) (x : ℕ) → AreApart other field
    → bytes_in (with_number bytes field x) other ≡ bytes_in bytes other
unfolding with_number
bytes_in-with_number_apart bytes other field x apart = bytes_in-with_bytes_apart bytes other field (bytes_of_number field.len x) apart

pub number_in-with_number_apart : (bytes : List ℕ) (other field : Field) (x : ℕ) → AreApart other field
    → number_in (with_number bytes field x) other ≡ number_in bytes other
unfolding number_in
number_in-with_number_apart bytes other field x apart = ap number_of_bytes (bytes_in-with_number_apart bytes other field x apart)

-- bytes stay bytes where one is set
AreBytes-set : (bytes : List ℕ) (place b : ℕ) → AreBytes bytes → b < 256 → AreBytes (set bytes place b)
AreBytes-set bytes place b h low k =
    elim (cases_eq k place) [
      | inl same ↦ elim (cases_lt place (length bytes)) [
        | inl lt ↦ rw (get_or-set_at bytes place k b 0 same lt) low
        | inr past ↦ rw (set_past bytes place b past) (h k)
      ]
      | inr other ↦ rw (get_or-set_other bytes place k b 0 other) (h k)
    ]

pub AreBytes-set_from : (bytes : List ℕ) (place : ℕ) (piece : List ℕ) → AreBytes bytes → AreBytes piece → AreBytes (set_from bytes place piece)
unfolding set_from
AreBytes-set_from bytes place [] h hp = h
AreBytes-set_from bytes place (b ∷ piece) h hp =
    AreBytes-set_from (set bytes place b) (suc place) piece (AreBytes-set bytes place b h (hp 0)) (λ k. hp (suc k))

pub AreBytes-with_bytes : (bytes : List ℕ) (field : Field) (piece : List ℕ) → AreBytes bytes → AreBytes piece → AreBytes (with_bytes bytes field piece)
unfolding with_bytes
AreBytes-with_bytes bytes field piece h hp = AreBytes-set_from bytes field.at (take field.len piece) h (AreBytes-take field.len piece hp)

pub AreBytes-bytes_of_number : (count x : ℕ) → AreBytes (bytes_of_number count x)
unfolding bytes_of_number
AreBytes-bytes_of_number zero x place = omega arith
AreBytes-bytes_of_number (suc count) x zero = omega arith
AreBytes-bytes_of_number (suc count) x (suc place) = AreBytes-bytes_of_number count (x / 256) place

pub AreBytes-with_number : (bytes : List ℕ) (field : Field) (x : ℕ) → AreBytes bytes → AreBytes (with_number bytes field x)
unfolding with_number
AreBytes-with_number bytes field x h = AreBytes-with_bytes bytes field (bytes_of_number field.len x) h (AreBytes-bytes_of_number field.len x)

-- ---- two writes

-- a set and a later run of sets elsewhere change places
set_from-set : (bytes : List ℕ) (place : ℕ) (piece : List ℕ) (k b : ℕ) → (k < place) ⊎ (place + length piece ≤ k)
    → set_from (set bytes k b) place piece ≡ set (set_from bytes place piece) k b
unfolding set_from
set_from-set bytes place [] k b h = refl
set_from-set bytes place (c ∷ piece) k b (inl h) =
    ap (λ (l : List ℕ). set_from l (suc place) piece) (set_comm bytes k place b c (omega arith))
    ∙ set_from-set (set bytes place c) (suc place) piece k b (inl (omega arith))
set_from-set bytes place (c ∷ piece) k b (inr h) =
    ap (λ (l : List ℕ). set_from l (suc place) piece) (set_comm bytes k place b c (omega arith))
    ∙ set_from-set (set bytes place c) (suc place) piece k b (inr (omega arith))

set_from-comm : (bytes : List ℕ) (a : ℕ) (piece : List ℕ) (b : ℕ) (other : List ℕ) → (a + length piece ≤ b) ⊎ (b + length other ≤ a)
    → set_from (set_from bytes a piece) b other ≡ set_from (set_from bytes b other) a piece
unfolding set_from
set_from-comm bytes a [] b other h = refl
set_from-comm bytes a (c ∷ piece) b other (inl h) =
    set_from-comm (set bytes a c) (suc a) piece b other (inl (omega arith))
    ∙ ap (λ (l : List ℕ). set_from l (suc a) piece) (set_from-set bytes b other a c (inl (omega arith)))
set_from-comm bytes a (c ∷ piece) b other (inr h) =
    set_from-comm (set bytes a c) (suc a) piece b other (inr (omega arith))
    ∙ ap (λ (l : List ℕ). set_from l (suc a) piece) (set_from-set bytes b other a c (inr h))

-- writes of two fields that are apart change places
pub with_bytes-comm : (bytes : List ℕ) (field other : Field) (piece others : List ℕ) → AreApart field other
    → with_bytes (with_bytes bytes field piece) other others ≡ with_bytes (with_bytes bytes other others) field piece
unfolding with_bytes
with_bytes-comm bytes field other piece others (inl h) =
    set_from-comm bytes field.at (take field.len piece) other.at (take other.len others) (inl (omega (arith, length-take field.len piece)))
with_bytes-comm bytes field other piece others (inr h) =
    set_from-comm bytes field.at (take field.len piece) other.at (take other.len others) (inr (omega (arith, length-take other.len others)))

pub with_number-comm : (bytes : List ℕ) (field other : Field) (x y : ℕ) → AreApart field other
    → with_number (with_number bytes field x) other y ≡ with_number (with_number bytes other y) field x
unfolding with_number
with_number-comm bytes field other x y apart = with_bytes-comm bytes field other (bytes_of_number field.len x) (bytes_of_number other.len y) apart

set_from-again : (bytes : List ℕ) (place : ℕ) (piece others : List ℕ) → length piece ≡ length others
    → set_from (set_from bytes place piece) place others ≡ set_from bytes place others
unfolding set_from
set_from-again bytes place [] [] h = refl
set_from-again bytes place [] (b ∷ others) h = absurd (omega arith)
set_from-again bytes place (b ∷ piece) [] h = absurd (omega arith)
set_from-again bytes place (b ∷ piece) (c ∷ others) h =
    ap (λ (l : List ℕ). set_from l (suc place) others) (sym (set_from-set (set bytes place b) (suc place) piece place c (inl (omega arith))))
    ∙ ap (λ (l : List ℕ). set_from (set_from l (suc place) piece) (suc place) others) (set-set bytes place b c)
    ∙ set_from-again (set bytes place c) (suc place) piece others (omega arith)

-- of two writes of one field the later one stands
pub with_bytes-again : (bytes : List ℕ) (field : Field) (piece others : List ℕ) → length piece ≡ length others
    → with_bytes (with_bytes bytes field piece) field others ≡ with_bytes bytes field others
unfolding with_bytes
with_bytes-again bytes field piece others h =
    set_from-again bytes field.at (take field.len piece) (take field.len others) (omega (arith, length-take field.len piece, length-take field.len others))

pub with_number-again : (bytes : List ℕ) (field : Field) (x y : ℕ) → with_number (with_number bytes field x) field y ≡ with_number bytes field y
unfolding with_number
with_number-again bytes field x y =
    with_bytes-again bytes field (bytes_of_number field.len x) (bytes_of_number field.len y) (length-bytes_of_number field.len x ∙ sym (length-bytes_of_number field.len y))

-- a field that is written with what stands in it
pub with_bytes-same : (bytes : List ℕ) (field : Field) → IsWithin field bytes → with_bytes bytes field (bytes_in bytes field) ≡ bytes
unfolding with_bytes
with_bytes-same bytes field within =
    let piece : List ℕ = bytes_in bytes field in
    let size : length piece ≡ field.len = length-bytes_in bytes field within in
    let cut : take field.len piece ≡ piece = take_all field.len piece (omega arith) in
    let tail : List ℕ = drop field.at bytes in
    let rest : drop (field.at + length piece) bytes ≡ drop field.len tail = ap (λ (n : ℕ). drop (field.at + n) bytes) size ∙ sym (drop-drop field.len field.at bytes) in
    ap (set_from bytes field.at) cut
    ∙ set_from-parts bytes field.at piece (omega arith)
    ∙ ap (λ (l : List ℕ). take field.at bytes ++ (piece ++ l)) rest
    ∙ ap (λ (l : List ℕ). take field.at bytes ++ l) (bytes_in-rest bytes field)
    ∙ take-append-drop field.at bytes

pub with_number-same : (bytes : List ℕ) (field : Field) → AreBytes bytes → IsWithin field bytes → with_number bytes field (number_in bytes field) ≡ bytes
unfolding with_number number_in
with_number-same bytes field h within =
    let size = length-bytes_in bytes field within in
    let back = bytes_of_number-number_of_bytes (bytes_in bytes field) (AreBytes-bytes_in bytes field h) in
    ap (λ (n : ℕ). with_bytes bytes field (bytes_of_number n (number_of_bytes (bytes_in bytes field)))) (sym size)
    ∙ ap (with_bytes bytes field) back ∙ with_bytes-same bytes field within

-- ---- single places

get_or-set_from : (bytes : List ℕ) (start : ℕ) (piece : List ℕ) (place : ℕ) → (place < start) ⊎ (start + length piece ≤ place)
    → get_or (set_from bytes start piece) place 0 ≡ get_or bytes place 0
unfolding set_from
get_or-set_from bytes start [] place h = refl
get_or-set_from bytes start (b ∷ piece) place (inl h) =
    get_or-set_from (set bytes start b) (suc start) piece place (inl (omega arith)) ∙ get_or-set_other bytes start place b 0 (omega arith)
get_or-set_from bytes start (b ∷ piece) place (inr h) =
    get_or-set_from (set bytes start b) (suc start) piece place (inr (omega arith)) ∙ get_or-set_other bytes start place b 0 (omega arith)

-- a place outside of the field keeps its byte
pub get_or-with_bytes : (bytes : List ℕ) (field : Field) (piece : List ℕ) (place : ℕ) → (place < field.at) ⊎ (end_of field ≤ place)
    → get_or (with_bytes bytes field piece) place 0 ≡ get_or bytes place 0
unfolding with_bytes
get_or-with_bytes bytes field piece place (inl h) = get_or-set_from bytes field.at (take field.len piece) place (inl h)
get_or-with_bytes bytes field piece place (inr h) = get_or-set_from bytes field.at (take field.len piece) place (inr (omega (arith, length-take field.len piece)))
