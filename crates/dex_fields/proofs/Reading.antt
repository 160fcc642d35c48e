-- What stands in a field: of a part, of joined bytes, and how large it is.
use Rattle.std.proofs.Common.{◌≡◌, ℕ, ◌+◌, ◌*◌, ◌-◌, ◌<◌, ◌≤◌, ◌^◌, List, ◌++◌, length, take, drop, get_or, refl, sym, ap, ◌∙◌, arith, inl, inr, subst}
use Rattle.std.proofs.lemmas.List.{drop-append-le, drop-drop, drop-take, drop_at, get_or-drop, get_or-take, drop_more, get_or_past, length-drop, length-take, length-take-le, take-append-drop, take-append-le, take-take}
use Rattle.std.proofs.lemmas.Bool.{cases_lt}
use Rattle.dex_fields.specs.declared.field.Field.{Field}
use Rattle.dex_fields.specs.Bytes.{AreBytes, IsWithin, bytes_in, end_of, moved_by, number_in, number_of_bytes}
use Rattle.dex_fields.proofs.Numbers.{number_of_bytes-lt}

-- ---- a field of a part

-- a field of the bytes that stand in an outer field is that field, so much further on
pub bytes_in-bytes_in : (bytes : List ℕ) (outer field : Field) → end_of field ≤ outer.len
    → bytes_in (bytes_in bytes outer) field ≡ bytes_in bytes (moved_by outer.at field)
unfolding bytes_in
bytes_in-bytes_in bytes outer field h =
    let rest : ℕ = outer.len - field.at in
    let whole : outer.len ≡ field.at + rest = omega arith in
    let tail : List ℕ = drop outer.at bytes in
    ap (λ (n : ℕ). take field.len (drop field.at (take n tail))) whole
    ∙ ap (take field.len) (drop-take field.at rest tail)
    ∙ take-take field.len rest (drop field.at tail) (omega arith)
    ∙ ap (take field.len) (drop-drop field.at outer.at bytes)

pub number_in-bytes_in : (bytes : List ℕ) (outer field : Field) → end_of field ≤ outer.len
    → number_in (bytes_in bytes outer) field ≡ number_in bytes (moved_by outer.at field)
unfolding number_in
number_in-bytes_in bytes outer field h = ap number_of_bytes (bytes_in-bytes_in bytes outer field h)

-- ---- lengths and sizes

pub length-bytes_in : (bytes : List ℕ) (field : Field) → IsWithin field bytes → length (bytes_in bytes field) ≡ field.len
unfolding bytes_in
length-bytes_in bytes field within = length-take-le field.len (drop field.at bytes) (omega (arith, length-drop field.at bytes))

pub AreBytes-take : (count : ℕ) (bytes : List ℕ) → AreBytes bytes → AreBytes (take count bytes)
AreBytes-take count bytes h place =
    elim (cases_lt place count) [
      | inl lt ↦ rw (get_or-take count bytes place 0 lt) (h place)
      | inr le ↦ rw (get_or_past (take count bytes) place 0 (omega (arith, length-take count bytes))) (omega arith)
    ]

pub AreBytes-bytes_in : (bytes : List ℕ) (field : Field) → AreBytes bytes → AreBytes (bytes_in bytes field)
unfolding bytes_in
AreBytes-bytes_in bytes field h = AreBytes-take field.len (drop field.at bytes) (λ place. rw (get_or-drop field.at bytes place 0) (h (field.at + place)))

-- a number in a field fits its width
pub number_in-lt : (bytes : List ℕ) (field : Field) → AreBytes bytes → IsWithin field bytes → number_in bytes field < 256 ^ field.len
unfolding number_in
number_in-lt bytes field h within =
    let size = length-bytes_in bytes field within in
    let below = number_of_bytes-lt (bytes_in bytes field) (AreBytes-bytes_in bytes field h) in
    subst (λ (n : ℕ). number_of_bytes (bytes_in bytes field) < 256 ^ n) size below

-- ---- joined bytes

-- a field of the front of joined bytes
pub bytes_in-append_left : (front back : List ℕ) (field : Field) → IsWithin field front → bytes_in (front ++ back) field ≡ bytes_in front field
unfolding bytes_in
bytes_in-append_left front back field within =
    ap (take field.len) (drop-append-le field.at front back (omega arith))
    ∙ take-append-le field.len (drop field.at front) back (omega (arith, length-drop field.at front))

-- a field of the back of joined bytes
pub bytes_in-append_right : (front back : List ℕ) (field : Field) → bytes_in (front ++ back) (moved_by (length front) field) ≡ bytes_in back field
unfolding bytes_in
bytes_in-append_right front back field =
    ap (take field.len) (sym (drop-drop field.at (length front) (front ++ back)))
    ∙ ap (λ (l : List ℕ). take field.len (drop field.at l)) (drop_at front back (length front) refl)

-- a field and what stands after it
pub bytes_in-rest : (bytes : List ℕ) (field : Field) → bytes_in bytes field ++ drop field.len (drop field.at bytes) ≡ drop field.at bytes
unfolding bytes_in
bytes_in-rest bytes field = take-append-drop field.len (drop field.at bytes)

-- the one byte of a field of one byte
pub number_in-one : (bytes : List ℕ) (field : Field) → field.len ≡ 1 → IsWithin field bytes → get_or bytes field.at 0 ≡ number_in bytes field
unfolding number_in number_of_bytes bytes_in
number_in-one bytes field one within =
    let whole : get_or bytes field.at 0 + 256 * 0 ≡ number_of_bytes (take 1 (drop field.at bytes)) = sym (ap (λ (l : List ℕ). number_of_bytes (take 1 l)) (drop_more bytes field.at 0 (omega arith))) in
    sym (omega arith) ∙ whole ∙ ap (λ (n : ℕ). number_of_bytes (take n (drop field.at bytes))) (sym one)
