-- Bytes put together from parts: how they are read back, and how they are written one after another.
use Rattle.std.proofs.Common.{◌≡◌, ℕ, zero, suc, ◌+◌, ◌^◌, ◌<◌, List, [], ◌∷◌, ◌++◌, length, map, take, get_or, set, refl, sym, ap, ◌∙◌, subst, arith}
use Rattle.std.proofs.lemmas.List.{append-nil, length-append, take_all, drop_all}
use Rattle.std.specs.List.{concat}
use Rattle.dex_fields.specs.declared.field.Field.{Field}
use Rattle.dex_fields.specs.Bytes.{bytes_in, bytes_of_number, end_of, number_in, number_of_bytes, set_from, with_bytes, with_number}
use Rattle.dex_fields.proofs.Numbers.{length-bytes_of_number, number_of_bytes-bytes_of_number}
use Rattle.dex_fields.proofs.Reading.{bytes_in-append_left, bytes_in-append_right}
use Rattle.dex_fields.proofs.Writing.{set_from-parts}

-- ---- reading

-- where a part begins, by the lengths of the parts
abbrev pub start_of : List ℕ → ℕ → ℕ
start_of [] k = 0
start_of (width ∷ widths) zero = 0
start_of (width ∷ widths) (suc k) = width + start_of widths k

-- the field of a part, by the lengths of the parts
abbrev pub part_field : List ℕ → ℕ → Field
part_field widths k = record { at = start_of widths k; len = get_or widths k 0 }

-- all of some bytes
whole_field : (bytes : List ℕ) → bytes_in bytes (record { at = 0; len = length bytes }) ≡ bytes
unfolding bytes_in
whole_field bytes = take_all (length bytes) bytes (omega arith)

part_here : (parts : List (List ℕ)) (k : ℕ) → k < length parts
    → bytes_in (concat parts) (part_field (map length parts) k) ≡ get_or parts k []
part_here [] k lt = absurd (omega arith)
part_here (part ∷ parts) zero lt =
    bytes_in-append_left part (concat parts) (record { at = 0; len = length part }) (omega arith) ∙ whole_field part
part_here (part ∷ parts) (suc k) lt =
    bytes_in-append_right part (concat parts) (part_field (map length parts) k) ∙ part_here parts k (omega arith)

-- a part stands in its field
pub part_in : (parts : List (List ℕ)) (widths : List ℕ) (k : ℕ) → map length parts ≡ widths → k < length parts
    → bytes_in (concat parts) (part_field widths k) ≡ get_or parts k []
part_in parts widths k same lt = subst (λ (w : List ℕ). bytes_in (concat parts) (part_field w k) ≡ get_or parts k []) same (part_here parts k lt)

-- a part that spells a number
pub number_from : (bytes : List ℕ) (field : Field) (count x : ℕ) → bytes_in bytes field ≡ bytes_of_number count x → x < 256 ^ count → number_in bytes field ≡ x
unfolding number_in
number_from bytes field count x same fits = ap number_of_bytes same ∙ number_of_bytes-bytes_of_number count x fits

-- the lengths together
abbrev pub total_of : List ℕ → ℕ
total_of [] = 0
total_of (width ∷ widths) = width + total_of widths

pub length-concat : (parts : List (List ℕ)) → length (concat parts) ≡ total_of (map length parts)
length-concat [] = refl
length-concat (part ∷ parts) = length-append part (concat parts) ∙ ap (λ (n : ℕ). length part + n) (length-concat parts)

-- ---- writing

set_from-append : (bytes : List ℕ) (place : ℕ) (front back : List ℕ)
    → set_from bytes place (front ++ back) ≡ set_from (set_from bytes place front) (place + length front) back
unfolding set_from
set_from-append bytes place [] back =
    let same : place ≡ place + 0 = omega arith in
    ap (λ (n : ℕ). set_from bytes n back) same
set_from-append bytes place (b ∷ front) back =
    let next : List ℕ = set bytes place b in
    let same : suc place + length front ≡ place + suc (length front) = omega arith in
    set_from-append next (suc place) front back ∙ ap (λ (n : ℕ). set_from (set_from next (suc place) front) n back) same

-- a part is written, and then those after it
pub part_written : (old next end : List ℕ) (field : Field) (part back : List ℕ) → next ≡ with_bytes old field part → length part ≡ field.len
    → set_from next (end_of field) back ≡ end → set_from old field.at (part ++ back) ≡ end
unfolding with_bytes
part_written old next end field part back put same then =
    let cut : take field.len part ≡ part = take_all field.len part (omega arith) in
    set_from-append old field.at part back
    ∙ ap (λ (n : ℕ). set_from (set_from old field.at part) (field.at + n) back) same
    ∙ ap (λ (l : List ℕ). set_from l (end_of field) back) (ap (set_from old field.at) (sym cut) ∙ sym put)
    ∙ then

pub number_written : (old next end : List ℕ) (field : Field) (x : ℕ) (back : List ℕ) → next ≡ with_number old field x
    → set_from next (end_of field) back ≡ end → set_from old field.at (bytes_of_number field.len x ++ back) ≡ end
unfolding with_number
number_written old next end field x back put then =
    part_written old next end field (bytes_of_number field.len x) back put (length-bytes_of_number field.len x) then

-- nothing is left to write
pub all_written : (bytes : List ℕ) (place : ℕ) → set_from bytes place [] ≡ bytes
unfolding set_from
all_written bytes place = refl

-- a text that was written over all bytes is what stands there
pub set_from-all : (bytes text : List ℕ) → length text ≡ length bytes → set_from bytes 0 text ≡ text
set_from-all bytes text same =
    set_from-parts bytes 0 text (omega arith)
    ∙ ap (λ (l : List ℕ). text ++ l) (drop_all (0 + length text) bytes (omega arith))
    ∙ append-nil text
