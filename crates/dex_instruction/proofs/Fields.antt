-- Fields one after the other: each is read back, and what is read is written again.
use Rattle.std.proofs.Common.{◌≡◌, ℕ, zero, suc, ◌+◌, ◌^◌, ◌<◌, List, [], ◌∷◌, ◌++◌, length, drop, refl, sym, ap, ◌∙◌, arith, append_assoc}
use Rattle.std.proofs.Math.ListN.{drop_of_length-le}
use Rattle.std.proofs.lemmas.List.{length-append}
use Rattle.dex_instruction.specs.Numbers.{AreBytes, Field, number, number_at, spelled, widths}
use Rattle.dex_instruction.specs.Spelling.{AllFit}
use Rattle.dex_instruction.proofs.Bytes.{length-number, number_at-front, number_at-behind, number-number_at, number_at-lt}

pub length-spelled : (fields : List Field) → length (spelled fields) ≡ widths fields
length-spelled [] = refl
length-spelled (field ∷ fields) =
    omega (arith, length-append (number field.0 field.1) (spelled fields), length-number field.0 field.1, length-spelled fields)

pub spelled-append : (front back : List Field) → spelled (front ++ back) ≡ spelled front ++ spelled back
spelled-append [] back = refl
spelled-append (field ∷ front) back =
    ap (λ (text : List ℕ). number field.0 field.1 ++ text) (spelled-append front back) ∙ sym (append_assoc (number field.0 field.1) (spelled front) (spelled back))

-- the field with a number from 0; after the last one a field of no bytes
abbrev pub nth : List Field → ℕ → Field
nth [] i = (0, 0)
nth (field ∷ fields) zero = field
nth (field ∷ fields) (suc i) = nth fields i

-- the place of that field
abbrev pub place_of : List Field → ℕ → ℕ
place_of [] i = 0
place_of (field ∷ fields) zero = 0
place_of (field ∷ fields) (suc i) = field.0 + place_of fields i

nothing_there : number_at 0 0 [] ≡ zero
unfolding number_at
nothing_there = refl

-- each field is read back at its place
pub number_at-spelled : (fields : List Field) (i : ℕ) → AllFit fields → number_at (nth fields i).0 (place_of fields i) (spelled fields) ≡ (nth fields i).1
number_at-spelled [] i fit = nothing_there
number_at-spelled (field ∷ fields) zero fit = number_at-front field.0 field.1 (spelled fields) fit.0
number_at-spelled (field ∷ fields) (suc i) fit =
    number_at-behind field.0 field.1 (nth fields i).0 (place_of fields i) (spelled fields) ∙ number_at-spelled fields i fit.1

-- the fields of these widths that stand in the bytes from a place on
abbrev pub fields_at : List ℕ → ℕ → List ℕ → List Field
fields_at [] place bytes = []
fields_at (width ∷ others) place bytes = (width, number_at width place bytes) ∷ fields_at others (place + width) bytes

abbrev pub total : List ℕ → ℕ
total [] = 0
total (width ∷ others) = width + total others

-- fields that fill the bytes to their end are spelled as those bytes
pub spelled-fields_at : (sizes : List ℕ) (place : ℕ) (bytes : List ℕ) → AreBytes bytes → place + total sizes ≡ length bytes → spelled (fields_at sizes place bytes) ≡ drop place bytes
spelled-fields_at [] place bytes h whole = sym (drop_of_length-le bytes (omega arith))
spelled-fields_at (width ∷ others) place bytes h whole =
    ap (λ (text : List ℕ). number width (number_at width place bytes) ++ text) (spelled-fields_at others (place + width) bytes h (omega arith))
    ∙ number-number_at width place bytes h (omega arith)

-- each number that is read fits
pub AllFit-fields_at : (sizes : List ℕ) (place : ℕ) (bytes : List ℕ) → AreBytes bytes → AllFit (fields_at sizes place bytes)
AllFit-fields_at [] place bytes h = tt
AllFit-fields_at (width ∷ others) place bytes h = (number_at-lt width place bytes h, AllFit-fields_at others (place + width) bytes h)

-- a field more at the end
pub AllFit-push : (fields : List Field) (width x : ℕ) → AllFit fields → x < 256 ^ width → AllFit (fields ++ (width, x) ∷ [])
AllFit-push [] width x fit lt = (lt, tt)
AllFit-push (field ∷ fields) width x fit lt = (fit.0, AllFit-push fields width x fit.1 lt)
