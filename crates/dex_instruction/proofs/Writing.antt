-- Texts that are written one after the other are one text.
use Rattle.std.proofs.Common.{◌≡◌, ℕ, ◌+◌, ◌≤◌, List, [], ◌∷◌, ◌++◌, length, take, drop, sym, ap, ◌∙◌, arith, append_assoc, add-zero}
use Rattle.std.proofs.lemmas.List.{length-append, append-nil, length-take-le, length-drop, drop-drop, drop_at, take_at, take-append-drop}
use Rattle.byteorder.specs.Endian.{little_bytes}
use Rattle.dex_instruction.specs.Numbers.{Field, number, spelled, widths}
use Rattle.dex_instruction.specs.Writing.{written}
use Rattle.dex_instruction.proofs.Bytes.{length-number}
use Rattle.dex_instruction.proofs.Fields.{length-spelled, spelled-append}

-- nothing written leaves the bytes
pub written-nothing : (place : ℕ) (bytes : List ℕ) → place ≤ length bytes → written place [] bytes ≡ bytes
unfolding written
written-nothing place bytes within = ap (λ (p : ℕ). take place bytes ++ drop p bytes) (add-zero place) ∙ take-append-drop place bytes

front_kept : (place : ℕ) (text bytes : List ℕ) → place ≤ length bytes → take (place + length text) (written place text bytes) ≡ take place bytes ++ text
unfolding written
front_kept place text bytes within =
    ap (take (place + length text)) (sym (append_assoc (take place bytes) text (drop (place + length text) bytes)))
    ∙ take_at (take place bytes ++ text) (drop (place + length text) bytes) (place + length text) (omega (arith, length-append (take place bytes) text, length-take-le place bytes within))

back_kept : (place : ℕ) (text bytes : List ℕ) → place ≤ length bytes → drop (place + length text) (written place text bytes) ≡ drop (place + length text) bytes
unfolding written
back_kept place text bytes within =
    ap (drop (place + length text)) (sym (append_assoc (take place bytes) text (drop (place + length text) bytes)))
    ∙ drop_at (take place bytes ++ text) (drop (place + length text) bytes) (place + length text) (omega (arith, length-append (take place bytes) text, length-take-le place bytes within))

-- a text after a text
pub written-written : (place behind : ℕ) (text more bytes : List ℕ) → place ≤ length bytes → behind ≡ place + length text
    → written behind more (written place text bytes) ≡ written place (text ++ more) bytes
unfolding written
written-written place behind text more bytes within e =
    ap (λ (p : ℕ). written p more (written place text bytes)) e ∙ behind_text where
      end : ℕ
      end = place + length text

      tail : List ℕ
      tail = drop (end + length more) bytes

      back : drop (end + length more) (written place text bytes) ≡ tail
      back =
          sym (drop-drop (length more) end (written place text bytes)) ∙ ap (drop (length more)) (back_kept place text bytes within) ∙ drop-drop (length more) end bytes

      ends : end + length more ≡ place + length (text ++ more)
      ends = omega (arith, length-append text more)

      behind_text : written end more (written place text bytes) ≡ written place (text ++ more) bytes
      behind_text =
          ap (λ (front : List ℕ). front ++ (more ++ drop (end + length more) (written place text bytes))) (front_kept place text bytes within)
          ∙ ap (λ (b : List ℕ). (take place bytes ++ text) ++ (more ++ b)) back
          ∙ append_assoc (take place bytes) text (more ++ tail)
          ∙ ap (λ (b : List ℕ). take place bytes ++ b) (sym (append_assoc text more tail))
          ∙ ap (λ (n : ℕ). take place bytes ++ ((text ++ more) ++ drop n bytes)) ends

-- a number after others
pub written-number : (place behind width x : ℕ) (fields : List Field) (bytes : List ℕ) → place ≤ length bytes → behind ≡ place + width
    → written behind (spelled fields) (written place (number width x) bytes) ≡ written place (spelled ((width, x) ∷ fields)) bytes
written-number place behind width x fields bytes within e =
    written-written place behind (number width x) (spelled fields) bytes within (omega (arith, length-number width x))

-- fields after others
pub written-fields : (place behind : ℕ) (front back : List Field) (bytes : List ℕ) → place ≤ length bytes → behind ≡ place + widths front
    → written behind (spelled back) (written place (spelled front) bytes) ≡ written place (spelled (front ++ back)) bytes
written-fields place behind front back bytes within e =
    written-written place behind (spelled front) (spelled back) bytes within (omega (arith, length-spelled front))
    ∙ ap (λ (text : List ℕ). written place text bytes) (sym (spelled-append front back))

-- a number alone
pub written-last : (place width x : ℕ) (bytes : List ℕ) → written place (number width x) bytes ≡ written place (spelled ((width, x) ∷ [])) bytes
written-last place width x bytes = ap (λ (text : List ℕ). written place text bytes) (sym (append-nil (number width x)))

pub length-written : (place : ℕ) (text bytes : List ℕ) → place + length text ≤ length bytes → length (written place text bytes) ≡ length bytes
unfolding written
length-written place text bytes within =
    omega (arith, length-append (take place bytes) (text ++ drop (place + length text) bytes), length-append text (drop (place + length text) bytes), length-take-le place bytes (omega arith), length-drop (place + length text) bytes)

-- fields after a number whose bytes were written
pub behind_number : (place behind width x : ℕ) (fields : List Field) (bytes before between after : List ℕ) → place ≤ length before → behind ≡ place + width
    → bytes ≡ little_bytes width x → between ≡ written place bytes before → after ≡ written behind (spelled fields) between → after ≡ written place (spelled ((width, x) ∷ fields)) before
unfolding number
behind_number place behind width x fields bytes before between after within e is first second =
    second ∙ ap (written behind (spelled fields)) (first ∙ ap (λ (text : List ℕ). written place text before) is) ∙ written-number place behind width x fields before within e

-- a number whose bytes were written last
pub last_number : (place width x : ℕ) (bytes before after : List ℕ) → bytes ≡ little_bytes width x → after ≡ written place bytes before → after ≡ written place (spelled ((width, x) ∷ [])) before
unfolding number
last_number place width x bytes before after is e = e ∙ ap (λ (text : List ℕ). written place text before) is ∙ written-last place width x before

-- fields after fields that were written
pub behind_fields : (place behind : ℕ) (front back : List Field) (before between after : List ℕ) → place ≤ length before → behind ≡ place + widths front
    → between ≡ written place (spelled front) before → after ≡ written behind (spelled back) between → after ≡ written place (spelled (front ++ back)) before
behind_fields place behind front back before between after within e first second =
    second ∙ ap (written behind (spelled back)) first ∙ written-fields place behind front back before within e

-- what stands at the front after a text was written there
pub take-written : (n : ℕ) (text bytes : List ℕ) → n ≡ length text → take n (written 0 text bytes) ≡ text
unfolding written
take-written n text bytes e = take_at text (drop (0 + length text) bytes) n (sym e)

-- what stands after it
pub drop-written : (n : ℕ) (text bytes : List ℕ) → n ≡ length text → drop n (written 0 text bytes) ≡ drop n bytes
unfolding written
drop-written n text bytes e =
    let same : 0 + length text ≡ n = omega arith in
    drop_at text (drop (0 + length text) bytes) n (sym e) ∙ ap (λ (m : ℕ). drop m bytes) same
