-- Where bytes differ from a text, and when nowhere.
use Rattle.std.proofs.Common.{◌≡◌, ◌≢◌, ℕ, suc, ◌+◌, ◌-◌, ◌<◌, ◌≤◌, List, [], ◌∷◌, length, drop, get_or, Option, Some, None, refl, sym, ap, ◌∙◌, arith, inl, inr}
use Rattle.std.proofs.lemmas.Bool.{cases_eq, eq-eqb, ne_eqb}
use Rattle.std.proofs.lemmas.List.{drop_all, drop_more}
use Rattle.std.specs.Prelude.{IsNone, ◌↔◌, is_some}
use Rattle.std.specs.Option.{option_map, option_or}
use Rattle.dex_fields.specs.declared.field.Field.{Field}
use Rattle.dex_fields.specs.declared.frame.Difference.{Difference}
use Rattle.dex_fields.specs.declared.frame.TheConstants.{FRONT, FRONT_TEXT, END_TEXT}
use Rattle.dex_fields.specs.Bytes.{bytes_in, bytes_of_number, end_of, with_bytes, with_number}
use Rattle.dex_fields.specs.Frame.{IsFramed, difference_from, end_field, frame_difference}
use Rattle.dex_fields.proofs.Reading.{length-bytes_in}
use Rattle.dex_fields.proofs.Rules.{mapped_none}
use Rattle.dex_fields.proofs.Writing.{bytes_in-with_bytes_apart, length-with_bytes}

-- the first byte differs
difference_head : (start b : ℕ) (bytes : List ℕ) (t : ℕ) (text : List ℕ) → b ≢ t
    → difference_from start (b ∷ bytes) (t ∷ text) ≡ Some (record { place = start; found = b; wanted = t })
difference_head start b bytes t text other = rw (ne_eqb b t other) refl

-- the byte at i differs
pub difference_at : (start i : ℕ) (bytes text : List ℕ) → i < length bytes → i < length text → get_or bytes i 0 ≢ get_or text i 0
    → difference_from (start + i) (drop i bytes) (drop i text) ≡ Some (record { place = start + i; found = get_or bytes i 0; wanted = get_or text i 0 })
difference_at start i bytes text hb ht other =
    ap (λ (l : List ℕ). difference_from (start + i) l (drop i text)) (drop_more bytes i 0 hb)
    ∙ ap (difference_from (start + i) (get_or bytes i 0 ∷ drop (i + 1) bytes)) (drop_more text i 0 ht)
    ∙ difference_head (start + i) (get_or bytes i 0) (drop (i + 1) bytes) (get_or text i 0) (drop (i + 1) text) other

-- nothing is left
pub difference_end : (start i : ℕ) (bytes text : List ℕ) → length bytes ≤ i → difference_from start (drop i bytes) (drop i text) ≡ None
difference_end start i bytes text h = ap (λ (l : List ℕ). difference_from start l (drop i text)) (drop_all i bytes h)

-- bytes that differ nowhere are the text
pub difference_none : (start : ℕ) (bytes text : List ℕ) → length bytes ≡ length text → difference_from start bytes text ≡ None → bytes ≡ text
difference_none start [] [] same h = refl
difference_none start [] (t ∷ text) same h = absurd (omega arith)
difference_none start (b ∷ bytes) [] same h = absurd (omega arith)
difference_none start (b ∷ bytes) (t ∷ text) same h =
    elim (cases_eq b t) [
      | inl e ↦
          let rest : difference_from (suc start) bytes text ≡ None = rw (eq-eqb b t e) at h in
          rw (e, difference_none (suc start) bytes text (omega arith) rest) refl
      | inr other ↦ absurd (let found = difference_head start b bytes t text other in cc)
    ]

-- a text differs nowhere from itself
pub difference_same : (start : ℕ) (text : List ℕ) → difference_from start text text ≡ None
difference_same start [] = refl
difference_same start (t ∷ text) = rw (eq-eqb t t refl) (difference_same (suc start) text)

-- neither of two
first_of_none : (a b : Option Difference) → option_or a b ≡ None → (a ≡ None) × (b ≡ None)
first_of_none None b h = (refl, h)
first_of_none (Some x) b h = absurd cc

-- an account without a difference is framed
pub framed_from_none : (bytes : List ℕ) → 12 ≤ length bytes → frame_difference bytes ≡ None → IsFramed bytes
unfolding frame_difference
framed_from_none bytes long h =
    let both = first_of_none (difference_from 0 (bytes_in bytes FRONT) FRONT_TEXT) (difference_from (length bytes - 7) (bytes_in bytes (end_field bytes)) END_TEXT) h in
    record {
      front = difference_none 0 (bytes_in bytes FRONT) FRONT_TEXT (length-bytes_in bytes FRONT (omega arith)) both.0;
      end = difference_none (length bytes - 7) (bytes_in bytes (end_field bytes)) END_TEXT (length-bytes_in bytes (end_field bytes) (omega arith)) both.1;
    }

-- a framed account has no difference
pub none_from_framed : (bytes : List ℕ) → IsFramed bytes → frame_difference bytes ≡ None
unfolding frame_difference
none_from_framed bytes framed =
    let front : difference_from 0 (bytes_in bytes FRONT) FRONT_TEXT ≡ None = ap (λ (l : List ℕ). difference_from 0 l FRONT_TEXT) framed.front ∙ difference_same 0 FRONT_TEXT in
    let back : difference_from (length bytes - 7) (bytes_in bytes (end_field bytes)) END_TEXT ≡ None = ap (λ (l : List ℕ). difference_from (length bytes - 7) l END_TEXT) framed.end ∙ difference_same (length bytes - 7) END_TEXT in
    ap (λ (o : Option Difference). option_or o (difference_from (length bytes - 7) (bytes_in bytes (end_field bytes)) END_TEXT)) front ∙ back

none_from_test : (o : Option Difference) → IsNone o → o ≡ None
none_from_test None h = refl
none_from_test (Some x) h = absurd cc

-- what the absence of a difference says
pub frame_none_iff : (bytes : List ℕ) (o : Option Difference) → 12 ≤ length bytes → o ≡ frame_difference bytes → IsNone o ↔ IsFramed bytes
frame_none_iff bytes o long is = (
  (λ none. framed_from_none bytes long (sym is ∙ none_from_test o none)),
  (λ framed. ap is_some (is ∙ none_from_framed bytes framed)),
)

-- an account stays framed where a field between its front and its end is written
pub IsFramed-with_bytes : (bytes : List ℕ) (field : Field) (piece : List ℕ) → 5 ≤ field.at → end_of field + 7 ≤ length bytes
    → IsFramed bytes → IsFramed (with_bytes bytes field piece)
IsFramed-with_bytes bytes field piece behind before framed =
    let now : List ℕ = with_bytes bytes field piece in
    let same : length now ≡ length bytes = length-with_bytes bytes field piece in
    let last : Field = end_field bytes in
    record {
      front = bytes_in-with_bytes_apart bytes FRONT field piece (inl behind) ∙ framed.front;
      end = ap (λ (n : ℕ). bytes_in now (record { at = n - 7; len = 7 })) same
          ∙ bytes_in-with_bytes_apart bytes last field piece (inr (omega arith)) ∙ framed.end;
    }

pub IsFramed-with_number : (bytes : List ℕ) (field : Field) (x : ℕ) → 5 ≤ field.at → end_of field + 7 ≤ length bytes
    → IsFramed bytes → IsFramed (with_number bytes field x)
unfolding with_number
IsFramed-with_number bytes field x behind before framed = IsFramed-with_bytes bytes field (bytes_of_number field.len x) behind before framed

-- bytes are framed where no difference of theirs is reported as a fault
pub framed_from_mapped : {X : Type 0} (tell : Difference → X) (bytes : List ℕ) → 12 ≤ length bytes → option_map tell (frame_difference bytes) ≡ None → IsFramed bytes
framed_from_mapped tell bytes long h = framed_from_none bytes long (mapped_none tell (frame_difference bytes) h)

pub mapped_from_framed : {X : Type 0} (tell : Difference → X) (bytes : List ℕ) → IsFramed bytes → option_map tell (frame_difference bytes) ≡ None
mapped_from_framed tell bytes framed = ap (option_map tell) (none_from_framed bytes framed)
