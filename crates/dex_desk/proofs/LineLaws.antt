-- Texts cut at the first line end.
use Rattle.std.proofs.Common.{◌≡◌, ◌∙◌, ◌+◌, ◌<◌, ◌≤◌, ◌==◌, ◌≢◌, ℕ, suc, true, List, [], ◌∷◌, ◌++◌, Option, Some, None, MatchOption, ap, append_assoc, arith, drop, get_or, get_or-take, length, slice_index, subst, sym, take}
use Rattle.std.proofs.lemmas.Bool.{eq-eqb, eqb-true}
use Rattle.std.proofs.lemmas.Grind.{get_or_default_zero}
use Rattle.std.proofs.lemmas.List.{drop-drop, length-take, length-take-le, take-append-drop}
use Rattle.std.proofs.lemmas.List.Elements.{All-append}
use Rattle.std.proofs.Math.Seq.{drop-cons, take-append-add}
use Rattle.memchr.specs.Find.{IsFirstByte, is_byte}
use Rattle.dex_desk.specs.Talks.{HasNoEnd, IsCut}

-- no byte ends a line where none is found
none-found : (text : List ℕ) → ((k : ℕ) → 0 ≤ k → k < length text → (slice_index text k == 10) ≡ true → ⊥) → HasNoEnd text
none-found text none = λ k d within is.
    none k (omega arith) within (eq-eqb (slice_index text k) 10 (sym (get_or_default_zero text k d within) ∙ is))

-- the part before the first is a line
cut-at : (text : List ℕ) (n : ℕ) → n < length text → ((k : ℕ) → 0 ≤ k → k < n → (slice_index text k == 10) ≡ true → ⊥)
    → (slice_index text n == 10) ≡ true → IsCut text (take n text) (drop (suc n) text)
cut-at text n within before here =
    let byte : get_or text n 0 ≡ 10 = eqb-true (slice_index text n) 10 here in
    record {
      parts = sym (take-append-drop n text) ∙ ap (λ (l : List ℕ). take n text ++ l) (drop-cons text n 0 within)
          ∙ ap (λ (b : ℕ). take n text ++ b ∷ drop (suc n) text) byte;
      whole = λ k d inside is.
          let low : k < n = omega (arith, inside, length-take n text) in
          before k (omega arith) low
          (eq-eqb (slice_index text k) 10
          (sym (get_or_default_zero text k d (omega (arith, low, within))) ∙ sym (get_or-take n text k d low) ∙ is));
    }

line-found : (text : List ℕ) (found : Option ℕ) → IsFirstByte (is_byte 10) text found
    → MatchOption found (HasNoEnd text) (λ n. IsCut text (take n text) (drop (n + 1) text))
line-found text None none = none-found text none
line-found text (Some n) found =
    let next : suc n ≡ n + 1 = omega arith in
    subst (λ (m : ℕ). IsCut text (take n text) (drop m text)) next (cut-at text n found.0.high found.0.before found.1)

-- the line with its end
pub line-with-end : (text : List ℕ) (n : ℕ) → n < length text → IsCut text (take n text) (drop (n + 1) text)
    → take (n + 1) text ≡ take n text ++ 10 ∷ []
line-with-end text n within cut =
    let long : length (take n text) ≡ n = length-take-le n text (omega (arith, within)) in
    ap (take (n + 1)) cut.parts
    ∙ ap (λ (m : ℕ). take (m + 1) (take n text ++ 10 ∷ drop (n + 1) text)) (sym long)
    ∙ take-append-add (take n text) (10 ∷ drop (n + 1) text) 1

-- ---- where the first bytes are known to have no end

none-behind : (text : List ℕ) (seen : ℕ) → HasNoEnd (take seen text) → HasNoEnd (drop seen text) → HasNoEnd text
none-behind text seen known none =
    subst HasNoEnd (take-append-drop seen text) (All-append (λ (byte : ℕ). byte ≢ 10) (take seen text) (drop seen text) known none)

cut-behind : (text : List ℕ) (seen n : ℕ) → seen ≤ length text → HasNoEnd (take seen text)
    → IsCut (drop seen text) (take n (drop seen text)) (drop (n + 1) (drop seen text)) → IsCut text (take (seen + n) text) (drop (seen + n + 1) text)
cut-behind text seen n within known cut =
    let front = take seen text in
    let rest = drop seen text in
    let long : length front ≡ seen = length-take-le seen text within in
    let line : front ++ take n rest ≡ take (seen + n) text =
    sym (ap (take (seen + n)) (sym (take-append-drop seen text)) ∙ ap (λ (m : ℕ). take (m + n) (front ++ rest)) (sym long) ∙ take-append-add front rest n) in
    let behind : drop (n + 1) rest ≡ drop (seen + n + 1) text = drop-drop (n + 1) seen text ∙ ap (λ (k : ℕ). drop k text) (omega arith) in record {
      parts = sym (take-append-drop seen text) ∙ ap (λ (l : List ℕ). front ++ l) cut.parts ∙ sym (append_assoc front (take n rest) (10 ∷ drop (n + 1) rest))
          ∙ ap (λ (l : List ℕ). l ++ 10 ∷ drop (n + 1) rest) line ∙ ap (λ (l : List ℕ). take (seen + n) text ++ 10 ∷ l) behind;
      whole = subst HasNoEnd line (All-append (λ (byte : ℕ). byte ≢ 10) front (take n rest) known cut.whole);
    }

pub line-behind : (text rest : List ℕ) (seen : ℕ) (found : Option ℕ) → rest ≡ drop seen text → seen ≤ length text → HasNoEnd (take seen text)
    → IsFirstByte (is_byte 10) rest found → MatchOption found (HasNoEnd text) (λ n. IsCut text (take (seen + n) text) (drop (seen + n + 1) text))
line-behind text rest seen found is within known first =
    by found (line-found (drop seen text) found (subst (λ (l : List ℕ). IsFirstByte (is_byte 10) l found) is first))
  where
    by : (one : Option ℕ) → MatchOption one (HasNoEnd (drop seen text)) (λ n. IsCut (drop seen text) (take n (drop seen text)) (drop (n + 1) (drop seen text)))
        → MatchOption one (HasNoEnd text) (λ n. IsCut text (take (seen + n) text) (drop (seen + n + 1) text))
    by None none = none-behind text seen known none
    by (Some n) cut = cut-behind text seen n within known cut
