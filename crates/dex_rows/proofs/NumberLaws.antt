-- Numbers as they are written are read back, and no other words are read as them.
use Rattle.std.proofs.Common.{◌≡◌, ◌∙◌, ◌^◌, ◌<◌, ◌+◌, ◌%◌, ◌++◌, ◌∷◌, ◌&&◌, ◌⊎◌, [], ℕ, List, Some, None, true, false, Bool, if◌then◌else◌, length, length-append, get_or, nat_lt, arith, refl, sym, ap, inl, inr}
use Rattle.std.specs.Char.{is_ascii_digit}
use Rattle.std.specs.Fmt.{decimal}
use Rattle.std.specs.List.{list_all}
use Rattle.std.specs.Str.Parse.{digits_value}
use Rattle.std.proofs.lemmas.Bool.{and_parts, cases_lt, lt-ltb}
use Rattle.std.proofs.lemmas.Bool.Decides.{nat_tests}
use Rattle.std.proofs.lemmas.Fmt.{decimal-digits_value, decimal_by_steps_wide, decimal_is_IsNumeral_wide}
use Rattle.dex_rows.specs.Numbers.{is_numeral, number_of}
use Rattle.dex_rows.proofs.NumberLemmas.{digits_model}

-- a word of digits whose first is not zero, unless it is alone, is a numeral
numeral_from : (word : List ℕ) → 0 < length word → list_all is_ascii_digit word ≡ true → (length word ≡ 1) ⊎ (48 < get_or word 0 0) → is_numeral word ≡ true
unfolding is_numeral
numeral_from word some digits (inl one) = rw digits (grind (arith, nat_tests))
numeral_from word some digits (inr first) = rw digits (grind (arith, nat_tests))

first-append : (front back : List ℕ) → 0 < length front → get_or (front ++ back) 0 0 ≡ get_or front 0 0
first-append [] back some = absurd (omega arith)
first-append (c ∷ front) back some = refl

-- how a decimal text begins
record Begins (n : ℕ) (digits : List ℕ) : Type 0 where
  some : 0 < length digits
  first : 0 < n → 48 < get_or digits 0 0
  alone : n < 10 → length digits ≡ 1

begins : (n : ℕ) → n < 10 ^ 64 → Begins n (decimal n)
begins n small =
    decimal_by_steps_wide Begins
    (λ d below. record { some = omega arith; first = λ p. omega arith; alone = λ h. refl })
    (λ m digits above rest. record {
      some = omega (arith, length-append digits ((48 + m % 10) ∷ []));
      first = λ p. rw (first-append digits ((48 + m % 10) ∷ []) rest.some) (rest.first (omega arith));
      alone = λ h. absurd (omega arith);
    })
    n small

-- a number that is written in decimal is read back
pub number_of-decimal : (limit n : ℕ) → n < limit → n < 10 ^ 64 → number_of limit (decimal n) ≡ Some n
unfolding number_of
number_of-decimal limit n below small =
    let numeral = decimal_is_IsNumeral_wide n small in
    let first = begins n small in
    let is : is_numeral (decimal n) ≡ true = numeral_from (decimal n) first.some (digits_model.from _ numeral.0.1)
    (elim (cases_lt n 10) [ inl digit ↦ inl (first.alone digit) | inr more ↦ inr (first.first (omega arith)) ]) in
    rw (is, numeral.1, lt-ltb n limit below) refl

-- what a numeral is
numeral_only : (word : List ℕ) → is_numeral word ≡ true → (0 < length word) × (list_all is_ascii_digit word ≡ true) × (get_or word 0 0 ≡ 48 → length word ≡ 1)
unfolding is_numeral
numeral_only word is = (grind (arith, nat_tests), grind (arith, nat_tests), λ h. grind (arith, nat_tests))

some_only : (b : Bool) (v n : ℕ) → (if b then Some v else None) ≡ Some n → (b ≡ true) × (v ≡ n)
some_only true v n h = (refl, cc h)
some_only false v n h = cc h

-- no other word is read as that number
pub number_of-only : (limit : ℕ) (word : List ℕ) (n : ℕ) → n < 2 ^ 64 → number_of limit word ≡ Some n → word ≡ decimal n
unfolding number_of
number_of-only limit word n small h =
    let found = some_only (is_numeral word && nat_lt (digits_value 10 word) limit) (digits_value 10 word) n h in
    let parts = numeral_only word (and_parts (is_numeral word) (nat_lt (digits_value 10 word) limit) found.0).0 in
    sym (decimal-digits_value digits_model word parts.1 parts.0 parts.2 (rw found.1 small)) ∙ ap decimal found.1
