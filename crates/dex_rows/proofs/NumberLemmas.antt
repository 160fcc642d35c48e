-- What `parse` answers for a numeral, as `number_of`.
use Rattle.std.proofs.Common.{◌≡◌, ◌∙◌, ◌^◌, ◌<◌, ◌≤◌, ◌+◌, ◌-◌, ◌*◌, ◌&&◌, ℕ, Bool, nat_lt, if◌then◌else◌, Option, take, get_or, List, Some, None, Result, Ok, Err, Bor, OkIff, MatchOption, MatchResult, IsUtf8, true, false, length, arith, rules, refl, ap, sym}
use Rattle.std.specs.Char.{digit_value, is_ascii_digit}
use Rattle.std.proofs.lemmas.Int.Digits.{digits_value_more}
use Rattle.std.proofs.lemmas.List.{length-take}
use Rattle.std.proofs.lemmas.List.Folds.{list_all_at, list_all_more}
use Rattle.std.specs.List.{list_all}
use Rattle.std.specs.Result.{result_ok}
use Rattle.std.specs.Str.Parse.{ParsesUnsigned, digits_value}
use Rattle.std.proofs.lemmas.Bool.{le-ltb, lt-ltb}
use Rattle.std.proofs.lemmas.Bool.Decides.{nat_tests}
use Rattle.std.proofs.lemmas.Fmt.{IsAscii-from_digits}
use Rattle.std.proofs.lemmas.Str.{IsUtf8-from_ascii}
use Rattle.std.proofs.lemmas.Str.Parse.{IsNumeralModel, digits_value_short, numerals_by_value, parse_digits}
use Rattle.dex_rows.specs.Numbers.{is_bare, is_numeral, number_of}

-- texts of digits, and their values
pub digits_model : IsNumeralModel (λ ds. list_all is_ascii_digit ds ≡ true) (digits_value 10)
digits_model = numerals_by_value _ (search rules)

-- a word that is no numeral is no number
pub number_of-none : (limit : ℕ) (word : List ℕ) → is_numeral word ≡ false → number_of limit word ≡ None
unfolding number_of
number_of-none limit word h = rw h refl

-- a numeral is not empty, and of digits alone
numeral_parts : (word : List ℕ) → is_numeral word ≡ true → (0 < length word) × (list_all is_ascii_digit word ≡ true)
unfolding is_numeral
numeral_parts word h = grind (arith, nat_tests)

-- the answer at a numeral, by cases
number_of-answer : {E : Type 0} (limit : ℕ) (word : List ℕ) (r : Result ℕ E) → is_numeral word ≡ true → 0 < length word
    → OkIff r ((0 < length word) × (digits_value 10 word < limit)) (digits_value 10 word) → result_ok r ≡ number_of limit word
unfolding number_of
number_of-answer limit word (Ok x) is some h = rw (is, lt-ltb _ _ h.0.1) (ap Some h.1)
number_of-answer limit word (Err e) is some h =
    let over : digits_value 10 word < limit → ⊥ = λ lt. h (some, lt) in
    rw (is, le-ltb (digits_value 10 word) limit (omega arith)) refl

-- what `parse` reads of a numeral
pub number_of-parsed : {E : Type 0} (k : ℕ) (word digits : List ℕ) (r : Result ℕ E) → digits ≡ word → is_numeral word ≡ true → ParsesUnsigned k 10 digits r
    → result_ok r ≡ number_of (2 ^ k) word
number_of-parsed k word digits r same is read =
    let h = rw same at read in
    let parts = numeral_parts word is in
    number_of-answer (2 ^ k) word r is parts.0 (parse_digits digits_model k word r h parts.1)

-- a numeral is text
pub IsUtf8-numeral : (word : List ℕ) → is_numeral word ≡ true → IsUtf8 word
IsUtf8-numeral word is = IsUtf8-from_ascii word (IsAscii-from_digits word (digits_model.to word (numeral_parts word is).1))

-- so it is read as text
pub numeral_text : {E : Type 0} (P : E → Type 0) (word : List ℕ) (r : Result (Bor (List ℕ)) E) → is_numeral word ≡ true
    → MatchResult r (λ s. (s.now ≡ word) × IsUtf8 word) (λ e. (IsUtf8 word → ⊥) × P e)
    → MatchOption (result_ok r) (is_numeral word ≡ false) (λ digits. (digits.now ≡ word) × (is_numeral word ≡ true))
numeral_text P word (Ok s) is h = (h.0, is)
numeral_text P word (Err e) is h = absurd (h.0 (IsUtf8-numeral word is))

value_of_digit : (c : ℕ) → 48 ≤ c → c ≤ 57 → digit_value c ≡ c - 48
value_of_digit c low high = rw (le-ltb c 48 low, lt-ltb c 58 (omega arith)) refl

-- a number of at most 19 digits, with one more digit
pub record IsMore (digits : List ℕ) (place digit : ℕ) : Type 0 where
  pub all : list_all is_ascii_digit (take (place + 1) digits) ≡ true
  pub value : digits_value 10 (take (place + 1) digits) ≡ digits_value 10 (take place digits) * 10 + digit
  pub fits : digits_value 10 (take (place + 1) digits) < 10 ^ 19

pub digits_more : (digits : List ℕ) (place : ℕ) → place < length digits → length digits ≤ 19 → list_all is_ascii_digit (take place digits) ≡ true
    → 48 ≤ get_or digits place 0 → get_or digits place 0 ≤ 57 → IsMore digits place (get_or digits place 0 - 48)
digits_more digits place below few before low high =
    let digit : is_ascii_digit (get_or digits place 0) ≡ true = grind (arith, nat_tests) in
    let all : list_all is_ascii_digit (take (place + 1) digits) ≡ true = rw (list_all_more is_ascii_digit digits place 0 below, before, digit) refl in
    record {
      all = all;
      value = digits_value_more 10 digits place below ∙ ap (λ d. digits_value 10 (take place digits) * 10 + d) (value_of_digit (get_or digits place 0) low high);
      fits = digits_value_short digits_model (take (place + 1) digits) 19 all (omega (arith, length-take (place + 1) digits));
    }

-- a byte that is none
pub not_digits : (digits : List ℕ) (place : ℕ) → place < length digits → is_ascii_digit (get_or digits place 0) ≡ false → list_all is_ascii_digit digits ≡ false
not_digits digits place below not = list_all_at is_ascii_digit digits place 0 below not

-- a short numeral is a number
number_of-short : (word : List ℕ) → length word ≤ 19 → is_numeral word ≡ true → Some (digits_value 10 word) ≡ number_of (2 ^ 64) word
unfolding number_of
number_of-short word few is =
    let below : digits_value 10 word < 2 ^ 64 =
    (let all : digits_value 10 word < 10 ^ 19 = digits_value_short digits_model word 19 (numeral_parts word is).1 few in omega arith) in
    rw (is, lt-ltb (digits_value 10 word) (2 ^ 64) below) refl

pub numeral_bare : (word : List ℕ) (bare all : Bool) → is_bare word ≡ bare → list_all is_ascii_digit word ≡ all → is_numeral word ≡ (bare && all)
unfolding is_numeral is_bare
numeral_bare word true true e f = grind (arith, nat_tests)
numeral_bare word true false e f = grind (arith, nat_tests)
numeral_bare word false true e f = grind (arith, nat_tests)
numeral_bare word false false e f = grind (arith, nat_tests)

-- what is not bare is no number, nor is what is not of digits
pub number_of-other : (word : List ℕ) → is_bare word ≡ false → number_of (2 ^ 64) word ≡ None
number_of-other word not = number_of-none (2 ^ 64) word (numeral_bare word false (list_all is_ascii_digit word) not refl)

-- a short word that is bare
pub number_of-digits : (word : List ℕ) (r : Option ℕ) → length word ≤ 19 → is_bare word ≡ true
    → MatchOption r (list_all is_ascii_digit word ≡ false) (λ value. (list_all is_ascii_digit word ≡ true) × (value ≡ digits_value 10 word)) → r ≡ number_of (2 ^ 64) word
number_of-digits word None few bare h = sym (number_of-none (2 ^ 64) word (numeral_bare word true false bare h))
number_of-digits word (Some value) few bare h = ap Some h.1 ∙ number_of-short word few (numeral_bare word true true bare h.0)

-- what of a number is kept below a limit
abbrev pub kept_below : ℕ → Option ℕ → Option ℕ
kept_below limit None = None
kept_below limit (Some number) = if nat_lt number limit then Some number else None

below_cases : (limit : ℕ) (word : List ℕ) (is fits : Bool) → limit ≤ 2 ^ 64 → is_numeral word ≡ is → nat_lt (digits_value 10 word) (2 ^ 64) ≡ fits
    → kept_below limit (number_of (2 ^ 64) word) ≡ number_of limit word
unfolding number_of
below_cases limit word false fits most e f = rw e refl
below_cases limit word true true most e f = rw (e, f) refl
below_cases limit word true false most e f =
    let over : 2 ^ 64 ≤ digits_value 10 word = grind (arith, nat_tests) in
    rw (e, f, le-ltb (digits_value 10 word) limit (omega arith)) refl

-- a number below a limit is one of 64 bits that is below it
number_of-below : (limit : ℕ) (word : List ℕ) → limit ≤ 2 ^ 32 → kept_below limit (number_of (2 ^ 64) word) ≡ number_of limit word
number_of-below limit word most = below_cases limit word (is_numeral word) (nat_lt (digits_value 10 word) (2 ^ 64)) (omega arith) refl refl

pub below-none : (limit : ℕ) (word : List ℕ) (r : Option ℕ) → limit ≤ 2 ^ 32 → r ≡ None → r ≡ number_of (2 ^ 64) word → None ≡ number_of limit word
below-none limit word r most is e = rw (sym e ∙ is) at (number_of-below limit word most)

below-some : (limit : ℕ) (word : List ℕ) (r : Option ℕ) (n : ℕ) → limit ≤ 2 ^ 32 → r ≡ Some n → r ≡ number_of (2 ^ 64) word
    → kept_below limit (Some n) ≡ number_of limit word
below-some limit word r n most is e = rw (sym e ∙ is) at (number_of-below limit word most)

pub below-kept : (limit : ℕ) (word : List ℕ) (r : Option ℕ) (n : ℕ) → limit ≤ 2 ^ 32 → r ≡ Some n → r ≡ number_of (2 ^ 64) word → n < limit
    → Some n ≡ number_of limit word
below-kept limit word r n most is e lt = rw (lt-ltb n limit lt) at (below-some limit word r n most is e)

pub below-over : (limit : ℕ) (word : List ℕ) (r : Option ℕ) (n : ℕ) → limit ≤ 2 ^ 32 → r ≡ Some n → r ≡ number_of (2 ^ 64) word → limit ≤ n
    → None ≡ number_of limit word
below-over limit word r n most is e over = rw (le-ltb n limit over) at (below-some limit word r n most is e)
