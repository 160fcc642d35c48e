-- What is written of numbers and addresses are words, and is read back.
use Rattle.std.proofs.Common.{◌≡◌, ℕ, ℤ, pos, negsuc, ◌<◌, ◌≤◌, ◌+◌, ◌-◌, ◌%◌, ◌^◌, ◌∷◌, [], suc, List, true, false, Some, None, Option, drop, refl, ap, arith, lit≤, inl, inr}
use Rattle.std.specs.Fmt.{decimal, signed_decimal}
use Rattle.std.specs.Int.{w64}
use Rattle.std.specs.Int.RustNames.{FitsSigned}
use Rattle.std.proofs.lemmas.Bool.{and_parts, cases_Bool}
use Rattle.std.proofs.lemmas.Bool.Decides.{nat_tests}
use Rattle.std.proofs.lemmas.Fmt.{decimal_by_steps_wide}
use Rattle.std.proofs.lemmas.List.Folds.{list_all-append}
use Rattle.dex_types.specs.declared.addresses.Address.{Address}
use Rattle.dex_types.specs.Text.{address_text, front_of, is_label_character, is_labelled}
use Rattle.hex.specs.Hex.{encode_lower}
use Rattle.dex_rows.specs.Addresses.{address_of, is_lower_hexdigit}
use Rattle.dex_rows.specs.Numbers.{is_numeral, number_of}
use Rattle.dex_rows.proofs.AddressLaws.{digits_lower}
use Rattle.dex_rows.proofs.NumberLaws.{number_of-decimal}
use Rattle.dex_state.specs.Held.{IsAddress}
use Rattle.dex_dump.proofs.FieldLaws.{address_of-text, all-implies}
use Rattle.dex_report.proofs.Words.{is_inner, is_word}

inner-digit : (n : ℕ) → is_inner (48 + n) ≡ true
inner-digit n = grind (arith, nat_tests)

-- a number below 2 to the 128 is a word
is_word-wide : (n : ℕ) → n < 10 ^ 64 → is_word (decimal n) ≡ true
is_word-wide n small =
    decimal_by_steps_wide (λ m digits. is_word digits ≡ true)
    (λ d below. rw (inner-digit d) refl)
    (λ m digits above rest. rw (list_all-append is_inner digits, rest, inner-digit (m % 10)) refl)
    n small

wide : (n : ℕ) → n < 2 ^ 128 → n < 10 ^ 64
wide n h = let step : 2 ^ 128 ≤ 10 ^ 64 = lit≤ tt in omega arith

pub is_word-decimal : (n : ℕ) → n < 2 ^ 128 → is_word (decimal n) ≡ true
is_word-decimal n h = is_word-wide n (wide n h)

-- the number of a word
abbrev pub number_or : Option ℕ → ℕ
number_or (Some n) = n
number_or None = 0

unfoldable pub number_in : List ℕ → ℕ
number_in word = number_or (number_of (2 ^ 128) word)

pub number_in-decimal : (n : ℕ) → n < 2 ^ 128 → number_in (decimal n) ≡ n
unfolding number_in
number_in-decimal n h = rw (number_of-decimal (2 ^ 128) n h (wide n h)) refl

-- ---- signed numbers

fits_pos : (n : ℕ) → FitsSigned w64 (pos n) → n < 2 ^ 128
fits_pos n h = omega (arith, h.sfits)

fits_neg : (n : ℕ) → FitsSigned w64 (negsuc n) → suc n < 2 ^ 128
fits_neg n h = omega (arith, h.sfits)

pub is_word-signed : (z : ℤ) → FitsSigned w64 z → is_word (signed_decimal z) ≡ true
is_word-signed (pos n) h = is_word-decimal n (fits_pos n h)
is_word-signed (negsuc n) h = is_word-decimal (suc n) (fits_neg n h)

abbrev pub signed_from : Option ℕ → List ℕ → ℤ
signed_from (Some n) word = pos n
signed_from None word = negsuc (number_in (drop 1 word) - 1)

-- the signed number of a word
unfoldable pub signed_in : List ℕ → ℤ
signed_in word = signed_from (number_of (2 ^ 128) word) word

dash-numeral : (word : List ℕ) → is_numeral (45 ∷ word) ≡ false
unfolding is_numeral
dash-numeral word = grind (arith, nat_tests)

dash-none : (limit : ℕ) (word : List ℕ) → number_of limit (45 ∷ word) ≡ None
unfolding number_of
dash-none limit word = rw (dash-numeral word) refl

less-one : (n m : ℕ) → m ≡ suc n → m - 1 ≡ n
less-one n m e = omega arith

pub signed_in-decimal : (z : ℤ) → FitsSigned w64 z → signed_in (signed_decimal z) ≡ z
unfolding signed_in
signed_in-decimal (pos n) h = rw (number_of-decimal (2 ^ 128) n (fits_pos n h) (wide n (fits_pos n h))) refl
signed_in-decimal (negsuc n) h =
    rw (dash-none (2 ^ 128) (decimal (suc n))) (ap negsuc (less-one n _ (number_in-decimal (suc n) (fits_neg n h))))

-- ---- addresses

character_inner : (c : ℕ) → is_label_character c ≡ true → is_inner c ≡ true
character_inner c h = grind (arith, nat_tests)

hexdigit_inner : (c : ℕ) → is_lower_hexdigit c ≡ true → is_inner c ≡ true
hexdigit_inner c h = grind (arith, nat_tests)

pub is_word-address : (address : Address) → IsAddress address → is_word (address_text address) ≡ true
unfolding address_text
is_word-address address is = elim (cases_Bool (is_labelled address.0)) [
  | inl label ↦ rw label (all-implies is_label_character is_inner character_inner (front_of address.0) (and_parts _ _ (and_parts _ _ label).0).1)
  | inr other ↦ rw other (all-implies is_lower_hexdigit is_inner hexdigit_inner (encode_lower address.0) (digits_lower address.0 is.bytes))
]

-- the address of a word
abbrev pub address_or : Option Address → Address
address_or (Some address) = address
address_or None = record { 0 = [] }

unfoldable pub address_in : List ℕ → Address
address_in word = address_or (address_of word)

pub address_in-text : (address : Address) → IsAddress address → address_in (address_text address) ≡ address
unfolding address_in
address_in-text address is = rw (address_of-text address is) refl
