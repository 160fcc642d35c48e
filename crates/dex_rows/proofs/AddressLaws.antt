-- Addresses as they are written are read back, and two labels have two addresses.
use Rattle.std.proofs.Common.{◌≡◌, ◌∙◌, ◌<◌, ◌-◌, ◌/◌, ◌%◌, ◌++◌, ◌∷◌, ◌==◌, [], ℕ, zero, suc, Bool, List, Some, true, false, not, length, replicate, slice_index, arith, refl, sym, ap}
use Rattle.std.specs.List.{list_all, take_while}
use Rattle.std.proofs.lemmas.Bool.{and_parts}
use Rattle.std.proofs.lemmas.Bool.Decides.{nat_tests}
use Rattle.std.proofs.lemmas.List.Sums.{AllPass-from_list_all, take_while-cons}
use Rattle.dex_types.specs.declared.addresses.Address.{Address}
use Rattle.dex_types.specs.Text.{is_label, is_label_character, label_address}
use Rattle.hex.specs.Hex.{IsBytes, encode_lower, encode_with, lower_digits}
use Rattle.hex.proofs.HexLemmas.{decode_sized-encode_lower, length-encode_with}
use Rattle.dex_rows.specs.Addresses.{address_of, digits_address, is_lower_hexdigit}

-- a label is read as its address
pub address_of-label : (label : List ℕ) → is_label label ≡ true → address_of label ≡ Some (label_address label)
unfolding address_of
address_of-label label is = rw is refl

-- a byte that is not 0
abbrev pub is_nonzero : ℕ → Bool
is_nonzero byte = not (byte == 0)

-- what stands before the zeros
take_while-zeros : (n : ℕ) → take_while is_nonzero (replicate n 0) ≡ []
take_while-zeros zero = refl
take_while-zeros (suc n) = take_while-cons is_nonzero 0 (replicate n 0)

character_nonzero : (c : ℕ) → is_label_character c ≡ true → is_nonzero c ≡ true
character_nonzero c h = grind (arith, nat_tests)

take_while-characters : (word : List ℕ) (n : ℕ) → list_all is_label_character word ≡ true → take_while is_nonzero (word ++ replicate n 0) ≡ word
take_while-characters [] n h = take_while-zeros n
take_while-characters (c ∷ word) n h =
    let parts = and_parts (is_label_character c) (list_all is_label_character word) h in
    take_while-cons is_nonzero c (word ++ replicate n 0) ∙ rw (character_nonzero c parts.0, take_while-characters word n parts.1) refl

-- a label is what stands in its address before the zeros
pub take_while-label : (label : List ℕ) → is_label label ≡ true → take_while is_nonzero (label_address label).0 ≡ label
take_while-label label is = take_while-characters label (32 - length label) (and_parts _ _ is).1

-- so two labels have two addresses
pub label_address-injective : (a b : List ℕ) → is_label a ≡ true → is_label b ≡ true → label_address a ≡ label_address b → a ≡ b
label_address-injective a b is_a is_b same =
    let front : Address → List ℕ = λ address. take_while is_nonzero address.0 in
    sym (take_while-label a is_a) ∙ ap front same ∙ take_while-label b is_b

-- the digits of a number below 16 are hexadecimal digits in lower case
digit_lower : (d : ℕ) → d < 16 → is_lower_hexdigit (slice_index lower_digits d) ≡ true
digit_lower d below = AllPass-from_list_all is_lower_hexdigit lower_digits refl d 0 below

pub digits_lower : (bytes : List ℕ) → IsBytes bytes → list_all is_lower_hexdigit (encode_lower bytes) ≡ true
unfolding encode_with
digits_lower [] h = refl
digits_lower (byte ∷ rest) h =
    let byte_fits : byte < 256 = h 0 in
    rw (digit_lower (byte / 16) (omega arith), digit_lower (byte % 16) (omega arith), digits_lower rest (λ i. h (suc i))) refl

-- a longer word is no label
is_label-long : (word : List ℕ) → 24 < length word → is_label word ≡ false
is_label-long word long = grind (arith, nat_tests)

-- the digits of an address are read as it
pub address_of-digits : (bytes : List ℕ) → length bytes ≡ 32 → IsBytes bytes → address_of (48 ∷ 120 ∷ encode_lower bytes) ≡ Some (record { 0 = bytes })
unfolding address_of digits_address
address_of-digits bytes size h =
    let long : 24 < length (48 ∷ 120 ∷ encode_lower bytes) = omega (arith, length-encode_with lower_digits bytes) in
    rw (is_label-long _ long, digits_lower bytes h, decode_sized-encode_lower bytes 32 size h) refl
