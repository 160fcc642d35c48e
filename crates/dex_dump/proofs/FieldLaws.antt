-- The fields of a dump hold no comma, no quote and no byte outside 32 to 126, and are read back as what they were
-- written from.
use Rattle.std.proofs.Common.{◌≡◌, ◌<◌, ◌+◌, ◌-◌, ◌*◌, ◌/◌, ◌%◌, ◌∷◌, ◌++◌, ◌∙◌, ◌&&◌, ◌==◌, [], ℕ, zero, suc, List, Bool, not, true, false, Some, refl, inl, inr, sym, ap, length, replicate, slice_index, arith}
use Rattle.std.specs.List.{list_all, list_any}
use Rattle.std.proofs.lemmas.Bool.{and_parts, cases_Bool, eqb-true}
use Rattle.std.proofs.lemmas.Bool.Decides.{nat_tests}
use Rattle.std.proofs.lemmas.List.{length-append, take-append-drop}
use Rattle.std.proofs.lemmas.List.Folds.{list_all-append}
use Rattle.std.proofs.lemmas.List.Sums.{AllPass-from_list_all}
use Rattle.base64.specs.Rfc4648.{encode_symbols, padding_len}
use Rattle.base64.specs.Engines.{standard}
use Rattle.csv.specs.Quoting.{needs_byte}
use Rattle.csv.specs.Writing.{default_writer}
use Rattle.dex_types.specs.declared.addresses.Address.{Address}
use Rattle.dex_types.specs.Text.{address_text, behind_front, front_of, is_label_character, is_labelled, label_address}
use Rattle.hex.specs.Hex.{IsBytes, encode_lower}
use Rattle.dex_rows.specs.Addresses.{address_of, is_lower_hexdigit}
use Rattle.dex_rows.specs.Printable.{is_printable, is_printable_byte}
use Rattle.dex_rows.proofs.AddressLaws.{address_of-digits, address_of-label, digits_lower}
use Rattle.base64.specs.GeneralPurpose.{decoded_of}
use Rattle.base64.proofs.RoundTrip.{decode-encode}
use Rattle.dex_rows.specs.Base64.{base64_of}
use Rattle.dex_state.specs.Held.{IsAddress}
use Rattle.dex_dump.specs.DumpText.{base64_text}

-- ---- bytes that a field may have

-- a byte from 32 to 126 that is no comma and no quote
abbrev pub is_plain : ℕ → Bool
is_plain byte = is_printable_byte byte && (not (byte == 44) && not (byte == 34))

-- a test that another implies
pub all-implies : (p q : ℕ → Bool) → ((x : ℕ) → p x ≡ true → q x ≡ true) → (xs : List ℕ) → list_all p xs ≡ true → list_all q xs ≡ true
all-implies p q implies [] h = refl
all-implies p q implies (x ∷ xs) h =
    let parts = and_parts (p x) (list_all p xs) h in
    rw (implies x parts.0, all-implies p q implies xs parts.1) refl

all-both : (p : ℕ → Bool) (xs ys : List ℕ) → list_all p xs ≡ true → list_all p ys ≡ true → list_all p (xs ++ ys) ≡ true
all-both p xs ys hx hy = rw (list_all-append p xs ys, hx, hy) refl

all-replicate : (p : ℕ → Bool) (n x : ℕ) → p x ≡ true → list_all p (replicate n x) ≡ true
all-replicate p zero x h = refl
all-replicate p (suc n) x h = rw (h, all-replicate p n x h) refl

character_plain : (c : ℕ) → is_label_character c ≡ true → is_plain c ≡ true
character_plain c h = grind (arith, nat_tests)

digit_plain : (c : ℕ) → is_lower_hexdigit c ≡ true → is_plain c ≡ true
digit_plain c h = grind (arith, nat_tests)

plain_printable : (c : ℕ) → is_plain c ≡ true → is_printable_byte c ≡ true
plain_printable c h = (and_parts (is_printable_byte c) _ h).0

pub printable : (field : List ℕ) → list_all is_plain field ≡ true → is_printable field ≡ true
unfolding is_printable
printable field h = all-implies is_plain is_printable_byte plain_printable field h

plain_needs : (c : ℕ) → is_plain c ≡ true → needs_byte default_writer c ≡ false
plain_needs c h = grind (arith, nat_tests)

-- a plain field is written as it is
pub unquoted : (field : List ℕ) → list_all is_plain field ≡ true → list_any (needs_byte default_writer) field ≡ false
unquoted [] h = refl
unquoted (c ∷ field) h =
    let parts = and_parts (is_plain c) (list_all is_plain field) h in
    rw (plain_needs c parts.0, unquoted field parts.1) refl

-- ---- base64

abbrev table : List ℕ
table = standard.encode_table

symbol_plain : (k : ℕ) → k < 64 → is_plain (slice_index table k) ≡ true
symbol_plain k below = AllPass-from_list_all is_plain table refl k 0 below

symbols_plain : (bytes : List ℕ) → IsBytes bytes → list_all is_plain (encode_symbols table bytes) ≡ true
unfolding encode_symbols
symbols_plain [] h = refl
symbols_plain (a ∷ []) h =
    let fa : a < 256 = h 0 in
    rw (symbol_plain (a / 4) (omega arith), symbol_plain (a % 4 * 16) (omega arith)) refl
symbols_plain (a ∷ b ∷ []) h =
    let fa : a < 256 = h 0 in let fb : b < 256 = h 1 in
    rw (symbol_plain (a / 4) (omega arith), symbol_plain (a % 4 * 16 + b / 16) (omega arith), symbol_plain (b % 16 * 4) (omega arith)) refl
symbols_plain (a ∷ b ∷ c ∷ rest) h =
    let fa : a < 256 = h 0 in let fb : b < 256 = h 1 in let fc : c < 256 = h 2 in
    rw (
      symbol_plain (a / 4) (omega arith),
      symbol_plain (a % 4 * 16 + b / 16) (omega arith),
      symbol_plain (b % 16 * 4 + c / 64) (omega arith),
      symbol_plain (c % 64) (omega arith),
      symbols_plain rest (λ i. h (suc (suc (suc i)))),
    ) refl

pub base64_plain : (bytes : List ℕ) → IsBytes bytes → list_all is_plain (base64_text bytes) ≡ true
unfolding base64_text
base64_plain bytes h = all-both is_plain (encode_symbols table bytes) _ (symbols_plain bytes h) (all-replicate is_plain (padding_len (length bytes)) 61 refl)

-- ---- addresses

-- bytes that are all zero
pub zeros : (bytes : List ℕ) → list_all (λ b. b == 0) bytes ≡ true → bytes ≡ replicate (length bytes) 0
zeros [] h = refl
zeros (b ∷ bytes) h =
    let parts = and_parts (b == 0) (list_all (λ b. b == 0) bytes) h in
    rw (eqb-true b 0 parts.0) (ap (λ (r : List ℕ). 0 ∷ r) (zeros bytes parts.1))

pub address_plain : (address : Address) → IsAddress address → list_all is_plain (address_text address) ≡ true
unfolding address_text
address_plain address is = elim (cases_Bool (is_labelled address.0)) [
  | inl label ↦ rw label (all-implies is_label_character is_plain character_plain (front_of address.0) (and_parts _ _ (and_parts _ _ label).0).1)
  | inr other ↦ rw other (all-both is_plain (48 ∷ 120 ∷ []) (encode_lower address.0) refl
      (all-implies is_lower_hexdigit is_plain digit_plain (encode_lower address.0) (digits_lower address.0 is.bytes)))
]

-- a label and the zeros after it are the address
label_whole : (address : Address) → IsAddress address → is_labelled address.0 ≡ true → label_address (front_of address.0) ≡ address
label_whole address is label =
    let front = front_of address.0 in
    let behind = behind_front address.0 in
    let whole : front ++ behind ≡ address.0 = take-append-drop _ address.0 in
    let zero : behind ≡ replicate (length behind) 0 = zeros behind (and_parts _ _ label).1 in
    let size : length front + length behind ≡ 32 = sym (length-append front behind) ∙ ap length whole ∙ is.size in
    let left : 32 - length front ≡ length behind = omega arith in
    let bytes : front ++ replicate (32 - length front) 0 ≡ address.0 = rw left (ap (λ (r : List ℕ). front ++ r) (sym zero) ∙ whole) in
    ap (λ (b : List ℕ). let a : Address = record { 0 = b } in a) bytes

-- the text of an address is read as it
pub address_of-text : (address : Address) → IsAddress address → address_of (address_text address) ≡ Some address
unfolding address_text
address_of-text address is = elim (cases_Bool (is_labelled address.0)) [
  | inl label ↦ rw label (address_of-label (front_of address.0) (and_parts _ _ label).0 ∙ ap Some (label_whole address is label))
  | inr other ↦ rw other (address_of-digits address.0 is.size is.bytes)
]

-- ---- base64 is read as the bytes

pub base64_of-text : (bytes : List ℕ) → IsBytes bytes → base64_of (base64_text bytes) ≡ Some bytes
unfolding base64_text base64_of decoded_of
base64_of-text bytes h =
    let back = decode-encode table standard.decode_table bytes 61 standard.config.decode_allow_trailing_bits standard.config.decode_padding_mode standard.config.encode_padding refl h refl in
    rw (back.0, back.1) refl
