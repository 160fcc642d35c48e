-- Words that name accounts.
use Rattle.std.specs.Prelude.{◌≡◌, ℕ, Bool, true, false, ◌&&◌, ◌||◌, ◌==◌, if◌then◌else◌, List, ◌∷◌, bytes_eq, codes, Option, Some, None, option_map}
use Rattle.std.specs.Char.{is_ascii_digit}
use Rattle.std.specs.Int.{is_in_range}
use Rattle.std.specs.List.{list_all}
use Rattle.std.specs.Result.{result_ok}
use Rattle.dex_types.specs.declared.addresses.Address.{Address}
use Rattle.dex_types.specs.Text.{is_label, label_address}
use Rattle.hex.specs.Hex.{decode_sized}

-- the hexadecimal digits in lower case
abbrev pub is_lower_hexdigit : ℕ → Bool
is_lower_hexdigit c = is_ascii_digit c || is_in_range 97 102 c

-- the address whose bytes 64 hexadecimal digits in lower case write, two digits a byte
unfoldable pub digits_address : List ℕ → Option Address
digits_address digits =
    if list_all is_lower_hexdigit digits then option_map (λ bytes. record { 0 = bytes }) (result_ok (decode_sized digits 32)) else None

-- the address of `0x` and 64 such digits
abbrev pub prefixed_address : List ℕ → Option Address
prefixed_address (first ∷ second ∷ digits) = if (first == 48) && (second == 120) then digits_address digits else None
prefixed_address _ = None

-- the address that a word names: its own where it is a label, else that of `0x` and 64 digits
unfoldable pub address_of : List ℕ → Option Address
address_of word = if is_label word then Some (label_address word) else prefixed_address word

-- the wallet that a word gives to a role: none where it is `-`, else the address that it names
unfoldable pub role_of : List ℕ → Option (Option Address)
role_of word = if bytes_eq word (codes "-") then Some None else option_map Some (address_of word)

-- a value was put where it is to stand, where the word has one
abbrev pub IsRead : {A : Type 0} → Bool → Option A → A → Type 0
IsRead true meant left = meant ≡ Some left
IsRead false meant left = meant ≡ None
