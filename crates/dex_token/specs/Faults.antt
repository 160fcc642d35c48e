-- The first rule that a token account or a mint breaks by itself, with the place and the bytes found and wanted there.
-- The rules of the bytes stand in the order of their places.
use Rattle.std.specs.Prelude.{ℕ, suc, List, [], ◌∷◌, length, Option, Some, None, if◌then◌else◌, ◌==◌}
use Rattle.std.specs.Option.{option_or}
use Rattle.dex_fields.specs.declared.field.Field.{Field}
use Rattle.dex_fields.specs.declared.token_account.TheConstants.{DELEGATE, STATE, IS_NATIVE, DELEGATED_AMOUNT, CLOSE_AUTHORITY}
use Rattle.dex_fields.specs.declared.mint.TheConstants.{IS_INITIALIZED}
use Rattle.dex_fields.specs.Bytes.{bytes_in, number_in}
use Rattle.dex_types.specs.declared.faults.AccountFault.{AccountFault}
use Rattle.dex_types.specs.AccountFaults.{size_fault}

-- kind 10: a byte of a token account or a mint
abbrev pub token_fault : ℕ → ℕ → ℕ → AccountFault
token_fault place found wanted = record { kind = 10; place = place; found = found; wanted = wanted }

-- the one byte of a field is not what it must be
abbrev pub byte_rule : List ℕ → Field → ℕ → Option AccountFault
byte_rule bytes field wanted =
    if number_in bytes field == wanted then None else Some (token_fault field.at (number_in bytes field) wanted)

-- the first that is not zero, of bytes that begin at the place `start`
unfoldable pub first_set : ℕ → List ℕ → Option AccountFault
first_set start [] = None
first_set start (b ∷ bytes) = if b == 0 then first_set (suc start) bytes else Some (token_fault start b 0)

-- a byte of the field is not zero
abbrev pub zero_rule : List ℕ → Field → Option AccountFault
zero_rule bytes field = first_set field.at (bytes_in bytes field)

-- the first byte after the amount that is not what it must be
unfoldable pub rest_rule : List ℕ → Option AccountFault
rest_rule bytes =
    option_or (option_or (option_or (option_or (zero_rule bytes DELEGATE) (byte_rule bytes STATE 1)) (zero_rule bytes IS_NATIVE)) (zero_rule bytes DELEGATED_AMOUNT)) (zero_rule bytes CLOSE_AUTHORITY)

-- the first rule that a token account breaks
unfoldable pub wallet_fault : List ℕ → Option AccountFault
wallet_fault bytes = if length bytes == 165 then rest_rule bytes else Some (size_fault (length bytes) 165)

-- the first rule that a mint breaks
unfoldable pub mint_fault : List ℕ → Option AccountFault
mint_fault bytes = if length bytes == 82 then byte_rule bytes IS_INITIALIZED 1 else Some (size_fault (length bytes) 82)
