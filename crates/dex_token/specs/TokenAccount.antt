-- What a token account says, and which bytes are one that the exchange takes.
use Rattle.std.specs.Prelude.{◌≡◌, ℕ, List, length, replicate}
use Rattle.dex_fields.specs.declared.field.Field.{Field}
use Rattle.dex_fields.specs.declared.token_account.TheConstants.{MINT, OWNER, AMOUNT, DELEGATE, STATE, IS_NATIVE, DELEGATED_AMOUNT, CLOSE_AUTHORITY}
use Rattle.dex_fields.specs.Bytes.{bytes_in, number_in, with_number}
use Rattle.dex_types.specs.declared.addresses.Address.{Address}

-- the address that stands in a field
abbrev pub address_in : List ℕ → Field → Address
address_in bytes field = record { 0 = bytes_in bytes field }

-- what a token account says: the mint of its tokens, whose they are, and how many native units there are
pub record WalletWords : Type 0 where
  pub mint : Address
  pub owner : Address
  pub amount : ℕ

-- what the bytes say
abbrev pub wallet_words : List ℕ → WalletWords
wallet_words bytes = record { mint = address_in bytes MINT; owner = address_in bytes OWNER; amount = number_in bytes AMOUNT }

-- the bytes with another amount
abbrev pub with_amount : List ℕ → ℕ → List ℕ
with_amount bytes amount = with_number bytes AMOUNT amount

-- every byte of the field is zero
abbrev pub IsZero : Field → List ℕ → Type 0
IsZero field bytes = bytes_in bytes field ≡ replicate field.len 0

-- the bytes are a token account whose state is 1, initialized, and of which no delegate, no native amount and no close
-- authority is set
pub record IsWallet (bytes : List ℕ) : Type 0 where
  pub size : length bytes ≡ 165
  pub delegate : IsZero DELEGATE bytes
  pub state : number_in bytes STATE ≡ 1
  pub is_native : IsZero IS_NATIVE bytes
  pub delegated_amount : IsZero DELEGATED_AMOUNT bytes
  pub close_authority : IsZero CLOSE_AUTHORITY bytes
