-- The bytes of mints and token accounts as they are made.
use Rattle.std.specs.Prelude.{ℕ, List, [], ◌∷◌, replicate}
use Rattle.dex_fields.specs.declared.mint.TheConstants as mint
use Rattle.dex_fields.specs.declared.token_account.TheConstants as token
use Rattle.dex_fields.specs.Writes.{Write, bytes_write, number_write, wrote}
use Rattle.dex_types.specs.declared.addresses.Address.{Address}

-- the fields of a mint that are not zero
abbrev pub mint_writes : ℕ → ℕ → List Write
mint_writes supply decimals =
    number_write mint.SUPPLY supply ∷ number_write mint.DECIMALS decimals ∷ number_write mint.IS_INITIALIZED 1 ∷ []

-- a mint as it is made
unfoldable pub mint_bytes : ℕ → ℕ → List ℕ
mint_bytes supply decimals = wrote (replicate 82 0) (mint_writes supply decimals)

-- the fields of a token account that are not zero
abbrev pub wallet_writes : Address → Address → ℕ → List Write
wallet_writes mint owner amount =
    bytes_write token.MINT mint.0
    ∷ bytes_write token.OWNER owner.0
    ∷ number_write token.AMOUNT amount
    ∷ number_write token.STATE 1
    ∷ []

-- a token account as it is made
unfoldable pub wallet_bytes : Address → Address → ℕ → List ℕ
wallet_bytes mint owner amount = wrote (replicate 165 0) (wallet_writes mint owner amount)
