-- What a mint says, and which bytes are one.
use Rattle.std.specs.Prelude.{◌≡◌, ℕ, List, length}
use Rattle.dex_fields.specs.declared.mint.TheConstants.{SUPPLY, DECIMALS, IS_INITIALIZED}
use Rattle.dex_fields.specs.Bytes.{number_in}

-- what a mint says: how many native units its accounts hold together, and with how many decimals an amount is shown
pub record MintWords : Type 0 where
  pub supply : ℕ
  pub decimals : ℕ

-- what the bytes say
abbrev pub mint_words : List ℕ → MintWords
mint_words bytes = record { supply = number_in bytes SUPPLY; decimals = number_in bytes DECIMALS }

-- the bytes are a mint that is initialized; its other bytes are not looked at
pub record IsMint (bytes : List ℕ) : Type 0 where
  pub size : length bytes ≡ 82
  pub initialized : number_in bytes IS_INITIALIZED ≡ 1
