-- Amounts of one mint's tokens.
use Rattle.std.specs.Prelude.{ℕ, List}
use Rattle.dex_types.specs.declared.addresses.Address.{Address}
use Rattle.dex_token.specs.TokenAccount.{wallet_words}

-- this many native units of this mint
pub record TokenAmount : Type 0 where
  pub mint : Address
  pub amount : ℕ

-- what a token account holds
abbrev pub held_in : List ℕ → TokenAmount
held_in bytes = record { mint = (wallet_words bytes).mint; amount = (wallet_words bytes).amount }
