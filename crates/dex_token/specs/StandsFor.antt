-- Which market's vault a token account is.
use Rattle.std.specs.Prelude.{◌≡◌, ℕ, List}
use Rattle.dex_types.specs.Market.{Market}
use Rattle.dex_types.specs.Side.{Token, by_token}
use Rattle.dex_token.specs.TokenAccount.{IsWallet, WalletWords, wallet_words}

-- what a market's vault of the token says: the token's mint, the vault's owner, and what the market counts in it
abbrev pub vault_words : Token → Market → WalletWords
vault_words token market = record {
  mint = by_token token market.listing.coin_mint market.listing.pc_mint;
  owner = by_token token market.listing.coin_vault_owner market.listing.pc_vault_owner;
  amount = by_token token market.coin_vault market.pc_vault;
}

-- the bytes are the market's vault of the token
pub record StandsForVault (bytes : List ℕ) (token : Token) (market : Market) : Type 0 where
  pub accepted : IsWallet bytes
  pub words : wallet_words bytes ≡ vault_words token market
