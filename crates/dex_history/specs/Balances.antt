-- Balances of wallets, and the vaults that may pay to them.
use Rattle.std.specs.Prelude.{◌+◌, ◌<◌, ◌≡◌, ◌^◌, Option, Some, None, true}
use Rattle.dex_types.specs.declared.addresses.Address.{Address}
use Rattle.dex_types.specs.declared.rows.Seen.{Seen}
use Rattle.dex_types.specs.declared.rows.WalletSeen.{WalletSeen}
use Rattle.dex_types.specs.Addresses.{is_same}
use Rattle.dex_types.specs.Market.{Market}
use Rattle.dex_types.specs.Side.{Token, by_token}
use Rattle.dex_types.specs.Solvency.{vault}

-- the mint of a token of the market
abbrev pub mint_of : Token → Market → Address
mint_of token m = by_token token m.listing.coin_mint m.listing.pc_mint

-- a wallet's balance and the vault of the token whose mint it has are below 2^64 together
abbrev pub FitsVault : Token → Market → Option WalletSeen → Type 0
FitsVault token m None = Unit {0}
FitsVault token m (Some wallet) = is_same (mint_of token m) wallet.mint ≡ true → wallet.balance + vault token m < 2 ^ 64

-- so it is for each wallet that a row sees and that can be paid to. It is so wherever the wallets and vaults of each
-- mint add up to a supply below 2^64
pub record FitVaults (seen : Seen) (m : Market) : Type 0 where
  pub coin : (token : Token) → FitsVault token m seen.coin
  pub pc : (token : Token) → FitsVault token m seen.pc
  pub referrer : (token : Token) → FitsVault token m seen.referrer
