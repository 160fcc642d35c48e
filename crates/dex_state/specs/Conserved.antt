-- What wallets and vaults hold of a mint.
use Rattle.std.specs.Prelude.{◌≡◌, ℕ, ◌+◌, List, if◌then◌else◌}
use Rattle.dex_types.specs.declared.addresses.Address.{Address}
use Rattle.dex_types.specs.Accounts.{PlainAccount, PlainAccounts, PlainMarketAccounts}
use Rattle.dex_types.specs.Addresses.{is_same}
use Rattle.dex_types.specs.Totals.{total}
use Rattle.dex_token.specs.MintAccount.{mint_words}
use Rattle.dex_token.specs.TokenAccount.{wallet_words}

-- the amount of a token account, where it is of the mint
abbrev pub amount_of : Address → List ℕ → ℕ
amount_of mint bytes = if is_same mint (wallet_words bytes).mint then (wallet_words bytes).amount else 0

-- what wallets hold of a mint
abbrev pub in_wallets : Address → List PlainAccount → ℕ
in_wallets mint wallets = total (λ (wallet : PlainAccount). amount_of mint wallet.bytes) wallets

-- what the vaults of markets hold of a mint
abbrev pub in_vaults : Address → List PlainMarketAccounts → ℕ
in_vaults mint markets = total (λ (market : PlainMarketAccounts). amount_of mint market.coin_vault + amount_of mint market.pc_vault) markets

-- what the accounts hold of a mint: all its wallets and all its vaults
abbrev pub held_of : Address → PlainAccounts → ℕ
held_of mint accounts = in_wallets mint accounts.wallets + in_vaults mint accounts.markets

-- a mint's supply is what wallets and vaults hold of it
abbrev pub IsConserved : PlainAccounts → PlainAccount → Type 0
IsConserved accounts mint = (mint_words mint.bytes).supply ≡ held_of mint.address accounts
