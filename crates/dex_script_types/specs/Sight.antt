-- What a row of a script may see.
use Rattle.std.specs.Prelude.{◌≡◌, List, Option, Some, None}
use Rattle.std.specs.List.{Any}
use Rattle.dex_types.specs.declared.rows.Seen.{Seen}
use Rattle.dex_types.specs.declared.rows.WalletSeen.{WalletSeen}
use Rattle.dex_types.specs.Accounts.{PlainAccount}
use Rattle.dex_token.specs.TokenAccount.{wallet_words}
use Rattle.dex_script_types.specs.PlainScript.{PlainScript}

-- what is seen under a role is a wallet of these, with some balance
abbrev pub IsWalletSeen : List PlainAccount → Option WalletSeen → Type 0
IsWalletSeen wallets None = Unit {0}
IsWalletSeen wallets (Some seen) = Any (λ (wallet : PlainAccount).
    let words = wallet_words wallet.bytes in
    seen ≡ record { address = wallet.address; mint = words.mint; owner = words.owner; balance = seen.balance }) wallets

-- what a row of the script may see: its wallets, mints and program
pub record IsSight (script : PlainScript) (seen : Seen) : Type 0 where
  pub coin : IsWalletSeen script.start.wallets seen.coin
  pub pc : IsWalletSeen script.start.wallets seen.pc
  pub discount : IsWalletSeen script.start.wallets seen.discount
  pub referrer : IsWalletSeen script.start.wallets seen.referrer
  pub srm : seen.srm ≡ script.start.srm
  pub msrm : seen.msrm ≡ script.start.msrm
  pub program : seen.program ≡ script.program
