-- What a check tells of a market's accounts and of the wallets that an instruction names.
use Rattle.std.specs.Prelude.{◌≡◌, ◌⊎◌, Option, Some, None}
use Rattle.dex_types.specs.Accounts.{PlainMarketAccounts}
use Rattle.dex_accounts.specs.Accepted.{IsAccepted}
use Rattle.dex_accounts.specs.Decoded.{AreSound}
use Rattle.dex_purse.specs.declared.lent_wallets.Roles.{Roles}
use Rattle.dex_purse.specs.Purse.{AreApart, AreWallets, Purse}
use Rattle.dex_check.specs.declared.flaw.Flaw.{Flaw}
use Rattle.dex_check.specs.Flaws.{Tells}
use Rattle.dex_check.specs.Wallets.{wallets_flaw}

-- the accounts are accepted and those of a sound market, and the wallets that are named are token accounts of different
-- addresses: what `process` asks for, but for the sums of pending fills
pub record CanAct (roles : Roles) (accounts : PlainMarketAccounts) (purse : Purse) : Type 0 where
  pub accepted : IsAccepted accounts
  pub sound : AreSound accounts
  pub wallets : AreWallets roles purse
  pub apart : AreApart roles purse

-- they are so; or this is the first flaw of the accounts; or it is that of the wallets, and the accounts have none
abbrev pub TellsBoth : Option Flaw → Roles → PlainMarketAccounts → Purse → Type 0
TellsBoth None roles accounts purse = CanAct roles accounts purse
TellsBoth (Some flaw) roles accounts purse =
    Tells (Some flaw) accounts ⊎ (IsAccepted accounts × AreSound accounts × (wallets_flaw roles purse ≡ Some flaw))
