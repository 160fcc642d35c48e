-- When two outcomes tell the same, but for bytes of market accounts that no rule reads.
use Rattle.std.specs.Prelude.{◌≡◌}
use Rattle.std.specs.List.{AllZip}
use Rattle.dex_types.specs.Accounts.{PlainMarketAccounts}
use Rattle.dex_types.specs.Market.{Market}
use Rattle.dex_accounts.specs.StandsFor.{StandsFor}
use Rattle.dex_state.specs.Outcomes.{PlainOutcome}

-- the accounts are those of one market at one time. They may differ in which tree node holds which order, and in bytes
-- that stand for nothing
pub record StandForOne (one other : PlainMarketAccounts) : Type 0 where
  pub market : Market
  pub first : StandsFor one market
  pub second : StandsFor other market

-- the outcomes have the same journals, the same mints and the same bytes of wallets, and of each market accounts that
-- stand for one
pub record AreAlike (one other : PlainOutcome) : Type 0 where
  pub market_journals : one.markets ≡ other.markets
  pub wallet_journals : one.wallets ≡ other.wallets
  pub mints : one.accounts.mints ≡ other.accounts.mints
  pub srm : one.accounts.srm ≡ other.accounts.srm
  pub msrm : one.accounts.msrm ≡ other.accounts.msrm
  pub wallets : one.accounts.wallets ≡ other.accounts.wallets
  pub markets : AllZip StandForOne one.accounts.markets other.accounts.markets
