-- What was decided of settling, sweeping, disabling, opening and closing on a market, and the steps that they make
-- there.
use Rattle.std.specs.Prelude.{◌≡◌, ℕ, Some, None}
use Rattle.dex_types.specs.declared.addresses.Address.{Address}
use Rattle.dex_types.specs.Market.{Market}
use Rattle.dex_types.specs.Reasons.{not_empty}
use Rattle.dex_types.specs.Requests.{open_party}
use Rattle.dex_types.specs.Soundness.{IsSound}
use Rattle.dex_types.specs.Steps.{Step, act_sweep, by_party, done, settled}
use Rattle.dex_types.specs.Trader.{Account, Blank, Open, trader_at}
use Rattle.dex_types.specs.Upkeep.{after_close, after_disable, after_init}
use Rattle.dex_settle.specs.declared.plan.SettlePlan.{SettlePlan}
use Rattle.dex_settle.specs.PayingOut.{PaysOut, settlement_by}

-- the step of settling the open account at an address, as it was planned
abbrev pub settle_step : SettlePlan → Address → Market → Step
settle_step plan owner m = by_party (λ party. settled m party (settlement_by plan)) m (open_party owner (trader_at owner m.traders))

-- settling was decided on the market: the account is open, the plan pays out all that is free in it, and the market
-- after it is sound
pub record IsSettleDecided (plan : SettlePlan) (owner : Address) (m : Market) : Type 0 where
  pub account : Account
  pub known : trader_at owner m.traders ≡ Some (Open account)
  pub out : PaysOut plan account
  pub sound : IsSound (settle_step plan owner m).market

-- the step of sweeping
abbrev pub sweep_step : Market → Step
sweep_step m = act_sweep m

-- sweeping was decided on the market: these are its pc fees, and the market after it is sound
pub record IsSweepDecided (fees : ℕ) (m : Market) : Type 0 where
  pub fees_are : fees ≡ m.pc_fees
  pub sound : IsSound (sweep_step m).market

-- the step of disabling
abbrev pub disable_step : Market → Step
disable_step m = done (after_disable m)

-- disabling was decided on the market, which is sound after it
pub record IsDisableDecided (m : Market) : Type 0 where
  pub sound : IsSound (disable_step m).market

-- the step of opening the account at an address for a signer
abbrev pub init_step : Address → Address → Market → Step
init_step owner signer m = done (after_init owner signer m)

-- opening was decided on the market: the account is blank, and the market is sound after it
pub record IsInitDecided (owner signer : Address) (m : Market) : Type 0 where
  pub blank : trader_at owner m.traders ≡ Some Blank
  pub sound : IsSound (init_step owner signer m).market

-- the step of closing the account at an address for good
abbrev pub close_step : Address → Market → Step
close_step owner m = done (after_close owner m)

-- closing was decided on the market: the account is open and empty, and the market is sound after it
pub record IsCloseDecided (owner : Address) (m : Market) : Type 0 where
  pub account : Account
  pub known : trader_at owner m.traders ≡ Some (Open account)
  pub empty : not_empty account ≡ None
  pub sound : IsSound (close_step owner m).market
