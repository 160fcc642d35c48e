-- What a check tells of the wallets that an instruction names.
use Rattle.std.specs.Prelude.{ℕ, List, Bool, ◌&&◌, ◌||◌, if◌then◌else◌, Option, Some, None}
use Rattle.std.specs.Option.{option_map, option_or}
use Rattle.dex_types.specs.declared.addresses.Address.{Address}
use Rattle.dex_types.specs.declared.faults.AccountFault.{AccountFault}
use Rattle.dex_types.specs.Addresses.{is_same}
use Rattle.dex_token.specs.Faults.{wallet_fault}
use Rattle.dex_process.specs.Process.{purse_with}
use Rattle.dex_purse.specs.declared.lent_wallets.Roles.{Roles}
use Rattle.dex_purse.specs.declared.lent_wallets.Slot.{Slot}
use Rattle.dex_purse.specs.declared.lent_wallets.Slot.TheVariants.{First, Second, Third, Fourth}
use Rattle.dex_purse.specs.Purse.{Purse, names, wallet_at}
use Rattle.dex_check.specs.declared.flaw.Flaw.{Flaw}
use Rattle.dex_check.specs.declared.flaw.Flaw.TheVariants.{Fault, Twice}
use Rattle.dex_check.specs.declared.market_slices.WalletSlices.{WalletSlices}

-- the wallets that a caller has
abbrev pub purse_of : WalletSlices → Purse
purse_of w =
    purse_with w.first_address w.first.now w.second_address w.second.now w.third_address w.third.now w.fourth_address
    w.fourth.now

-- a place is named under some role
abbrev pub is_named : Slot → Roles → Bool
is_named slot roles =
    names slot roles.coin || names slot roles.pc || names slot roles.discount || names slot roles.referrer

-- the flaw of an account of this address
abbrev pub fault_at : Address → AccountFault → Flaw
fault_at address fault = Fault address fault

-- a place that is named is no token account
abbrev pub wallet_flaw : Bool → Address → List ℕ → Option Flaw
wallet_flaw named address bytes = if named then option_map (fault_at address) (wallet_fault bytes) else None

-- two places that are both named have one address
abbrev pub twice_flaw : Bool → Address → Address → Option Flaw
twice_flaw both one other = if both && is_same one other then Some (Twice other) else None

-- the flaw of a place
abbrev pub flaw_at : Slot → Roles → Purse → Option Flaw
flaw_at slot roles purse = wallet_flaw (is_named slot roles) (wallet_at slot purse).address (wallet_at slot purse).bytes

-- the flaw of two places
abbrev pub flaw_of_both : Slot → Slot → Roles → Purse → Option Flaw
flaw_of_both one other roles purse =
    twice_flaw (is_named one roles && is_named other roles) (wallet_at one purse).address
    (wallet_at other purse).address

-- the first place that is no token account
abbrev pub first_fault : Roles → Purse → Option Flaw
first_fault roles purse =
    option_or (option_or (option_or
    (flaw_at First roles purse) (flaw_at Second roles purse)) (flaw_at Third roles purse)) (flaw_at Fourth roles purse)

-- the first two places that have one address
abbrev pub first_twice : Roles → Purse → Option Flaw
first_twice roles purse =
    option_or (option_or (option_or (option_or (option_or
    (flaw_of_both First Second roles purse) (flaw_of_both First Third roles purse))
    (flaw_of_both Second Third roles purse)) (flaw_of_both First Fourth roles purse))
    (flaw_of_both Second Fourth roles purse))
    (flaw_of_both Third Fourth roles purse)

-- the first flaw of the wallets that are named: of one, and then of two
abbrev pub wallets_flaw : Roles → Purse → Option Flaw
wallets_flaw roles purse = option_or (first_fault roles purse) (first_twice roles purse)
