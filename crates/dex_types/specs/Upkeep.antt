-- Opening and closing accounts, and disabling a market.
use Rattle.std.specs.Prelude.{ℕ, ◌+◌, true, List, [], ◌∷◌, Option, Some, None}
use Rattle.dex_types.specs.declared.addresses.Address.{Address}
use Rattle.dex_types.specs.Market.{Market}
use Rattle.dex_types.specs.Trader.{Account, Holding, Open, Closed, no_slots, put_trader}

-- a fresh account of a person: no funds, no orders
abbrev pub fresh_account : Address → Account
fresh_account person = record {
  person = person;
  coin = record { free = 0; total = 0 };
  pc = record { free = 0; total = 0 };
  referrer = 0;
  slots = no_slots;
}

-- the market after a blank account was opened for the signer
abbrev pub after_init : Address → Address → Market → Market
after_init owner signer m = record m { traders = put_trader owner (Open (fresh_account signer)) m.traders }

-- how many slots hold an order
abbrev pub taken_slots : List (Option Holding) → ℕ
taken_slots [] = 0
taken_slots (None ∷ slots) = taken_slots slots
taken_slots ((Some held) ∷ slots) = taken_slots slots + 1

-- all native funds of an account together: both totals and the referrer part
abbrev pub all_funds : Account → ℕ
all_funds account = account.coin.total + account.pc.total + account.referrer

-- the market after an empty account was closed for good
abbrev pub after_close : Address → Market → Market
after_close owner m = record m { traders = put_trader owner Closed m.traders }

-- the market after it was disabled for good
abbrev pub after_disable : Market → Market
after_disable m = record m { is_disabled = true }
