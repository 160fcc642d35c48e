-- Traders: open-orders accounts with their funds and slots.
use Rattle.std.specs.Prelude.{ℕ, ◌+◌, List, [], ◌∷◌, Option, Some, None, replicate, if◌then◌else◌}
use Rattle.dex_types.specs.declared.addresses.Address.{Address}
use Rattle.dex_types.specs.declared.terms.Side.{Side}
use Rattle.dex_types.specs.Addresses.{is_same}
use Rattle.dex_types.specs.Side.{Token, by_token}

-- a trader's native amounts of one token: what is free, and the total, with what resting orders lock, what pending outs
-- unlock and what pending maker fills are still to take
pub record Balance : Type 0 where
  pub free : ℕ
  pub total : ℕ

-- the order that a taken slot stands for, with the trader's own number for it
pub record Holding : Type 0 where
  pub id : ℕ
  pub side : Side
  pub client : ℕ

-- an open account on the market: its owning person, funds, referrer part, and 128 slots
pub record Account : Type 0 where
  pub person : Address
  pub coin : Balance
  pub pc : Balance
  pub referrer : ℕ
  pub slots : List (Option Holding)

-- a trader is an open-orders account: not yet opened, closed for good, or open
pub data Trader : Type 0 where
  Blank : Trader
  Closed : Trader
  Open : Account → Trader

-- no order in any slot
abbrev pub no_slots : List (Option Holding)
no_slots = replicate 128 None

-- the lowest free slot, or their number, which is 128, where all are taken
abbrev pub free_slot : List (Option Holding) → ℕ
free_slot [] = 0
free_slot (None ∷ slots) = 0
free_slot ((Some held) ∷ slots) = free_slot slots + 1

-- an account's funds of one token
abbrev pub balance : Token → Account → Balance
balance token account = by_token token account.coin account.pc

-- the account with these funds of one token
abbrev pub with_balance : Token → Balance → Account → Account
with_balance token funds account = record account {
  coin = by_token token funds account.coin;
  pc = by_token token account.pc funds;
}

-- the traders of a market, in declared order
abbrev pub Traders : Type 0
Traders = List (Address × Trader)

-- the trader of this address, if the market has one
abbrev pub trader_at : Address → Traders → Option Trader
trader_at address [] = None
trader_at address (entry ∷ others) = if is_same address entry.0 then Some entry.1 else trader_at address others

-- the traders with another state of the one at this address
abbrev pub put_trader : Address → Trader → Traders → Traders
put_trader address trader [] = []
put_trader address trader (entry ∷ others) =
    if is_same address entry.0 then (entry.0, trader) ∷ others else entry ∷ put_trader address trader others
