-- What a row asks of a market, and the open account that it names.
use Rattle.std.specs.Prelude.{ℤ, ◌≤◌, List, [], ◌∷◌, Option, Some, None, Result, Ok}
use Rattle.dex_types.specs.declared.addresses.Address.{Address}
use Rattle.dex_types.specs.declared.instructions.BadData.{BadData}
use Rattle.dex_types.specs.declared.instructions.Ix.{Ix}
use Rattle.dex_types.specs.declared.instructions.Ix.TheVariants.{NewOrderV3, SendTake}
use Rattle.dex_types.specs.Trader.{Account, Trader, Open, Traders, trader_at}

-- what a row asks of its market, beside the wallets that it names: the instruction, or the rule that its data breaks;
-- the signer; the open-orders accounts that it names; and the clock
pub record Request : Type 0 where
  pub instruction : Result Ix BadData
  pub signer : Address
  pub named : List Address
  pub now : ℤ

-- what was decoded states a price, where it is an order or a take
abbrev pub HasPrice : Result Ix BadData → Type 0
HasPrice (Ok (NewOrderV3 side price lots max_pc self_trade order_type client limit latest)) = 1 ≤ price
HasPrice (Ok (SendTake side price lots max_pc min_lots min_pc limit)) = 1 ≤ price
HasPrice _ = Unit {0}

-- an open account of a market, with its address
pub record Party : Type 0 where
  pub address : Address
  pub account : Account

-- the trader at an address, where it is open
abbrev pub open_party : Address → Option Trader → Option Party
open_party address (Some (Open account)) = Some (record { address = address; account = account })
open_party address _ = None

-- the account that a row acts on, which it names first, where it is an open one of the market
abbrev pub party_of : List Address → Traders → Option Party
party_of [] traders = None
party_of (address ∷ others) traders = open_party address (trader_at address traders)
