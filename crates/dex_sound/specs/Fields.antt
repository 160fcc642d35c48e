-- Amounts that fit their fields, which have 64 bits.
use Rattle.std.specs.Prelude.{◌+◌, ◌<◌, ◌≤◌, ◌≡◌, ◌^◌, Some}
use Rattle.dex_types.specs.declared.addresses.Address.{Address}
use Rattle.dex_types.specs.Market.{Market}
use Rattle.dex_types.specs.Owed.{leaving, owed, referred}
use Rattle.dex_types.specs.QueuedEvent.{QueuedEvent}
use Rattle.dex_types.specs.Side.{Token}
use Rattle.dex_types.specs.Solvency.{vault}
use Rattle.dex_types.specs.Soundness.{event_holding, held_at}
use Rattle.dex_types.specs.Trader.{Account, Open, balance, trader_at}
use Rattle.dex_sound.specs.Exchange.{gained}

-- an account's native amounts are below 2^64, and its free ones are part of their totals
pub record AccountFits (account : Account) : Type 0 where
  pub free : (token : Token) → (balance token account).free ≤ (balance token account).total
  pub total : (token : Token) → (balance token account).total < 2 ^ 64
  pub referrer : account.referrer < 2 ^ 64

-- a market's native amounts are below 2^64: its vaults, its fees, its referrer rebates, and those of its accounts
pub record FieldsFit (m : Market) : Type 0 where
  pub vaults : (token : Token) → vault token m < 2 ^ 64
  pub coin_fees : m.coin_fees < 2 ^ 64
  pub pc_fees : m.pc_fees < 2 ^ 64
  pub rebates : m.referrer_rebates < 2 ^ 64
  pub accounts : (owner : Address) (account : Account) → trader_at owner m.traders ≡ Some (Open account) → AccountFits account

-- a pending event can be paid: its owner is open and holds its order in the event's slot, what it takes off a total is
-- in that, and what it adds to a free amount, to a total or to the referrer part leaves that below 2^64
pub record CanBePaid (m : Market) (event : QueuedEvent) : Type 0 where
  pub account : Account
  pub found : trader_at event.owner m.traders ≡ Some (Open account)
  pub held : held_at event.owner event.slot m.traders ≡ Some (event_holding event)
  pub leaving : (token : Token) → leaving token event ≤ (balance token account).total
  pub free : (token : Token) → (balance token account).free + owed token event < 2 ^ 64
  pub total : (token : Token) → (balance token account).total + gained token event < 2 ^ 64
  pub referrer : account.referrer + referred event < 2 ^ 64

-- what a market can be asked to pay out is there: an account's free funds and referrer part, and the fees
pub record CanPayOut (m : Market) : Type 0 where
  pub coin : (owner : Address) (account : Account) → trader_at owner m.traders ≡ Some (Open account) → account.coin.free ≤ m.coin_vault
  pub pc : (owner : Address) (account : Account) → trader_at owner m.traders ≡ Some (Open account) → account.pc.free + account.referrer ≤ m.pc_vault
  pub referrer : (owner : Address) (account : Account) → trader_at owner m.traders ≡ Some (Open account) → account.referrer ≤ m.referrer_rebates
  pub fees : m.pc_fees + m.referrer_rebates ≤ m.pc_vault
