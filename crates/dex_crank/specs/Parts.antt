-- The market whose queue and accounts some bytes are, and what a crank leaves of a market's parts.
use Rattle.std.specs.Prelude.{◌≡◌, map}
use Rattle.std.specs.List.{All}
use Rattle.dex_accounts.specs.Owners.{named_in}
use Rattle.dex_accounts.specs.Parts.{AreSoundParts, MarketParts}
use Rattle.dex_crank.specs.PaidBytes.{CrankBytes}
use Rattle.dex_orders.specs.OrdersAccount.{IsOrders}
use Rattle.dex_orders.specs.StandsFor.{traders_of}
use Rattle.dex_ring.specs.Ring.{IsEventQueue, events_of, ring_of}
use Rattle.dex_types.specs.Accounts.{PlainAccount}
use Rattle.dex_types.specs.Market.{Market}
use Rattle.dex_types.specs.Soundness.{IsSound}

-- what a crank is handed of a market's parts: the event queue, and the accounts
abbrev pub crank_given : MarketParts → CrankBytes
crank_given parts = record { queue = parts.events; accounts = parts.accounts }

-- the parts with what a crank leaves of these
abbrev pub with_cranked : CrankBytes → MarketParts → MarketParts
with_cranked bytes parts = record parts { events = bytes.queue; accounts = bytes.accounts }

-- the queue and the accounts are those of one sound market
pub record AreOfSoundMarket (bytes : CrankBytes) : Type 0 where
  pub whole : MarketParts
  pub sound : AreSoundParts whole
  pub given : crank_given whole ≡ bytes

-- what of that a crank goes by: the pending events are those of a sound market, and its traders are those of the
-- accounts
pub record AreCrankedIn (m : Market) (bytes : CrankBytes) : Type 0 where
  pub sound : IsSound m
  pub queue : IsEventQueue bytes.queue
  pub events : events_of bytes.queue ≡ m.events
  pub accounts : All (λ (account : PlainAccount). IsOrders account.bytes) bytes.accounts
  pub traders : traders_of bytes.accounts ≡ m.traders

-- what stays beside events and funds: how many events fit the queue, how many were ever appended, each account's
-- address and market, and that each is accepted
pub record Keeps (before after : CrankBytes) : Type 0 where
  pub capacity : (ring_of after.queue).capacity ≡ (ring_of before.queue).capacity
  pub appended : (ring_of after.queue).seq_num ≡ (ring_of before.queue).seq_num
  pub names : map named_in after.accounts ≡ map named_in before.accounts
  pub accepted : All (λ (account : PlainAccount). IsOrders account.bytes) after.accounts
