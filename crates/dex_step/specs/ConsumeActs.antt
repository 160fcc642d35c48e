-- What consuming events leaves of the bytes of a market's accounts, and its step.
use Rattle.std.specs.Prelude.{◌≡◌, ℕ, ◌+◌, List}
use Rattle.dex_types.specs.declared.addresses.Address.{Address}
use Rattle.dex_types.specs.Market.{Market}
use Rattle.dex_types.specs.Payment.{consumable}
use Rattle.dex_types.specs.Side.{Coin, Pc}
use Rattle.dex_types.specs.Solvency.{all_leaving}
use Rattle.dex_types.specs.Steps.{Step, act_consume}
use Rattle.dex_crank.specs.declared.crank.Consumed.{Consumed}
use Rattle.dex_crank.specs.PaidBytes.{CrankBytes, paid_bytes}
use Rattle.dex_crank.specs.Parts.{Keeps}
use Rattle.dex_ring.specs.Ring.{IsEventQueue, events_of}

-- events were consumed: so many, each paid, and what they were to take off totals is what the sums over pending events
-- lost; the queue is accepted, and all else stays
pub record HasConsumed (limit : ℕ) (named : List Address) (consumed : Consumed) (before after : CrankBytes) : Type 0 where
  pub count : consumed.count ≡ consumable limit named (events_of before.queue)
  pub coin : all_leaving Coin (events_of before.queue) ≡ consumed.fills.coin + all_leaving Coin (events_of after.queue)
  pub pc : all_leaving Pc (events_of before.queue) ≡ consumed.fills.pc + all_leaving Pc (events_of after.queue)
  pub does : after ≡ paid_bytes consumed.count before
  pub queue : IsEventQueue after.queue
  pub kept : Keeps before after

-- the step of consuming at most this many events, of the accounts that are named
abbrev pub consume_step : ℕ → List Address → Market → Step
consume_step limit named m = act_consume limit named m
