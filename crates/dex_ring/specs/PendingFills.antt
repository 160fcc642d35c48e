-- What makers' fills that are pending are still to take off their owners' totals.
use Rattle.std.specs.Prelude.{List}
use Rattle.dex_ring.specs.declared.pending_fills.PendingFills.{PendingFills}
use Rattle.dex_types.specs.QueuedEvent.{QueuedEvent}
use Rattle.dex_types.specs.Side.{Coin, Pc}
use Rattle.dex_types.specs.Solvency.{all_leaving}

-- of each token, the sum over the events
abbrev pub pending_fills_of : List QueuedEvent → PendingFills
pending_fills_of events = record { coin = all_leaving Coin events; pc = all_leaving Pc events }
