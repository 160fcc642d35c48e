use Rattle.std.proofs.Common.{◌≡◌, ◌++◌, take, List}
use Rattle.std.specs.List.{flat_map}
use Rattle.dex_types.specs.declared.orders.Order.{Order}
use Rattle.dex_types.specs.QueuedEvent.{QueuedEvent}
use Rattle.dex_audit_rules.specs.Slots.{unpaired}
use Rattle.dex_totals.specs.Tallies.{AreFinals, AreResting}
use Rattle.dex_audit_rules.proofs.slots.tell_unpaired.Given as goal

abbrev pub invariant-loop-place : goal.invariant-loop-place
invariant-loop-place l =
    (bids asks : List Order) (events : List QueuedEvent) → AreResting l.resting bids asks → AreFinals l.finals events
    → l.found.items ≡ l.initial.found.items ++ flat_map (unpaired bids asks events) (take l.place l.taken)
