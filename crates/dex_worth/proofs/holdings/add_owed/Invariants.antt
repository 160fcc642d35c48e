use Rattle.std.proofs.Common.{map, take}
use Rattle.dex_types.specs.declared.addresses.Address.{Address}
use Rattle.dex_types.specs.QueuedEvent.{decoded_event}
use Rattle.dex_worth.specs.declared.amounts.TokenAmounts.{TokenAmounts}
use Rattle.dex_worth.specs.Amounts.{AreSums, both}
use Rattle.dex_worth.specs.Holdings.{owed_of}
use Rattle.dex_worth.proofs.holdings.add_owed.Given as goal

abbrev pub invariant-loop-place : goal.invariant-loop-place
invariant-loop-place l = (before : Address → TokenAmounts) → AreSums before l.owners l.initial.held
    → AreSums (λ of. both (before of) (owed_of (take l.place (map decoded_event l.events)) of)) l.owners l.held
