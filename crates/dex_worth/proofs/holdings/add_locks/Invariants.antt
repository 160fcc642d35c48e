use Rattle.std.proofs.Common.{take}
use Rattle.dex_types.specs.declared.addresses.Address.{Address}
use Rattle.dex_worth.specs.declared.amounts.TokenAmounts.{TokenAmounts}
use Rattle.dex_worth.specs.Amounts.{AreSums, both}
use Rattle.dex_worth.specs.Holdings.{locks_of}
use Rattle.dex_worth.proofs.holdings.add_locks.Given as goal

abbrev pub invariant-loop-place : goal.invariant-loop-place
invariant-loop-place l = (before : Address → TokenAmounts) → AreSums before l.owners l.initial.held
    → AreSums (λ of. both (before of) (locks_of l.side l.sizes (take l.place l.orders) of)) l.owners l.held
