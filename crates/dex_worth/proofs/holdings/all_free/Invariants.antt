use Rattle.std.proofs.Common.{take}
use Rattle.dex_totals.specs.Reading.{traders}
use Rattle.dex_worth.specs.Amounts.{AreSums}
use Rattle.dex_worth.specs.Holdings.{free_at}
use Rattle.dex_worth.proofs.holdings.all_free.Given as goal

abbrev pub invariant-loop-place : goal.invariant-loop-place
invariant-loop-place l = AreSums (free_at (traders l.accounts)) (take l.place l.owners) l.all.items
