use Rattle.std.proofs.Common.{take}
use Rattle.std.specs.List.{AllZip}
use Rattle.dex_batch.specs.Groups.{IsOfGroup}
use Rattle.dex_batch.proofs.groups.Groups.of_rows.Given as goal

abbrev pub invariant-loop-place : goal.invariant-loop-place
invariant-loop-place l = AllZip (IsOfGroup l.self.markets.items l.self.wallets.items) (take l.place l.places) l.numbers.items
