use Rattle.std.proofs.Common.{◌≡◌, map, take}
use Rattle.dex_worth.specs.declared.entries.Moved.{Moved}
use Rattle.dex_worth.proofs.table.owners_of.Given as goal

abbrev pub invariant-loop-place : goal.invariant-loop-place
invariant-loop-place l = l.owners.items ≡ map (λ (account : Moved). account.owner) (take l.place l.accounts)
