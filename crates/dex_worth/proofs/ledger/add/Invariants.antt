use Rattle.std.proofs.Common.{◌≡◌, ◌++◌, drop, map, take}
use Rattle.dex_worth.specs.Entries.{with_moved}
use Rattle.dex_worth.proofs.ledger.add.Given as goal

abbrev pub invariant-loop-place : goal.invariant-loop-place
invariant-loop-place l =
    l.accounts ≡ map (with_moved l.more) (take l.place l.initial.accounts) ++ drop l.place l.initial.accounts
