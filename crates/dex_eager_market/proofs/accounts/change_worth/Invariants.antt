use Rattle.std.proofs.Common.{◌≡◌, ◌++◌, map, take, drop}
use Rattle.dex_eager_market.specs.Accounts.{changed}
use Rattle.dex_eager_market.proofs.accounts.change_worth.Given as goal

abbrev pub invariant-loop-place : goal.invariant-loop-place
invariant-loop-place l = l.accounts ≡ map (changed l.owner l.change) (take l.place l.initial.accounts) ++ drop l.place l.initial.accounts
