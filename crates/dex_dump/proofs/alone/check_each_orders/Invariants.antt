use Rattle.std.proofs.Common.{drop, map}
use Rattle.dex_types.specs.Accounts.{orders_account_of}
use Rattle.dex_dump.specs.Checks.{orders_check}
use Rattle.dex_dump.proofs.AloneLaws.{IsLeft}
use Rattle.dex_dump.proofs.alone.check_each_orders.Given as goal

abbrev pub invariant-loop-place : goal.invariant-loop-place
invariant-loop-place l =
    IsLeft (map (orders_check l.market) (drop l.place (map orders_account_of l.accounts))) (map (orders_check l.market) (map orders_account_of l.accounts))
