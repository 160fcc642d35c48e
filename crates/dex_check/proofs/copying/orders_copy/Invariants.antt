use Rattle.std.proofs.Common.{◌≡◌, map, take}
use Rattle.dex_types.specs.Accounts.{orders_account_of}
use Rattle.dex_lent.specs.Flat.{accounts_in}
use Rattle.dex_check.proofs.copying.orders_copy.Given as goal

abbrev pub invariant-loop-place : goal.invariant-loop-place
invariant-loop-place l = map orders_account_of l.copies.items ≡ take l.place (accounts_in l.bytes)
