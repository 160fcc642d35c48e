use Rattle.std.proofs.Common.{◌≡◌, ◌++◌, map, take}
use Rattle.dex_types.specs.Accounts.{orders_account_of}
use Rattle.dex_state.specs.Addresses.{address_of}
use Rattle.dex_script.proofs.taken.take_orders.Given as goal

abbrev pub invariant-loop-account : goal.invariant-loop-account
invariant-loop-account l = l.taken ≡ l.initial.taken ++ map address_of (map orders_account_of (take l.account-index l.orders))
