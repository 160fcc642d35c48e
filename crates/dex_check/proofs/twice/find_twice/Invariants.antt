use Rattle.std.proofs.Common.{◌≡◌, ◌≤◌, map, take}
use Rattle.dex_types.specs.declared.addresses.Address.{Address}
use Rattle.dex_types.specs.Accounts.{orders_account_of}
use Rattle.dex_state.specs.Addresses.{address_of, times}
use Rattle.dex_check.proofs.twice.find_twice.Given as goal

abbrev pub invariant-loop-place : goal.invariant-loop-place
invariant-loop-place l = record {
  taken : l.taken ≡ take l.place (map address_of (map orders_account_of l.accounts));
  once : (address : Address) → times address l.taken ≤ 1;
}
