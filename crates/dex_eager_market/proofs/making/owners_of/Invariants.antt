use Rattle.std.proofs.Common.{◌≡◌, map, take}
use Rattle.dex_types.specs.declared.account_bytes.OrdersAccount.{OrdersAccount}
use Rattle.dex_eager_market.proofs.making.owners_of.Given as goal

abbrev pub invariant-loop-place : goal.invariant-loop-place
invariant-loop-place l = l.owners.items ≡ map (λ (account : OrdersAccount). account.address) (take l.place l.accounts)
