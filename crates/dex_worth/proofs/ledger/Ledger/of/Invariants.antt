use Rattle.std.proofs.Common.{◌≡◌, [], map, take}
use Rattle.dex_types.specs.declared.account_bytes.OrdersAccount.{OrdersAccount}
use Rattle.dex_worth.specs.Entries.{moved_told}
use Rattle.dex_worth.proofs.ledger.Ledger.of.Given as goal

abbrev pub invariant-loop-place : goal.invariant-loop-place
invariant-loop-place l = l.accounts.items ≡ map (λ (account : OrdersAccount). moved_told [] account.address) (take l.place l.market.orders.items)
