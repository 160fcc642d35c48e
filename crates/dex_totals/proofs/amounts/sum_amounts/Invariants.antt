use Rattle.std.proofs.Common.{◌≡◌, take}
use Rattle.dex_types.specs.declared.account_bytes.OrdersAccount.{OrdersAccount}
use Rattle.dex_types.specs.Totals.{total}
use Rattle.dex_orders.specs.StandsFor.{trader_of}
use Rattle.dex_totals.specs.Sums.{amount_of, capped}
use Rattle.dex_totals.proofs.amounts.sum_amounts.Given as goal

abbrev pub invariant-loop-account : goal.invariant-loop-account
invariant-loop-account l = l.sum ≡ capped (total (λ (account : OrdersAccount). amount_of l.amount (trader_of account.bytes.items)) (take l.account-index l.accounts))
