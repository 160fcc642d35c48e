use Rattle.std.proofs.Common.{◌≡◌, get_or, take, sym, ap, ◌∙◌, arith, map}
use Rattle.std.proofs.lemmas.List.{take_all}
use Rattle.dex_types.specs.declared.account_bytes.OrdersAccount.{OrdersAccount}
use Rattle.dex_types.specs.declared.addresses.Address.{Address}
use Rattle.dex_types.specs.Accounts.{orders_account_of, PlainAccount}
use Rattle.dex_types.specs.Totals.{total}
use Rattle.dex_types.specs.Trader.{Trader}
use Rattle.dex_laws.proofs.TotalLaws.{total-map}
use Rattle.dex_orders.specs.StandsFor.{entry_of, trader_of}
use Rattle.dex_totals.specs.Sums.{amount_of, capped}
use Rattle.dex_totals.proofs.SumLaws.{capped-exact, capped-total}
use Rattle.dex_totals.proofs.amounts.sum_amounts.Goals as goal

pub loop-account-preserved : goal.loop-account-preserved
loop-account-preserved c =
    let accounts = c.args.accounts.now in
    let at = c.loop-account.account-index in
    let d : OrdersAccount = c.account-item.result in
    let weight = λ (account : OrdersAccount). amount_of c.args.amount (trader_of account.bytes.items) in
    let here : c.amount_in-more.result ≡ weight (get_or accounts at d) =
    c.amount_in-more.ensures.value ∙ ap (λ l. amount_of c.args.amount (trader_of l)) c.deref.ensures.value ∙ ap weight c.account-item.is in
    capped-total weight accounts at d c.loop-account.sum c.saturating_add-sum.result c.from.result (omega arith) c.loop-account.invariant
    (capped-exact c.from.result (weight (get_or accounts at d)) (c.from.ensures ∙ here) (omega (arith, c.from.ensures, c.amount_in-more.ensures.small)))
    c.saturating_add-sum.ensures

pub returns : goal.returns
returns c =
    let accounts = c.args.accounts.now in
    let weight = λ (account : OrdersAccount). amount_of c.args.amount (trader_of account.bytes.items) in
    let each = λ (entry : Address × Trader). amount_of c.args.amount entry.1 in
    let all : take c.loop-account.account-index accounts ≡ accounts = take_all c.loop-account.account-index accounts (omega arith) in
    c.loop-account.invariant ∙ ap (λ l. capped (total weight l)) all
    ∙ ap capped (sym (total-map each entry_of (map orders_account_of accounts) ∙ total-map (λ (p : PlainAccount). each (entry_of p)) orders_account_of accounts))
