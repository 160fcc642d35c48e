use Rattle.std.proofs.Common.{List, [], map, sym, ap, ◌∙◌, arith}
use Rattle.std.proofs.lemmas.List.{take_all}
use Rattle.std.proofs.lemmas.Simd.{map-map}
use Rattle.dex_types.specs.declared.account_bytes.OrdersAccount.{OrdersAccount}
use Rattle.dex_types.specs.Accounts.{PlainAccount, orders_account_of}
use Rattle.dex_state.specs.Addresses.{address_of}
use Rattle.dex_worth.specs.Entries.{moved_told}
use Rattle.dex_worth.proofs.ledger.Ledger.of.Goals as goal

pub returns : goal.returns
returns c =
    let orders : List OrdersAccount = c.args.market.now.orders.items in
    c.loop-place.invariant
    ∙ ap (map (λ (account : OrdersAccount). moved_told [] account.address)) (take_all c.loop-place.place orders (omega (arith, c.loop-place-test.false, c.len-place-end.ensures)))
    ∙ sym (map-map (moved_told []) address_of (map orders_account_of orders) ∙ map-map (λ (account : PlainAccount). moved_told [] account.address) orders_account_of orders)
