use Rattle.std.proofs.Common.{List, ◌≡◌, ◌∙◌, length, map, ap, sym}
use Rattle.std.proofs.lemmas.List.{length-map}
use Rattle.std.proofs.lemmas.Result.{IfOk-weaker}
use Rattle.std.proofs.lemmas.Simd.{map-map}
use Rattle.dex_types.specs.declared.account_bytes.OrdersAccount.{OrdersAccount}
use Rattle.dex_types.specs.declared.addresses.Address.{Address}
use Rattle.dex_types.specs.Accounts.{market_accounts_of}
use Rattle.dex_types.specs.Trader.{Trader}
use Rattle.dex_accounts.specs.Decoded.{market_in}
use Rattle.dex_worth.specs.declared.amounts.TokenAmounts.{TokenAmounts}
use Rattle.dex_worth.specs.Amounts.{AreSums, capped_amounts}
use Rattle.dex_worth.specs.Holdings.{held_amounts}
use Rattle.dex_worth.proofs.Markets.{owners-are}
use Rattle.dex_eager_market.specs.Making.{account_of}
use Rattle.dex_eager_market.proofs.making.held_accounts.Goals as goal

pub accounts_of-requires : goal.accounts_of-requires
accounts_of-requires c =
    let m = market_in (market_accounts_of c.args.market.now) in
    ap length (c.deref-4.ensures.value ∙ c.in_ok-held.ensures)
    ∙ length-map c.deref-2.result.now (λ (owner : Address). capped_amounts (held_amounts m owner))
    ∙ ap length (c.deref-2.ensures.value ∙ sym c.deref-3.ensures.value)

pub returns : goal.returns
unfolding market_in
returns c =
    let m = market_in (market_accounts_of c.args.market.now) in
    let owners : List Address = c.deref-3.result.now in
    let held : List TokenAmounts = c.deref-4.result.now in
    let named : owners ≡ map (λ (entry : Address × Trader). entry.0) m.traders =
    c.deref-3.ensures.value ∙ c.in_ok-owners.ensures ∙ ap (map (λ (account : OrdersAccount). account.address)) c.deref.ensures.value
    ∙ owners-are c.args.market.now.orders.items in
    let same : c.deref-2.result.now ≡ owners = c.deref-2.ensures.value ∙ sym c.deref-3.ensures.value in
    let are : AreSums (held_amounts m) owners held =
    c.deref-4.ensures.value ∙ c.in_ok-held.ensures ∙ ap (map (λ (owner : Address). capped_amounts (held_amounts m owner))) same in
    IfOk-weaker c.accounts_of.result _ _
    (λ accounts is. is (held_amounts m) are ∙ ap (map (account_of (held_amounts m))) named ∙ map-map (account_of (held_amounts m)) (λ (entry : Address × Trader). entry.0) m.traders)
    c.accounts_of.ensures
