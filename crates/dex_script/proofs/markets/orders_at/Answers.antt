use Rattle.std.proofs.Common.{◌∙◌, ap, length, Some, sym, ℕ}
use Rattle.dex_types.specs.Accounts.{PlainMarketAccounts}
use Rattle.dex_script.proofs.MarketLaws.{no-orders, orders-found}
use Rattle.dex_script.proofs.markets.orders_at.Goals as goal

pub returns-in-Some : goal.returns-in-Some
returns-in-Some c =
    let market = c.index-markets-place.result in
    ap (λ (n : ℕ). Some n) (c.count_orders.ensures ∙ ap (λ (m : PlainMarketAccounts). length m.orders) c.index-markets-place.is)
    ∙ sym (orders-found c.args.address c.args.markets.now c.in-Some.place market (sym c.place_of_declared.ensures.place ∙ c.in-Some.is))

pub returns-in-None : goal.returns-in-None
returns-in-None c = sym (no-orders c.args.address c.args.markets.now (sym c.place_of_declared.ensures.place ∙ c.in-None.is))
