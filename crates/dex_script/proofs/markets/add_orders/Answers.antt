use Rattle.std.proofs.Common.{◌∙◌, sym}
use Rattle.std.proofs.lemmas.Result.{on_ok_weaker}
use Rattle.dex_types.specs.Accounts.{orders_account_of}
use Rattle.dex_script.proofs.MarketLaws.{no-orders-added, orders-added}
use Rattle.dex_script.proofs.markets.add_orders.Goals as goal

pub returns-in-Some : goal.returns-in-Some
returns-in-Some c =
    on_ok_weaker c.add_orders.result
    (λ grown. orders-added c.args.address (orders_account_of c.args.account) c.args.markets.now c.in-Some.place c.index-markets-place.result
    c.add_orders.new.self (sym c.place_of_declared.ensures.place ∙ c.in-Some.is) grown)
    c.add_orders.ensures

pub returns : goal.returns
returns c =
    no-orders-added c.args.address (orders_account_of c.args.account) c.args.markets.now (sym c.place_of_declared.ensures.place ∙ c.in_default.is)
