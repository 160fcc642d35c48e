use Rattle.std.proofs.Common.{refl}
use Rattle.dex_types.specs.declared.terms.Side.TheVariants.{Bid, Ask}
use Rattle.dex_types.specs.Accounts.{PlainMarketAccounts}
use Rattle.dex_lent.specs.Lent.{lent_of}
use Rattle.dex_step.proofs.OrderRowLaws.{ordered-by-side}
use Rattle.dex_step.proofs.acting_orders.order_by_side.Goals as goal

pub returns-in-Bid-clause-does : goal.returns-in-Bid-clause-does
returns-in-Bid-clause-does g c =
    let held = g.O.OrdersAccounts.held in
    let old : PlainMarketAccounts = lent_of held c.args.accounts.now in
    let did = c.order in
    let new : PlainMarketAccounts = record old {
      market = did.new.market;
      requests = did.new.requests;
      events = did.new.events;
      bids = did.new.own;
      asks = did.new.opposite;
      pc_vault = c.bring.new.vault;
      orders = held did.new.self;
    } in
    ordered-by-side c.args.taker did.result Bid old new _ _ c.in-Bid.is refl refl did.ensures.does

pub returns-in-Ask-clause-does : goal.returns-in-Ask-clause-does
returns-in-Ask-clause-does g c =
    let held = g.O.OrdersAccounts.held in
    let old : PlainMarketAccounts = lent_of held c.args.accounts.now in
    let did = c.order-in-Ask in
    let new : PlainMarketAccounts = record old {
      market = did.new.market;
      requests = did.new.requests;
      events = did.new.events;
      asks = did.new.own;
      bids = did.new.opposite;
      coin_vault = c.bring-in-Ask.new.vault;
      orders = held did.new.self;
    } in
    ordered-by-side c.args.taker did.result Ask old new _ _ c.in-Ask.is refl refl did.ensures.does
