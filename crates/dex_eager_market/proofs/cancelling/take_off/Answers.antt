use Rattle.std.proofs.Common.{List, refl, ap}
use Rattle.dex_types.specs.declared.orders.Order.{Order}
use Rattle.dex_types.specs.declared.terms.Side.TheVariants.{Bid, Ask}
use Rattle.dex_eager.specs.Eager.{Eager}
use Rattle.dex_eager_market.specs.States.{eager_of}
use Rattle.dex_eager_market.proofs.Trades.{book-without}
use Rattle.dex_eager_market.proofs.cancelling.take_off.Goals as goal

pub returns-in-Bid-clause-off : goal.returns-in-Bid-clause-off
returns-in-Bid-clause-off c =
    let e : Eager = eager_of c.args.state.now in
    rw c.in-Bid.is (ap (λ (orders : List Order). let m : Eager = record e { bids = orders } in m) c.remove_order.ensures.orders)

pub returns-in-Ask-clause-off : goal.returns-in-Ask-clause-off
returns-in-Ask-clause-off c =
    let e : Eager = eager_of c.args.state.now in
    rw c.in-Ask.is (ap (λ (orders : List Order). let m : Eager = record e { asks = orders } in m) c.remove_order-in-Ask.ensures.orders)

pub returns-in-Bid-clause-kept : goal.returns-in-Bid-clause-kept
returns-in-Bid-clause-kept c = λ bound kept. record {
  bids = book-without Bid c.args.state.now.sizes c.args.state.now.bids (record c.args.state.now.bids { orders = c.remove_order.new.orders }) c.args.gone.order.id kept.bids refl
      c.remove_order.ensures.capacity c.remove_order.ensures.orders;
  asks = kept.asks;
  till = kept.till;
  listed = kept.listed;
}

pub returns-in-Ask-clause-kept : goal.returns-in-Ask-clause-kept
returns-in-Ask-clause-kept c = λ bound kept. record {
  bids = kept.bids;
  asks = book-without Ask c.args.state.now.sizes c.args.state.now.asks (record c.args.state.now.asks { orders = c.remove_order-in-Ask.new.orders }) c.args.gone.order.id kept.asks refl
      c.remove_order-in-Ask.ensures.capacity c.remove_order-in-Ask.ensures.orders;
  till = kept.till;
  listed = kept.listed;
}
