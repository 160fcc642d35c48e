use Rattle.std.proofs.Common.{arith}
use Rattle.dex_eager_market.proofs.acting.order.Goals as goal

pub order_in-requires : goal.order_in-requires
order_in-requires c = record { own = rw c.in-Bid.is c.requires.bids; opposing = rw c.in-Bid.is c.requires.asks; till = c.requires.till }

pub returns-in-Bid-clause-does : goal.returns-in-Bid-clause-does
returns-in-Bid-clause-does c = rw c.in-Bid.is (rw c.in-Bid.is at c.order_in.ensures.market)

pub returns-in-Bid-clause-kept : goal.returns-in-Bid-clause-kept
returns-in-Bid-clause-kept c = λ bound kept. record {
  bids = (rw c.in-Bid.is at c.order_in.ensures.own).0;
  asks = (rw c.in-Bid.is at c.order_in.ensures.opposing).0;
  till = c.order_in.ensures.till bound kept.till;
  listed = omega (arith, kept.listed, c.order_in.ensures.own.1, c.order_in.ensures.opposing.1);
}

pub order_in-requires-in-Ask : goal.order_in-requires-in-Ask
order_in-requires-in-Ask c = record { own = rw c.in-Ask.is c.requires.asks; opposing = rw c.in-Ask.is c.requires.bids; till = c.requires.till }

pub returns-in-Ask-clause-does : goal.returns-in-Ask-clause-does
returns-in-Ask-clause-does c = rw c.in-Ask.is (rw c.in-Ask.is at c.order_in-in-Ask.ensures.market)

pub returns-in-Ask-clause-kept : goal.returns-in-Ask-clause-kept
returns-in-Ask-clause-kept c = λ bound kept. record {
  bids = (rw c.in-Ask.is at c.order_in-in-Ask.ensures.opposing).0;
  asks = (rw c.in-Ask.is at c.order_in-in-Ask.ensures.own).0;
  till = c.order_in-in-Ask.ensures.till bound kept.till;
  listed = omega (arith, kept.listed, c.order_in-in-Ask.ensures.own.1, c.order_in-in-Ask.ensures.opposing.1);
}
