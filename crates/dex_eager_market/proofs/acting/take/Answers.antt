use Rattle.std.proofs.Common.{arith}
use Rattle.dex_eager_market.proofs.acting.take.Goals as goal

pub take_in-requires-clause-opposing : goal.take_in-requires-clause-opposing
take_in-requires-clause-opposing c = rw c.in-Bid.is c.requires.asks

pub returns-in-Bid-clause-does : goal.returns-in-Bid-clause-does
returns-in-Bid-clause-does c = λ min_lots min_pc.
    rw c.in-Bid.is (rw c.in-Bid.is at c.take_in.ensures.market c.args.state.now.bids min_lots min_pc)

pub returns-in-Bid-clause-kept : goal.returns-in-Bid-clause-kept
returns-in-Bid-clause-kept c = λ bound kept. record {
  bids = kept.bids;
  asks = (rw c.in-Bid.is at c.take_in.ensures.opposing).0;
  till = c.take_in.ensures.till bound kept.till;
  listed = omega (arith, kept.listed, c.take_in.ensures.opposing.1);
}

pub take_in-requires-in-Ask-clause-opposing : goal.take_in-requires-in-Ask-clause-opposing
take_in-requires-in-Ask-clause-opposing c = rw c.in-Ask.is c.requires.bids

pub returns-in-Ask-clause-does : goal.returns-in-Ask-clause-does
returns-in-Ask-clause-does c = λ min_lots min_pc.
    rw c.in-Ask.is (rw c.in-Ask.is at c.take_in-in-Ask.ensures.market c.args.state.now.asks min_lots min_pc)

pub returns-in-Ask-clause-kept : goal.returns-in-Ask-clause-kept
returns-in-Ask-clause-kept c = λ bound kept. record {
  bids = (rw c.in-Ask.is at c.take_in-in-Ask.ensures.opposing).0;
  asks = kept.asks;
  till = c.take_in-in-Ask.ensures.till bound kept.till;
  listed = omega (arith, kept.listed, c.take_in-in-Ask.ensures.opposing.1);
}
