use Rattle.dex_orders.proofs.FundsLaw.{IsOpened-flagged, account_of-flagged, market_of-flagged}
use Rattle.dex_orders.proofs.lifecycle.close.Goals as goal

pub returns-clause-market : goal.returns-clause-market
returns-clause-market c = market_of-flagged c.args.bytes.now c.put_u64.new.bytes 256 c.put_u64.ensures.bytes

pub returns-clause-words : goal.returns-clause-words
returns-clause-words c = account_of-flagged c.args.bytes.now c.put_u64.new.bytes 256 c.put_u64.ensures.bytes

pub returns-clause-accepted : goal.returns-clause-accepted
returns-clause-accepted c = record {
  opened = IsOpened-flagged c.args.bytes.now c.put_u64.new.bytes 256 c.put_u64.ensures.bytes c.requires.accepted.opened;
  flags = c.put_u64.ensures.given;
}
