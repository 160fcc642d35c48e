use Rattle.dex_check.proofs.CopyLaws.{all-held}
use Rattle.dex_check.proofs.copying.market_copy.Goals as goal

pub returns-clause-held : goal.returns-clause-held
returns-clause-held c = record {
  address = c.same_address.ensures.held;
  authority = c.same_address-2.ensures.held;
  market = c.in_ok-bytes_copy.ensures.held;
  coin_vault = c.in_ok-bytes_copy-2.ensures.held;
  pc_vault = c.in_ok-bytes_copy-3.ensures.held;
  requests = c.in_ok-bytes_copy-4.ensures.held;
  events = c.in_ok-bytes_copy-5.ensures.held;
  bids = c.in_ok-bytes_copy-6.ensures.held;
  asks = c.in_ok-bytes_copy-7.ensures.held;
  orders = all-held c.args.market.now.orders.now c.in_ok-orders_copy.ensures.held;
}
