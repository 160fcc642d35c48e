use Rattle.std.proofs.Common.{◌≡◌}
use Rattle.dex_types.specs.Accounts.{orders_account_of}
use Rattle.dex_dump.proofs.ReadingLaws.{NoneBefore}
use Rattle.dex_dump.proofs.reading.add_orders.Given as goal

abbrev pub invariant-loop-place : goal.invariant-loop-place
invariant-loop-place l = record {
  same : l.markets ≡ l.fn.markets;
  none : NoneBefore l.address (orders_account_of l.account) l.fn.markets l.place;
}
