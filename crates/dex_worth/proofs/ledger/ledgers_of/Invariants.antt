use Rattle.std.proofs.Common.{ℕ, ◌≡◌, ◌<◌, [], get_or, length, map}
use Rattle.dex_types.specs.Accounts.{PlainMarketAccounts, market_accounts_of}
use Rattle.dex_worth.specs.declared.ledger.Ledger.{Ledger}
use Rattle.dex_worth.specs.Ledgers.{Tells, owners_in}
use Rattle.dex_worth.proofs.ledger.ledgers_of.Given as goal

abbrev pub invariant-loop-place : goal.invariant-loop-place
invariant-loop-place l = record {
  long : length l.ledgers.items ≡ l.place;
  blank : (k : ℕ) (ledger : Ledger) (market : PlainMarketAccounts) → k < l.place
      → Tells (get_or l.ledgers.items k ledger) (owners_in (get_or (map market_accounts_of l.markets) k market)) [];
}
