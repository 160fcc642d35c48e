use Rattle.std.proofs.Common.{◌≡◌, map}
use Rattle.dex_types.specs.Accounts.{market_accounts_of}
use Rattle.dex_script.proofs.markets.all_accounts.Given as goal

abbrev pub invariant-loop-market : goal.invariant-loop-market
invariant-loop-market l = map market_accounts_of l.accounts.items ≡ l.yielded
