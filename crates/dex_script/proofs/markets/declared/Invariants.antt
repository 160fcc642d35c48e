use Rattle.std.proofs.Common.{◌≡◌, map}
use Rattle.dex_types.specs.Accounts.{market_accounts_of}
use Rattle.dex_script.proofs.markets.declared.Given as goal

abbrev pub invariant-loop-accounts : goal.invariant-loop-accounts
invariant-loop-accounts l = l.declared.items ≡ map market_accounts_of l.yielded
