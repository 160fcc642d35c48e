use Rattle.std.proofs.Common.{◌≡◌, map, take}
use Rattle.dex_types.specs.Accounts.{PlainMarketAccounts, market_accounts_of}
use Rattle.dex_script_types.proofs.addresses.addresses_of_markets.Given as goal

abbrev pub invariant-loop-accounts : goal.invariant-loop-accounts
invariant-loop-accounts l =
    l.addresses.items ≡ map (λ (accounts : PlainMarketAccounts). accounts.address) (map market_accounts_of (take l.accounts-index l.markets))
