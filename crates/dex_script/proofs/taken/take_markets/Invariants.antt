use Rattle.std.proofs.Common.{◌≡◌, ◌++◌, map, take}
use Rattle.std.specs.List.{flat_map}
use Rattle.dex_types.specs.Accounts.{market_accounts_of}
use Rattle.dex_state.specs.Addresses.{all_of_market}
use Rattle.dex_script.proofs.taken.take_markets.Given as goal

abbrev pub invariant-loop-place : goal.invariant-loop-place
invariant-loop-place l = l.taken ≡ l.initial.taken ++ flat_map all_of_market (map market_accounts_of (take l.place l.markets))
