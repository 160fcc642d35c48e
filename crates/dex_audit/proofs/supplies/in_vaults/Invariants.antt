use Rattle.std.proofs.Common.{◌≡◌, map, take}
use Rattle.dex_types.specs.Accounts.{market_accounts_of}
use Rattle.dex_totals.specs.Sums.{capped}
use Rattle.dex_state.specs.Conserved.{in_vaults}
use Rattle.dex_audit.proofs.supplies.in_vaults.Given as goal

abbrev pub invariant-loop-place : goal.invariant-loop-place
invariant-loop-place l = l.sum ≡ capped (in_vaults l.mint (take l.place (map market_accounts_of l.markets)))
