use Rattle.std.proofs.Common.{◌≡◌, map, take}
use Rattle.dex_types.specs.Accounts.{named_of}
use Rattle.dex_totals.specs.Sums.{capped}
use Rattle.dex_state.specs.Conserved.{in_wallets}
use Rattle.dex_audit.proofs.supplies.in_wallets.Given as goal

abbrev pub invariant-loop-place : goal.invariant-loop-place
invariant-loop-place l = l.sum ≡ capped (in_wallets l.mint (take l.place (map named_of l.wallets)))
