use Rattle.std.proofs.Common.{◌≡◌, drop}
use Rattle.dex_types.specs.Payment.{is_named}
use Rattle.dex_crank.proofs.addresses.is_named.Given as goal

abbrev pub invariant-loop-place : goal.invariant-loop-place
invariant-loop-place l = is_named l.address (drop l.place l.named) ≡ is_named l.address l.named
