use Rattle.std.proofs.Common.{◌≡◌, true, drop}
use Rattle.dex_act.specs.Wallets.{is_among}
use Rattle.dex_bank.proofs.standing.wallet_cell_place.Given as goal

abbrev pub invariant-loop-place : goal.invariant-loop-place
invariant-loop-place l = is_among l.address (drop l.place l.cells) ≡ true
