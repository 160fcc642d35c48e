use Rattle.std.proofs.Common.{◌≡◌, map, All}
use Rattle.dex_bank.specs.Cells.{AreCells}
use Rattle.dex_batch.specs.Shares.{ShareState}
use Rattle.dex_batch.proofs.shares.piles.Given as goal

abbrev pub invariant-loop-share : goal.invariant-loop-share
invariant-loop-share g l = record {
  markets : l.markets.items ≡ map (λ (share : ShareState). share.cells.markets) l.yielded;
  wallets : l.wallets.items ≡ map (λ (share : ShareState). share.cells.wallets) l.yielded;
  cells : All (λ (share : ShareState). AreCells share.cells) l.yielded;
}
