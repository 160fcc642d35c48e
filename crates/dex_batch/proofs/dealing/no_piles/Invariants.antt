use Rattle.std.proofs.Common.{◌≡◌, [], length, All}
use Rattle.dex_batch.proofs.dealing.no_piles.Given as goal

abbrev pub invariant-loop : goal.invariant-loop
invariant-loop g l = record {
  long : length l.piles.items ≡ l.counter;
  none : All (λ pile. pile ≡ []) l.piles.items;
}
