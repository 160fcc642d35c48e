use Rattle.std.proofs.Common.{◌≡◌, ◌<◌, ℕ, length, All}
use Rattle.dex_batch.proofs.groups.groups_of_markets.Given as goal

abbrev pub invariant-loop-market : goal.invariant-loop-market
invariant-loop-market l = record {
  long : length l.numbers.items ≡ l.market;
  within : All (λ (number : ℕ). number < l.count) l.numbers.items;
}
