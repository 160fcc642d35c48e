use Rattle.std.proofs.Common.{◌≡◌, ◌<◌, ℕ, length, All}
use Rattle.dex_batch.proofs.groups.groups_of_wallets.Given as goal

abbrev pub invariant-loop-wallet : goal.invariant-loop-wallet
invariant-loop-wallet l = record {
  long : length l.numbers.items ≡ l.wallet;
  within : All (λ (number : ℕ). number < l.count) l.numbers.items;
}
