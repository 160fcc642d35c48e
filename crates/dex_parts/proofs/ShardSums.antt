-- Sums over shards.
use Rattle.std.proofs.Common.{◌≡◌, ◌==◌, ◌<◌, ◌+◌, ℕ, zero, suc, Bool, true, false, cond, ltb, List, [], ◌∷◌, get_or, sym, refl, ap₂, ◌∙◌, arith}
use Rattle.dex_world.proofs.Common.{Address, PlainAccount, PlainAccounts, PlainMarketAccounts, cond-true, filter, lt-ltb, total}
use Rattle.dex_parts.proofs.Common.{All}
use Rattle.std.proofs.lemmas.Bool.Decides.{nat_tests}
use Rattle.dex_laws.proofs.TotalLaws.{total-agree, total-none, total-plus}
use Rattle.dex_state.specs.Conserved.{amount_of, held_of, in_vaults, in_wallets}
use Rattle.dex_parts.specs.Shards.{Sharding, accounts_in, markets_in, sum_over, wallets_in}

sum-both : (count : ℕ) (f g : ℕ → ℕ) → sum_over count (λ shard. f shard + g shard) ≡ sum_over count f + sum_over count g
sum-both zero f g = refl
sum-both (suc count) f g = omega (arith, sum-both count f g)

-- what is of none of no shards, and of one shard more
none-yet : (own amount : ℕ) → cond (ltb own 0) amount 0 ≡ 0
none-yet own amount = grind (arith, nat_tests)

one-more : (count own amount : ℕ) → cond (ltb own (suc count)) amount 0 ≡ cond (ltb own count) amount 0 + cond (own == count) amount 0
one-more count own amount = grind (arith, nat_tests)

module _ {X : Type 0} (amount : X → ℕ) (own : X → ℕ) where
  abbrev kept : ℕ → List X → List X
  kept shard xs = filter (λ (x : X). own x == shard) xs

  -- what an element has, where it is of a shard, and of one of so many
  abbrev at_shard : ℕ → X → ℕ
  at_shard shard x = cond (own x == shard) (amount x) 0

  abbrev below : ℕ → X → ℕ
  below count x = cond (ltb (own x) count) (amount x) 0

  total-kept : (shard : ℕ) (xs : List X) → total (at_shard shard) xs ≡ total amount (kept shard xs)
  total-kept shard [] = refl
  total-kept shard (x ∷ xs) = either (own x == shard) (total-kept shard xs)
    where
      either : (b : Bool) → total (at_shard shard) xs ≡ total amount (kept shard xs)
          → cond b (amount x) 0 + total (at_shard shard) xs ≡ total amount (cond b (x ∷ kept shard xs) (kept shard xs))
      either true rest = omega (arith, rest)
      either false rest = omega (arith, rest)

  total-below : (count : ℕ) (xs : List X) → total (below count) xs ≡ sum_over count (λ (shard : ℕ). total amount (kept shard xs))
  total-below zero xs = total-none (below 0) xs (λ k d within. none-yet (own (get_or xs k d)) (amount (get_or xs k d)))
  total-below (suc count) xs =
      total-agree (below (suc count)) (λ (x : X). below count x + at_shard count x) xs
      (λ k d within. one-more count (own (get_or xs k d)) (amount (get_or xs k d)))
      ∙ total-plus (below count) (at_shard count) xs
      ∙ ap₂ (λ (a b : ℕ). a + b) (total-below count xs) (total-kept count xs)

  pub total-over : (count : ℕ) (xs : List X) → All (λ (x : X). own x < count) xs → total amount xs ≡ sum_over count (λ (shard : ℕ). total amount (kept shard xs))
  total-over count xs within =
      total-agree amount (below count) xs
      (λ k d inside. sym (cond-true (ltb (own (get_or xs k d)) count) (amount (get_or xs k d)) 0 (lt-ltb (own (get_or xs k d)) count (within k d inside))))
      ∙ total-below count xs

pub held-over : (sharding : Sharding) (count : ℕ) (accounts : PlainAccounts) → All (λ (market : PlainMarketAccounts). sharding.market market.address < count) accounts.markets
    → All (λ (wallet : PlainAccount). sharding.wallet wallet.address < count) accounts.wallets → (mint : Address)
    → held_of mint accounts ≡ sum_over count (λ (shard : ℕ). held_of mint (accounts_in sharding shard accounts))
held-over sharding count accounts markets wallets mint =
    let of_wallet : PlainAccount → ℕ = λ (wallet : PlainAccount). amount_of mint wallet.bytes in
    let of_market : PlainMarketAccounts → ℕ = λ (market : PlainMarketAccounts). amount_of mint market.coin_vault + amount_of mint market.pc_vault in
    let in_all_wallets = total-over of_wallet (λ (wallet : PlainAccount). sharding.wallet wallet.address) count accounts.wallets wallets in
    let in_all_markets = total-over of_market (λ (market : PlainMarketAccounts). sharding.market market.address) count accounts.markets markets in
    let both = sum-both count (λ (shard : ℕ). in_wallets mint (wallets_in sharding shard accounts.wallets)) (λ (shard : ℕ). in_vaults mint (markets_in sharding shard accounts.markets)) in
    omega (arith, in_all_wallets, in_all_markets, both)
