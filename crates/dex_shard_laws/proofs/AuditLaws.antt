-- What an audit finds in shards it finds in the whole, and the other way round.
use Rattle.std.proofs.Common.{◌≡◌, ◌==◌, ◌<◌, ◌↔◌, ℕ, List, [], ◌∷◌, refl, sym, ap, subst, arith, ⊎_elim}
use Rattle.dex_world.proofs.Common.{PlainAccount, PlainAccounts, PlainMarketAccounts, cond-true, cond_both, eq-eqb}
use Rattle.std.specs.List.{All, Contains, filter, flat_map}
use Rattle.std.proofs.lemmas.List.Elements.{All-head, All-tail, Contains-append_cases, Contains-append_left, Contains-append_right}
use Rattle.dex_audit.specs.Findings.{told}
use Rattle.dex_audit.specs.Supplies.{supply_off}
use Rattle.dex_audit_rules.specs.Funds.{differs}
use Rattle.dex_audit_rules.specs.RulesOf.{told_by}
use Rattle.dex_audit_rules.specs.declared.finding.Finding.{Finding}
use Rattle.dex_audit_rules.specs.declared.market.Rule.{Rule}
use Rattle.dex_state.specs.Conserved.{held_of}
use Rattle.dex_token.specs.MintAccount.{mint_words}
use Rattle.dex_shard_laws.specs.Audits.{IsFoundIn}
use Rattle.dex_parts.specs.Shards.{Sharding, accounts_in, sum_over}
use Rattle.dex_parts.proofs.ShardSums.{held-over}

module _ {A B : Type 0} (tell : A → List B) (own : A → ℕ) where
  abbrev kept : ℕ → List A → List A
  kept shard xs = filter (λ (x : A). own x == shard) xs

  -- in one of so many
  abbrev IsToldIn : ℕ → List A → B → Type 0
  IsToldIn count xs y = (shard : ℕ) × (shard < count) × Contains (flat_map tell (kept shard xs)) y

  to-shard : (count : ℕ) (xs : List A) (y : B) → All (λ (x : A). own x < count) xs → Contains (flat_map tell xs) y → IsToldIn count xs y
  to-shard count [] y within found = absurd (omega (arith, found.1))
  to-shard count (x ∷ xs) y within found =
      ⊎_elim
      (λ (here : Contains (tell x) y). (
        own x,
        All-head (λ (z : A). own z < count) x xs within,
        subst (λ (some : List A). Contains (flat_map tell some) y)
            (sym (cond-true (own x == own x) (x ∷ kept (own x) xs) (kept (own x) xs) (eq-eqb (own x) (own x) refl)))
            (Contains-append_left (tell x) (flat_map tell (kept (own x) xs)) y here),
      ))
      (λ (there : Contains (flat_map tell xs) y).
      let rest : IsToldIn count xs y = to-shard count xs y (All-tail (λ (z : A). own z < count) x xs within) there in (
        rest.0,
        rest.1,
        cond_both (own x == rest.0) (x ∷ kept rest.0 xs) (kept rest.0 xs) (λ (some : List A). Contains (flat_map tell some) y)
            (λ mine. Contains-append_right (tell x) (flat_map tell (kept rest.0 xs)) y rest.2) (λ away. rest.2),
      ))
      (Contains-append_cases (tell x) (flat_map tell xs) y found)

  of-shard : (shard : ℕ) (xs : List A) (y : B) → Contains (flat_map tell (kept shard xs)) y → Contains (flat_map tell xs) y
  of-shard shard [] y found = found
  of-shard shard (x ∷ xs) y found =
      cond_both (own x == shard) (x ∷ kept shard xs) (kept shard xs) (λ (some : List A). Contains (flat_map tell some) y → Contains (flat_map tell (x ∷ xs)) y)
      (λ mine own_found.
      ⊎_elim (λ (here : Contains (tell x) y). Contains-append_left (tell x) (flat_map tell xs) y here)
      (λ (there : Contains (flat_map tell (kept shard xs)) y). Contains-append_right (tell x) (flat_map tell xs) y (of-shard shard xs y there))
      (Contains-append_cases (tell x) (flat_map tell (kept shard xs)) y own_found))
      (λ away own_found. Contains-append_right (tell x) (flat_map tell xs) y (of-shard shard xs y own_found))
      found

pub found-in-shards : (sharding : Sharding) (count : ℕ) (rule : Rule) (markets : List PlainMarketAccounts)
    → All (λ (market : PlainMarketAccounts). sharding.market market.address < count) markets → (finding : Finding)
    → Contains (told rule markets) finding ↔ IsFoundIn sharding count rule markets finding
found-in-shards sharding count rule markets within finding =
    let own : PlainMarketAccounts → ℕ = λ (market : PlainMarketAccounts). sharding.market market.address in (
      λ found. to-shard (told_by rule) own count markets finding within found,
      λ found. of-shard (told_by rule) own found.0 markets finding found.2,
    )

pub supplies-of-shards : (sharding : Sharding) (count : ℕ) (accounts : PlainAccounts)
    → All (λ (market : PlainMarketAccounts). sharding.market market.address < count) accounts.markets
    → All (λ (wallet : PlainAccount). sharding.wallet wallet.address < count) accounts.wallets → (mint : PlainAccount)
    → supply_off accounts mint
    ≡ differs 12 mint.address 36 (mint_words mint.bytes).supply (sum_over count (λ (shard : ℕ). held_of mint.address (accounts_in sharding shard accounts)))
supplies-of-shards sharding count accounts markets wallets mint =
    ap (differs 12 mint.address 36 (mint_words mint.bytes).supply) (held-over sharding count accounts markets wallets mint.address)
