-- What an index leads to: for an address the accounts at its places, what a change of its account leaves, and all of them.
use Rattle.std.proofs.Common.{◌≡◌, ℕ, zero, suc, ◌+◌, ◌-◌, ◌≤◌, Bool, true, false, List, [], ◌∷◌, ◌++◌, length, take, drop, refl, sym, ap, ◌∙◌, arith, ⊎_elim}
use Rattle.std.proofs.Math.Seq.{drop-nil, take-nil}
use Rattle.std.proofs.lemmas.Bool.{cases_Bool, cond-true, cond-false, false≢true}
use Rattle.std.proofs.lemmas.List.{take-append-drop}
use borrow.Rule.Slice.PartMut.{put_mid}
use Rattle.dex_types.specs.declared.addresses.Address.{Address}
use Rattle.dex_types.specs.Accounts.{PlainAccount}
use Rattle.dex_types.specs.Addresses.{is_same}
use Rattle.dex_laws.proofs.TraderLaws.{is_same-true}
use Rattle.dex_accounts.specs.Owners.{bytes_at, changed_at}
use Rattle.dex_accounts.proofs.OwnerLaws.{with_change}
use Rattle.dex_index.specs.Reached.{IsNear, LeadsToAll, reached}

module _ (leads : Address → ℕ → Bool) where
  -- the first of these accounts is reached, or is not
  first-in : (account : PlainAccount) (others : List PlainAccount) (at : ℕ) → leads account.address at ≡ true
      → reached leads at (account ∷ others) ≡ account ∷ reached leads (suc at) others
  first-in account others at is = cond-true _ _ _ is

  first-out : (account : PlainAccount) (others : List PlainAccount) (at : ℕ) → leads account.address at ≡ false
      → reached leads at (account ∷ others) ≡ reached leads (suc at) others
  first-out account others at is = cond-false _ _ _ is

  -- ---- the accounts at the places to which an address leads

  module _ (address : Address) where
    -- where the account is reached it is another's
    abbrev IsPassed : PlainAccount → ℕ → Type 0
    IsPassed account at = leads account.address at ≡ true → is_same address account.address ≡ false

    -- of accounts that stand from a place on n are passed, of the next k those of the address are reached, and the others are passed
    abbrev pub Seen : List PlainAccount → ℕ → ℕ → ℕ → Type 0
    Seen [] at n k = Unit {0}
    Seen (first ∷ others) at (suc n) k = IsPassed first at × Seen others (suc at) n k
    Seen (first ∷ others) at zero (suc k) = (is_same address first.address ≡ true → leads first.address at ≡ true) × Seen others (suc at) zero k
    Seen (first ∷ others) at zero zero = IsPassed first at × Seen others (suc at) zero zero

    -- an account of the address leads as the address does
    as-address : (account : PlainAccount) (at : ℕ) → is_same address account.address ≡ true → leads account.address at ≡ leads address at
    as-address account at same = sym (ap (λ (a : Address). leads a at) (is_same-true address account.address same))

    passed : (account : PlainAccount) (at : ℕ) → leads address at ≡ false → IsPassed account at
    passed account at apart is =
        ⊎_elim
        (λ (same : is_same address account.address ≡ true). absurd (false≢true (sym apart ∙ sym (as-address account at same) ∙ is)))
        (λ (other : is_same address account.address ≡ false). other)
        (cases_Bool (is_same address account.address))

    pub seen : (count from to : ℕ) → IsNear (leads address) count from to → (accounts : List PlainAccount) (at n k : ℕ)
        → n ≡ from - at → n + k ≡ to - at → at + length accounts ≡ count → Seen accounts at n k
    seen count from to near [] at n k front some all = tt
    seen count from to near (first ∷ others) at (suc n) k front some all =
        (passed first at (near.before at (omega arith)), seen count from to near others (suc at) n k (omega arith) (omega arith) (omega arith))
    seen count from to near (first ∷ others) at zero (suc k) front some all = (
      λ same. as-address first at same ∙ near.inside at (omega arith) (omega arith),
      seen count from to near others (suc at) zero k (omega arith) (omega arith) (omega arith),
    )
    seen count from to near (first ∷ others) at zero zero front some all =
        (passed first at (near.behind at (omega arith) (omega arith)), seen count from to near others (suc at) zero zero (omega arith) (omega arith) (omega arith))

    bytes-passed : (first : PlainAccount) (others : List PlainAccount) (at : ℕ) → IsPassed first at
        → bytes_at address (reached leads at (first ∷ others)) ≡ bytes_at address (reached leads (suc at) others)
    bytes-passed first others at passed =
        ⊎_elim
        (λ (is : leads first.address at ≡ true). ap (bytes_at address) (first-in first others at is) ∙ cond-false _ _ _ (passed is))
        (λ (is : leads first.address at ≡ false). ap (bytes_at address) (first-out first others at is))
        (cases_Bool (leads first.address at))

    pub bytes_at-seen : (accounts : List PlainAccount) (at n k : ℕ) → Seen accounts at n k
        → bytes_at address (reached leads at accounts) ≡ bytes_at address (take k (drop n accounts))
    bytes_at-seen [] at n k is = simp (drop-nil, take-nil)
    bytes_at-seen (first ∷ others) at (suc n) k is = bytes-passed first others at is.0 ∙ bytes_at-seen others (suc at) n k is.1
    bytes_at-seen (first ∷ others) at zero zero is = bytes-passed first others at is.0 ∙ bytes_at-seen others (suc at) zero zero is.1
    bytes_at-seen (first ∷ others) at zero (suc k) is =
        ⊎_elim
        (λ (same : is_same address first.address ≡ true).
        ap (bytes_at address) (first-in first others at (is.0 same)) ∙ cond-true _ _ _ same ∙ sym (cond-true _ _ _ same))
        (λ (other : is_same address first.address ≡ false).
        bytes-passed first others at (λ _. other) ∙ bytes_at-seen others (suc at) zero k is.1 ∙ sym (cond-false _ _ _ other))
        (cases_Bool (is_same address first.address))

    module _ (change : List ℕ → List ℕ) where
      changed-passed : (first : PlainAccount) (others now : List PlainAccount) (at : ℕ) → IsPassed first at
          → reached leads (suc at) now ≡ changed_at address change (reached leads (suc at) others)
          → reached leads at (first ∷ now) ≡ changed_at address change (reached leads at (first ∷ others))
      changed-passed first others now at passed rest =
          ⊎_elim
          (λ (is : leads first.address at ≡ true).
          first-in first now at is
          ∙ ap (λ (l : List PlainAccount). first ∷ l) rest
          ∙ sym (ap (changed_at address change) (first-in first others at is) ∙ cond-false _ _ _ (passed is)))
          (λ (is : leads first.address at ≡ false).
          first-out first now at is ∙ rest ∙ sym (ap (changed_at address change) (first-out first others at is)))
          (cases_Bool (leads first.address at))

      pub changed_at-seen : (accounts : List PlainAccount) (at n k : ℕ) → Seen accounts at n k
          → reached leads at (put_mid n k accounts (changed_at address change (take k (drop n accounts)))) ≡ changed_at address change (reached leads at accounts)
      changed_at-seen [] at n k is = simp (drop-nil, take-nil)
      changed_at-seen (first ∷ others) at (suc n) k is = changed-passed first others _ at is.0 (changed_at-seen others (suc at) n k is.1)
      changed_at-seen (first ∷ others) at zero zero is = changed-passed first others others at is.0 (changed_at-seen others (suc at) zero zero is.1)
      changed_at-seen (first ∷ others) at zero (suc k) is =
          let with_some : List PlainAccount → List PlainAccount = λ some. reached leads at (some ++ drop k others) in
          ⊎_elim
          (λ (same : is_same address first.address ≡ true).
          ap with_some (cond-true _ _ _ same)
          ∙ ap (λ (l : List PlainAccount). reached leads at (with_change change first ∷ l)) (take-append-drop k others)
          ∙ first-in (with_change change first) others at (is.0 same)
          ∙ sym (ap (changed_at address change) (first-in first others at (is.0 same)) ∙ cond-true _ _ _ same))
          (λ (other : is_same address first.address ≡ false).
          ap with_some (cond-false _ _ _ other) ∙ changed-passed first others _ at (λ _. other) (changed_at-seen others (suc at) zero k is.1))
          (cases_Bool (is_same address first.address))

  -- ---- all of them

  pub reached-all : (accounts : List PlainAccount) (at : ℕ) → LeadsToAll leads at accounts → reached leads at accounts ≡ accounts
  reached-all [] at all = refl
  reached-all (first ∷ others) at all = first-in first others at all.0 ∙ ap (λ (l : List PlainAccount). first ∷ l) (reached-all others (suc at) all.1)

  reached-less : (accounts : List PlainAccount) (at : ℕ) → length (reached leads at accounts) ≤ length accounts
  reached-less [] at = omega arith
  reached-less (first ∷ others) at =
      let rest = reached-less others (suc at) in
      ⊎_elim
      (λ (is : leads first.address at ≡ true). omega (arith, rest, ap length (first-in first others at is)))
      (λ (is : leads first.address at ≡ false). omega (arith, rest, ap length (first-out first others at is)))
      (cases_Bool (leads first.address at))

  -- where as many are reached as there are, all are
  pub leads-all : (accounts : List PlainAccount) (at : ℕ) → length (reached leads at accounts) ≡ length accounts → LeadsToAll leads at accounts
  leads-all [] at full = tt
  leads-all (first ∷ others) at full =
      ⊎_elim
      (λ (is : leads first.address at ≡ true). (is, leads-all others (suc at) (omega (arith, full, ap length (first-in first others at is)))))
      (λ (is : leads first.address at ≡ false).
      let out : length (reached leads at (first ∷ others)) ≡ length (reached leads (suc at) others) = ap length (first-out first others at is) in
      absurd (omega (arith, full, out, reached-less others (suc at))))
      (cases_Bool (leads first.address at))

-- each address leads to each place
pub each-leads : (accounts : List PlainAccount) (at : ℕ) → LeadsToAll (λ address place. true) at accounts
each-leads [] at = tt
each-leads (first ∷ others) at = (refl, each-leads others (suc at))
