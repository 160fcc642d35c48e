-- What the passes that come back say of the cards.
use Rattle.std.proofs.Common.{◌≡◌, ℕ, ◌<◌, ◌≤◌, List, map, get_or, sum_by, sym, ap, ◌∙◌, subst, ⊎_elim, arith}
use Rattle.std.proofs.lemmas.List.{get_or-map, length-map}
use Rattle.std.proofs.lemmas.List.Sums.{get_or-le-sum_by}
use Rattle.dex_gate.specs.GateView.{GateView}
use Rattle.dex_gate.specs.PassView.{PassView, Accounts, AreAll}
use Rattle.dex_gate.specs.Rule.{claim}
use Rattle.dex_gate.specs.Seats.{shown_card}

module _ {E O : Type 0} (g : GateView E O) where
  accounted : (k : ℕ) (p : PassView E O) → Accounts k p → 1 ≤ claim k (shown_card g p)
  accounted k p h = ⊎_elim (λ (e : p.number ≡ k). omega (arith, e)) (λ (l : (p.next ≤ k) × (k < p.until)). omega (arith, l.0, l.1)) h

  -- where all numbers are accounted for, the cards claim them all
  pub all_claimed : (count : ℕ) (passes : List (PassView E O)) → AreAll count passes → (k : ℕ) → k < count → 0 < sum_by (claim k) (map (shown_card g) passes)
  all_claimed count passes all k h =
      let a = all k h in
      let p : PassView E O = a.1 in
      let one : 1 ≤ claim k (shown_card g p) = accounted k p a.4 in
      let here = get_or-le-sum_by (claim k) (map (shown_card g) passes) a.0 (shown_card g p) (subst (λ (n : ℕ). a.0 < n) (sym (length-map passes (shown_card g))) a.2) in
      let is : claim k (get_or (map (shown_card g) passes) a.0 (shown_card g p)) ≡ claim k (shown_card g p) = ap (λ c. claim k c) (get_or-map (shown_card g) passes a.0 p (shown_card g p) a.2 ∙ ap (shown_card g) a.3) in
      omega (arith, one, here, is)
