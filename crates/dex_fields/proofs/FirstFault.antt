-- The first fault of some rules that are tried one after another.
use Rattle.std.proofs.Common.{◌≡◌, ℕ, zero, suc, ◌+◌, ◌<◌, map, Option, Some, None, refl, sym, ap, ◌∙◌, arith}
use Rattle.std.specs.List.{range_with_len}
use Rattle.std.specs.Option.{option_or}
use Rattle.dex_fields.proofs.Rules.{or_none}
use Rattle.dex_fields.specs.Rules.{first_fault}

module _ {X : Type 0} (rule : ℕ → Option X) where
  -- the rule of the first number of a range
  first_rule : (a : ℕ) → rule a ≡ rule (a + 0)
  first_rule a =
      let same : a ≡ a + 0 = omega arith in
      ap rule same

  -- the rule of a later one
  later_rule : (a k : ℕ) → rule (a + 1 + k) ≡ rule (a + suc k)
  later_rule a k =
      let same : a + 1 + k ≡ a + suc k = omega arith in
      ap rule same

  -- no rule is broken
  first_fault-none : (a count : ℕ) → ((k : ℕ) → k < count → rule (a + k) ≡ None) → first_fault (map rule (range_with_len a count)) ≡ None
  first_fault-none a zero none = refl
  first_fault-none a (suc count) none =
      ap (λ (o : Option X). option_or o (first_fault (map rule (range_with_len (a + 1) count)))) (first_rule a ∙ none 0 (omega arith))
      ∙ first_fault-none (a + 1) count (λ k lt. later_rule a k ∙ none (suc k) (omega arith))

  -- the first rule that is broken
  first_fault-some : (a count k : ℕ) (fault : X) → k < count → ((i : ℕ) → i < k → rule (a + i) ≡ None) → rule (a + k) ≡ Some fault
      → first_fault (map rule (range_with_len a count)) ≡ Some fault
  first_fault-some a zero k fault lt none here = absurd (omega arith)
  first_fault-some a (suc count) zero fault lt none here =
      ap (λ (o : Option X). option_or o (first_fault (map rule (range_with_len (a + 1) count)))) (first_rule a ∙ here)
  first_fault-some a (suc count) (suc k) fault lt none here =
      ap (λ (o : Option X). option_or o (first_fault (map rule (range_with_len (a + 1) count)))) (first_rule a ∙ none 0 (omega arith))
      ∙ first_fault-some (a + 1) count k fault (omega arith) (λ i below. later_rule a i ∙ none (suc i) (omega arith)) (later_rule a k ∙ here)

  -- where there is no fault, each rule holds
  each_none : (a count : ℕ) → first_fault (map rule (range_with_len a count)) ≡ None → (k : ℕ) → k < count → rule (a + k) ≡ None
  each_none a zero none k lt = absurd (omega arith)
  each_none a (suc count) none zero lt = sym (first_rule a) ∙ (or_none (rule a) (first_fault (map rule (range_with_len (a + 1) count))) none).0
  each_none a (suc count) none (suc k) lt =
      sym (later_rule a k) ∙ each_none (a + 1) count (or_none (rule a) (first_fault (map rule (range_with_len (a + 1) count))) none).1 k (omega arith)

  -- ---- numbers from 0 on

  from_zero : (k : ℕ) → rule k ≡ rule (0 + k)
  from_zero k =
      let same : k ≡ 0 + k = omega arith in
      ap rule same

  pub front_none : (count : ℕ) → ((k : ℕ) → k < count → rule k ≡ None) → first_fault (map rule (range_with_len 0 count)) ≡ None
  front_none count none = first_fault-none 0 count (λ k lt. sym (from_zero k) ∙ none k lt)

  pub front_some : (count k : ℕ) (fault : X) → k < count → ((i : ℕ) → i < k → rule i ≡ None) → rule k ≡ Some fault
      → first_fault (map rule (range_with_len 0 count)) ≡ Some fault
  front_some count k fault lt none here =
      first_fault-some 0 count k fault lt (λ i below. sym (from_zero i) ∙ none i below) (sym (from_zero k) ∙ here)

  pub each_front_none : (count : ℕ) → first_fault (map rule (range_with_len 0 count)) ≡ None → (k : ℕ) → k < count → rule k ≡ None
  each_front_none count none k lt = from_zero k ∙ each_none 0 count none k lt
