-- the numbers of slots that were met, slot by slot
use Rattle.std.proofs.Common.{◌≡◌, ℕ, ◌+◌, ◌<◌, inl, inr, Bool, true, false, not, cond, eqb, List, [], ◌∷◌, ◌++◌, length, get_or, take, refl, sym, ap, ◌∙◌}
use Rattle.std.proofs.lemmas.List.{take_more}
use Rattle.std.proofs.lemmas.Bool.{cases_eq, ne_eqb, eq-eqb, false≢true}
use Rattle.dex_audit_rules.specs.declared.taken.Taken.{Taken}
use Rattle.dex_audit_rules.specs.Slots.{is_number_of, number_of}

-- a number is that of one of some slots and one more, where it is that of one of them or of the last
pub is_number_of-snoc : (number : ℕ) (all : List Taken) (taken : Taken) → is_number_of number (all ++ taken ∷ []) ≡ cond (eqb (number_of taken) number) true (is_number_of number all)
is_number_of-snoc number [] taken = refl
is_number_of-snoc number (first ∷ all) taken =
    ap (cond (eqb (number_of first) number) true) (is_number_of-snoc number all taken)
    ∙ swapped (eqb (number_of first) number) (eqb (number_of taken) number) (is_number_of number all)
  where
    swapped : (one other rest : Bool) → cond one true (cond other true rest) ≡ cond other true (cond one true rest)
    swapped true true rest = refl
    swapped true false rest = refl
    swapped false true rest = refl
    swapped false false rest = refl

pub is_number_of-more : (number : ℕ) (all : List Taken) (i : ℕ) (d : Taken) → i < length all
    → is_number_of number (take (i + 1) all) ≡ cond (eqb (number_of (get_or all i d)) number) true (is_number_of number (take i all))
is_number_of-more number all i d lt = ap (is_number_of number) (take_more all i d lt) ∙ is_number_of-snoc number (take i all) (get_or all i d)

-- a number was met where one of the slots so far has it
pub met-more : (number last before after : ℕ) (met : Bool) → not met ≡ eqb before 0 → after ≡ cond (eqb number last) 1 before
    → not (cond (eqb last number) true met) ≡ eqb after 0
met-more number last before after met so is =
    by-test (eqb number last) (eqb last number) (eqb-same number last) is
  where
    eqb-same : (a b : ℕ) → eqb a b ≡ eqb b a
    eqb-same a b = elim (cases_eq a b) [ inl e ↦ eq-eqb a b e ∙ sym (eq-eqb b a (sym e)) | inr ne ↦ ne_eqb a b ne ∙ sym (ne_eqb b a (λ e. ne (sym e))) ]

    by-test : (here there : Bool) → here ≡ there → after ≡ cond here 1 before → not (cond there true met) ≡ eqb after 0
    by-test true true same one = sym (ap (λ (n : ℕ). eqb n 0) one)
    by-test false false same one = so ∙ sym (ap (λ (n : ℕ). eqb n 0) one)
    by-test true false same one = absurd (false≢true (sym same))
    by-test false true same one = absurd (false≢true same)
