use Rattle.std.proofs.Common.{rules, ◌≡◌, ℕ, zero, suc, [], ◌∷◌, refl, sym, subst, inl, arith}
use Rattle.dex_gate.specs.PassView.{PassView, AreAll}
use Rattle.dex_tests.proofs.gate.two_threads_take_three_turns_each.Goals as goal

two : {E O : Type 0} (p q : PassView E O) → p.number ≡ 0 → q.number ≡ 1 → AreAll 2 (p ∷ q ∷ [])
two p q a b zero h = (0, p, omega arith, refl, inl a)
two p q a b (suc zero) h = (1, q, omega arith, refl, inl b)
two p q a b (suc (suc k)) h = absurd (omega arith)

pub close-requires-clause-numbers : goal.close-requires-clause-numbers
close-requires-clause-numbers g c =
    let items : c.push_reserved-2.new.self.items ≡ c.join-first.result.0 ∷ c.join-first.result.1 ∷ [] = search rules in
    let passes : c.in_ok-gate.gate.passes ≡ 2 = search rules in
    subst (λ (n : ℕ). AreAll n c.push_reserved-2.new.self.items) (sym passes) (subst (AreAll 2) (sym items) (two _ _ (search rules) (search rules)))
