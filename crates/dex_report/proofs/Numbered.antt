-- Texts that are written number by number.
use Rattle.std.proofs.Common.{◌≡◌, ◌∙◌, ℕ, ◌+◌, ◌++◌, List, refl, sym, ap, append_assoc, append-nil, add-one}
use Rattle.dex_report.specs.Lines.{numbered}

-- before the first number nothing is written
pub numbered-none : (text : ℕ → List ℕ) (start : List ℕ) → start ≡ start ++ numbered text 0
unfolding numbered
numbered-none text start = sym (append-nil start)

-- one number more
pub numbered-more : (text : ℕ → List ℕ) (start now next : List ℕ) (k : ℕ) → now ≡ start ++ numbered text k → next ≡ now ++ text k → next ≡ start ++ numbered text (k + 1)
unfolding numbered
numbered-more text start now next k before more = more ∙ ap (λ t. t ++ text k) before ∙ rw (add-one, append_assoc) refl
