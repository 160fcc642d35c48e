-- Texts that are written piece by piece.
use Rattle.std.proofs.Common.{◌≡◌, ◌∙◌, ℕ, ◌++◌, List, ap, append_assoc}

-- after two pieces
pub written-two : (t0 t1 t2 a b : List ℕ) → t1 ≡ t0 ++ a → t2 ≡ t1 ++ b → t2 ≡ t0 ++ (a ++ b)
written-two t0 t1 t2 a b p q = q ∙ ap (λ t. t ++ b) p ∙ append_assoc t0 a b

-- after four pieces
pub written-four : (t0 t1 t2 t3 t4 a b c d : List ℕ) → t1 ≡ t0 ++ a → t2 ≡ t1 ++ b → t3 ≡ t2 ++ c → t4 ≡ t3 ++ d → t4 ≡ t0 ++ (a ++ b ++ c ++ d)
written-four t0 t1 t2 t3 t4 a b c d p q r s = written-two t0 t3 t4 (a ++ b ++ c) d (written-two t0 t2 t3 (a ++ b) c (written-two t0 t1 t2 a b p q) r) s
