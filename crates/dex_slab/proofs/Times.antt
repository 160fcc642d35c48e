-- How often a node is met.
use Rattle.std.proofs.Common.{◌≡◌, ℕ, ◌+◌, ◌≤◌, List, [], ◌∷◌, ◌++◌, arith}
use Rattle.dex_slab.specs.Slab.{times}

pub times-append : (node : ℕ) (xs ys : List ℕ) → times node (xs ++ ys) ≡ times node xs + times node ys
times-append node [] ys = omega arith
times-append node (x ∷ xs) ys = omega (arith, times-append node xs ys)

-- what is met somewhere is met at all
pub times-some : (node : ℕ) (xs : List ℕ) → 1 ≤ times node (node ∷ xs)
times-some node xs = omega arith
