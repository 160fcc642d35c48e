-- The free list, node by node.
use Rattle.std.proofs.Common.{◌≡◌, ℕ, zero, suc, List, [], ◌∷◌, length, refl, ap}
use Rattle.dex_slab.specs.Nodes.{next_of}
use Rattle.dex_slab.specs.Slab.{free_from}

pub free_from-none : (bytes : List ℕ) (node : ℕ) → free_from bytes zero node ≡ []
unfolding free_from
free_from-none bytes node = refl

pub free_from-more : (bytes : List ℕ) (left behind node : ℕ) → left ≡ suc behind
    → free_from bytes left node ≡ node ∷ free_from bytes behind (next_of bytes node)
unfolding free_from
free_from-more bytes left behind node is = ap (λ n. free_from bytes n node) is

pub length-free_from : (bytes : List ℕ) (count node : ℕ) → length (free_from bytes count node) ≡ count
unfolding free_from
length-free_from bytes zero node = refl
length-free_from bytes (suc count) node = ap suc (length-free_from bytes count (next_of bytes node))
