-- A node to spare.
use Rattle.std.specs.Prelude.{ℕ, ◌<◌, ◌≤◌, List, ◌∷◌, length}
use Rattle.dex_slab.specs.Nodes.{nodes_within}
use Rattle.dex_slab.specs.Slab.{IsShared, free_of}

-- of the nodes of these bytes some are in use and the free list has others, and not all of the account's nodes are in
-- use
pub record HasSpare (bytes : List ℕ) : Type 0 where
  pub used : List ℕ
  pub shared : IsShared bytes used (free_of bytes)
  pub spare : length used < nodes_within (length bytes)
  pub few : nodes_within (length bytes) ≤ 65536

-- of the nodes of these bytes this one is in use, and the free list has others
pub record IsUsed (node : ℕ) (bytes : List ℕ) : Type 0 where
  pub used : List ℕ
  pub shared : IsShared bytes (node ∷ used) (free_of bytes)
  pub few : nodes_within (length bytes) ≤ 65536
