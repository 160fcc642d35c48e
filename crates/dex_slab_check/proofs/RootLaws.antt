-- The tree of a side: none where no order rests, else the one at the root.
use Rattle.std.proofs.Common.{◌≡◌, ℕ, List, inl, refl, sym, subst}
use Rattle.dex_slab_check.specs.declared.slab_fault.SlabFault.{SlabFault}
use Rattle.dex_slab_check.specs.Checked.{IsSizedRoot, IsSizedTree}
use Rattle.dex_slab_check.specs.Faults.{BreaksAmong, BreaksNode}
use Rattle.dex_slab.specs.Nodes.{count_of, root_of}
use Rattle.dex_slab.specs.Slab.{nodes_in, tree_of}
use Rattle.dex_slab.specs.Tree.{nodes_of, tree_from}
use Rattle.dex_slab_check.proofs.SoundLaws.{among_here}
use Rattle.dex_slab.proofs.Standing.{tree_of-empty, tree_of-some}

pub sized_none : (bytes : List ℕ) → count_of bytes ≡ 0 → IsSizedRoot bytes (tree_of bytes) 0 0
sized_none bytes empty =
    subst (λ tree. IsSizedRoot bytes tree 0 0) (sym (tree_of-empty bytes empty)) record { sound = tt; is_size = refl; is_leaves = refl }

pub sized_some : (bytes : List ℕ) (size leaves : ℕ) → (count_of bytes ≡ 0 → ⊥)
    → IsSizedTree bytes (root_of bytes) (tree_from 129 bytes (root_of bytes)) size leaves
    → IsSizedRoot bytes (tree_of bytes) size leaves
sized_some bytes size leaves some sized =
    subst (λ tree. IsSizedRoot bytes tree size leaves) (sym (tree_of-some bytes some)) record { sound = sized.sound; is_size = sized.is_size; is_leaves = sized.is_leaves }

pub among_root : (bytes : List ℕ) (fault : SlabFault) → (count_of bytes ≡ 0 → ⊥)
    → BreaksAmong bytes (nodes_of (tree_from 129 bytes (root_of bytes))) fault
    → BreaksAmong bytes (nodes_in (tree_of bytes)) fault
among_root bytes fault some breaks = subst (λ tree. BreaksAmong bytes (nodes_in tree) fault) (sym (tree_of-some bytes some)) breaks

pub root_broken : (bytes : List ℕ) (fault : SlabFault) → (count_of bytes ≡ 0 → ⊥) → BreaksNode bytes (root_of bytes) fault
    → BreaksAmong bytes (nodes_in (tree_of bytes)) fault
root_broken bytes fault some breaks = among_root bytes fault some (among_here 129 bytes (root_of bytes) fault (inl breaks))
