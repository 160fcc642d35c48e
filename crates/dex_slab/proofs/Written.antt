-- Several writes of nodes and of the header's words on the tree, one after another: what stays.
use Rattle.std.proofs.Common.{◌≡◌, ℕ, ◌≤◌, List, [], ◌∷◌, ◌++◌, length, refl, ◌∙◌, arith, lit≤}
use Rattle.dex_fields.specs.declared.slab.TheConstants.{BUMP_INDEX, FREE_LIST_HEAD, FREE_LIST_LEN, LEAF_COUNT, ROOT_NODE}
use Rattle.dex_fields.specs.Bytes.{with_number}
use Rattle.dex_slab.specs.Changes.{ChangesNode}
use Rattle.dex_slab.specs.Nodes.{bump_of, free_head_of, free_len_of, node_bytes}
use Rattle.dex_slab.specs.Slab.{IsShared, free_of, times}
use Rattle.dex_slab.proofs.NodeWrites.{ChangesHeader-by, number_kept}
use Rattle.dex_slab.proofs.PoolLaw.{IsShared-same}
use Rattle.dex_slab.proofs.Times.{times-append}

-- at most these nodes were written, and none of the header's words on the nodes that are not in use
pub record IsWritten (nodes old new : List ℕ) : Type 0 where
  pub kept : (n : ℕ) → times n nodes ≡ 0 → node_bytes new n ≡ node_bytes old n
  pub bump : bump_of new ≡ bump_of old
  pub len : free_len_of new ≡ free_len_of old
  pub head : free_head_of new ≡ free_head_of old

pub written-node : (node : ℕ) (old new : List ℕ) → ChangesNode node old new → IsWritten (node ∷ []) old new
written-node node old new h = record {
  kept = λ n none. h.nodes n (λ e. absurd (omega arith));
  bump = h.header_numbers BUMP_INDEX (lit≤ tt);
  len = h.header_numbers FREE_LIST_LEN (lit≤ tt);
  head = h.header_numbers FREE_LIST_HEAD (lit≤ tt);
}

pub written-root : (old new : List ℕ) (x : ℕ) → new ≡ with_number old ROOT_NODE x → IsWritten [] old new
written-root old new x made = record {
  kept = λ n none. (ChangesHeader-by old new ROOT_NODE x made (lit≤ tt) (lit≤ tt)).nodes n;
  bump = number_kept old new ROOT_NODE x BUMP_INDEX made refl;
  len = number_kept old new ROOT_NODE x FREE_LIST_LEN made refl;
  head = number_kept old new ROOT_NODE x FREE_LIST_HEAD made refl;
}

pub written-count : (old new : List ℕ) (x : ℕ) → new ≡ with_number old LEAF_COUNT x → IsWritten [] old new
written-count old new x made = record {
  kept = λ n none. (ChangesHeader-by old new LEAF_COUNT x made (lit≤ tt) (lit≤ tt)).nodes n;
  bump = number_kept old new LEAF_COUNT x BUMP_INDEX made refl;
  len = number_kept old new LEAF_COUNT x FREE_LIST_LEN made refl;
  head = number_kept old new LEAF_COUNT x FREE_LIST_HEAD made refl;
}

pub written-then : (xs ys old mid new : List ℕ) → IsWritten xs old mid → IsWritten ys mid new → IsWritten (xs ++ ys) old new
written-then xs ys old mid new h k = record {
  kept = λ n none. k.kept n (omega (arith, times-append n xs ys)) ∙ h.kept n (omega (arith, times-append n xs ys));
  bump = k.bump ∙ h.bump;
  len = k.len ∙ h.len;
  head = k.head ∙ h.head;
}

-- where only nodes in use were written, the nodes are shared as before
pub IsShared-written : (nodes old new used : List ℕ) → IsWritten nodes old new → IsShared old used (free_of old) → ((n : ℕ) → times n used ≡ 0 → times n nodes ≡ 0)
    → length new ≡ length old → IsShared new used (free_of new)
IsShared-written nodes old new used w h among long =
    IsShared-same old new used h (λ n met. w.kept n (among n (unused n met))) long w.bump w.len w.head where
      unused : (n : ℕ) → 1 ≤ times n (free_of old) → times n used ≡ 0
      unused n met = omega (arith, h.once n, times-append n used (free_of old))
