-- The bytes are a slab exactly where the check of each part finds nothing broken.
use Rattle.std.proofs.Common.{◌≡◌, ℕ, ◌+◌, ◌<◌, ◌≤◌, inl, inr, List, ◌++◌, length, length-append, Option, Some, None, IfSome, sym, ap, ◌∙◌, subst, arith}
use Rattle.std.proofs.lemmas.Bool.{cases_lt}
use Rattle.std.proofs.lemmas.Bool.Decides.{eqb_tells}
use Rattle.dex_types.specs.declared.orders.Order.{Order}
use Rattle.dex_types.specs.BookSide.{CanRest}
use Rattle.dex_slab_check.specs.declared.slab_fault.SlabFault.{SlabFault}
use Rattle.dex_slab_check.specs.Checked.{AreBelow, AreMetOnce, IsSizedRoot, IsSoundFree, IsSoundTree}
use Rattle.dex_slab_check.specs.Faults.{AtBump, AtCount, AtFree, AtNode, AtTwice, AtWhole, BreaksAt, BreaksChild, BreaksNode, BreaksOrder, IsFault, met_in}
use Rattle.dex_slab.specs.Nodes.{bump_of, count_of, first_child_of, free_head_of, free_len_of, nodes_within, order_of, root_of, second_child_of}
use Rattle.dex_slab.specs.Slab.{IsSlab, IsSlabSize, IsTree, free_of, leaves_in, nodes_in, times, tree_of}
use Rattle.dex_slab.specs.Tree.{Tree}
use Rattle.dex_slab.proofs.FreeList.{length-free_from}
use Rattle.dex_slab_check.proofs.FreeLaws.{free_once, free_tag, free_unbroken}
use Rattle.dex_slab.proofs.Times.{times-append}
use Rattle.dex_slab_check.proofs.TreeLaws.{IsFine, IsFineChild, IsOf, fine_at, is_of}
use Rattle.dex_slab.proofs.Standing.{tree_of-empty, tree_of-some}

-- how many nodes are met
pub length-met_in : (bytes : List ℕ) → length (met_in bytes) ≡ length (nodes_in (tree_of bytes)) + free_len_of bytes
length-met_in bytes =
    length-append (nodes_in (tree_of bytes)) (free_of bytes)
    ∙ ap (λ n. length (nodes_in (tree_of bytes)) + n) (length-free_from bytes (free_len_of bytes) (free_head_of bytes))

-- ---- the tree, whether there is one or not

abbrev IsOfRoot : List ℕ → Option Tree → Type 0
IsOfRoot bytes tree = IfSome tree (IsOf bytes)

is_of_root : (bytes : List ℕ) → IsOfRoot bytes (tree_of bytes)
is_of_root bytes =
    elim (eqb_tells (count_of bytes) 0) [
      | inl empty ↦ subst (IsOfRoot bytes) (sym (tree_of-empty bytes empty.1)) tt
      | inr some ↦ subst (IsOfRoot bytes) (sym (tree_of-some bytes some.1)) (is_of 129 bytes (root_of bytes))
    ]

fine_in : (bytes : List ℕ) (tree : Option Tree) (node : ℕ) → IsOfRoot bytes tree → IfSome tree IsTree → 1 ≤ times node (nodes_in tree)
    → IsFine bytes node
fine_in bytes None node of rules at = absurd (omega arith)
fine_in bytes (Some tree) node of rules at = fine_at bytes 0 tree node of rules.known rules.prefixes rules.keys rules.can_rest at

-- ---- a slab from its parts

root_rules : (bytes : List ℕ) (tree : Option Tree) → IfSome tree (IsSoundTree bytes (root_of bytes)) → IfSome tree IsTree
root_rules bytes None sound = tt
root_rules bytes (Some tree) sound = record {
  known = sound.known;
  prefixes = sound.prefixes 0 (λ _. omega arith);
  keys = sound.keys;
  can_rest = sound.can_rest;
}

root_below : (bytes : List ℕ) (tree : Option Tree) → IfSome tree (IsSoundTree bytes (root_of bytes)) → AreBelow bytes (nodes_in tree)
root_below bytes None sound = λ x at. absurd (omega arith)
root_below bytes (Some tree) sound = sound.below

root_once : (bytes : List ℕ) (tree : Option Tree) → IfSome tree (IsSoundTree bytes (root_of bytes)) → AreMetOnce (nodes_in tree)
root_once bytes None sound = λ x. omega arith
root_once bytes (Some tree) sound = sound.once

below_both : (bytes used free : List ℕ) → AreBelow bytes used → AreBelow bytes free → AreBelow bytes (used ++ free)
below_both bytes used free left right x at =
    elim (cases_lt 0 (times x used)) [
      | inl in_use ↦ left x in_use
      | inr not ↦ right x (omega (arith, times-append x used free))
    ]

once_both : (used free : List ℕ) → AreMetOnce used → AreMetOnce free → ((x : ℕ) → 1 ≤ times x used → 1 ≤ times x free → ⊥) → AreMetOnce (used ++ free)
once_both used free left right apart x =
    let sum = times-append x used free in
    let one = left x in
    let other = right x in
    elim (cases_lt 0 (times x used)) [
      | inl in_use ↦ elim (cases_lt 0 (times x free)) [
        | inl is_free ↦ absurd (apart x in_use is_free)
        | inr not ↦ omega arith
      ]
      | inr not ↦ omega arith
    ]

pub slab_from_parts : (bytes : List ℕ) (size leaves : ℕ) → IsSlabSize (length bytes) → bump_of bytes ≤ nodes_within (length bytes)
    → IsSizedRoot bytes (tree_of bytes) size leaves
    → count_of bytes ≡ leaves_in (tree_of bytes) → length (met_in bytes) ≡ bump_of bytes → IsSoundFree bytes (free_of bytes) → IsSlab bytes
slab_from_parts bytes size leaves allowed bump sized count whole free =
    let rules = root_rules bytes (tree_of bytes) sized.sound in
    record {
      size = allowed;
      shared = record {
        bump = bump;
        below = below_both bytes (nodes_in (tree_of bytes)) (free_of bytes) (root_below bytes (tree_of bytes) sized.sound) free.below;
        once = once_both (nodes_in (tree_of bytes)) (free_of bytes) (root_once bytes (tree_of bytes) sized.sound)
            (free_once bytes (free_len_of bytes) (free_head_of bytes) free.tags)
            (λ node in_use is_free.
            free_tag bytes (free_len_of bytes) (free_head_of bytes) node free.tags is_free (fine_in bytes (tree_of bytes) node (is_of_root bytes) rules in_use).known);
        whole = whole;
        free_nodes = free.tags;
      };
      count = count;
      tree = rules;
    }

-- ---- no rule of a slab is broken

child_unbroken : (bytes : List ℕ) (node bit child : ℕ) (fault : SlabFault) → IsFineChild bytes node bit child
    → BreaksChild bytes node bit child fault → ⊥
child_unbroken bytes node bit child fault fine (inl growth) = let grows = fine.grows growth.0 in omega (arith, growth.1)
child_unbroken bytes node bit child fault fine (inr key) = key.1 fine.key

order_unbroken : (node : ℕ) (order : Order) (fault : SlabFault) → CanRest order → BreaksOrder node order fault → ⊥
order_unbroken node order fault rest (inl price) = omega (arith, rest.price, price.0)
order_unbroken node order fault rest (inr (inl lots)) = omega (arith, rest.lots, lots.0)
order_unbroken node order fault rest (inr (inr (inl slot))) = omega (arith, rest.slot, slot.0)
order_unbroken node order fault rest (inr (inr (inr tier))) = omega (arith, rest.tier, tier.0)

node_unbroken : (bytes : List ℕ) (node : ℕ) (fault : SlabFault) → node < bump_of bytes → IsFine bytes node → BreaksNode bytes node fault → ⊥
node_unbroken bytes node fault below fine (inl breaks) = omega (arith, below, breaks.0)
node_unbroken bytes node fault below fine (inr (inl breaks)) = breaks.0 fine.known
node_unbroken bytes node fault below fine (inr (inr (inl breaks))) = let short = fine.short breaks.0 in omega (arith, breaks.1)
node_unbroken bytes node fault below fine (inr (inr (inr breaks))) = order_unbroken node (order_of bytes node) fault (fine.can_rest breaks.0) breaks.1

unbroken_at : (bytes : List ℕ) (node : ℕ) (fault : SlabFault) → node < bump_of bytes → IsFine bytes node → BreaksAt bytes node fault → ⊥
unbroken_at bytes node fault below fine (inl breaks) = node_unbroken bytes node fault below fine breaks
unbroken_at bytes node fault below fine (inr (inl breaks)) = child_unbroken bytes node 0 (first_child_of bytes node) fault (fine.first breaks.0) breaks.1
unbroken_at bytes node fault below fine (inr (inr breaks)) = child_unbroken bytes node 1 (second_child_of bytes node) fault (fine.second breaks.0) breaks.1

pub no_fault : (bytes : List ℕ) (fault : SlabFault) → IsSlab bytes → IsFault bytes fault → ⊥
no_fault bytes fault slab (AtBump breaks) = let bump = slab.shared.bump in omega (arith, breaks.0)
no_fault bytes fault slab (AtCount breaks) = breaks.0 slab.count
no_fault bytes fault slab (AtNode (node, at, breaks)) =
    unbroken_at bytes node fault (slab.shared.below node (omega (arith, times-append node (nodes_in (tree_of bytes)) (free_of bytes))))
    (fine_in bytes (tree_of bytes) node (is_of_root bytes) slab.tree at)
    breaks
no_fault bytes fault slab (AtFree breaks) =
    free_unbroken bytes (free_of bytes) fault
    (λ node at. slab.shared.below node (omega (arith, times-append node (nodes_in (tree_of bytes)) (free_of bytes))))
    slab.shared.free_nodes breaks
no_fault bytes fault slab (AtTwice node breaks) = let once = slab.shared.once node in omega (arith, breaks.0)
no_fault bytes fault slab (AtWhole breaks) = breaks.0 slab.shared.whole
