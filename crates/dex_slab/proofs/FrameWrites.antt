-- A write outside of the header and the nodes leaves the slab as it was.
use Rattle.std.proofs.Common.{◌≡◌, ℕ, ◌<◌, ◌≤◌, List, length, Option, Some, None, IfSome, inl, inr, sym, subst, ◌∙◌, ap, arith, lit≤}
use Rattle.dex_fields.specs.declared.field.Field.{Field}
use Rattle.dex_fields.specs.declared.slab.TheConstants.{BUMP_INDEX, FREE_LIST_HEAD, FREE_LIST_LEN, LEAF_COUNT, ROOT_NODE}
use Rattle.dex_fields.specs.Bytes.{AreApart, ChangesOnly, end_of, number_in}
use Rattle.dex_types.specs.declared.terms.Side.{Side}
use Rattle.dex_slab.specs.Changes.{slab_field}
use Rattle.dex_slab.specs.Nodes.{bump_of, free_len_of, node_bytes, node_field, nodes_within, root_of}
use Rattle.dex_slab.specs.Slab.{IsSlab, IsSlabSize, free_of, nodes_in, orders_in, resting, tree_of}
use Rattle.dex_slab.specs.Tree.{Tree}
use Rattle.dex_slab.proofs.FrameKept.{bytes_kept, number_kept}
use Rattle.dex_slab.proofs.Holding.{AreSame, Holds-same}
use Rattle.dex_slab.proofs.PoolLaw.{IsShared-same, used-below}
use Rattle.dex_slab.proofs.Standing.{IsHeld, IsSlab-from, Stands, stands_of, tree_of-stands}
use Rattle.dex_slab.proofs.Times.{times-append}

-- a field of the slab is apart from what is apart from the slab
inside_apart : (inner outer field : Field) → outer.at ≤ inner.at → end_of inner ≤ end_of outer → AreApart outer field → AreApart inner field
inside_apart inner outer field low high (inl before) = inl (omega arith)
inside_apart inner outer field low high (inr behind) = inr (omega arith)

held_same : (old new : List ℕ) (tree : Option Tree) → IfSome tree (IsHeld old) → AreSame (nodes_in tree) old new → root_of new ≡ root_of old
    → IfSome tree (IsHeld new)
held_same old new None held kept root = tt
held_same old new (Some t) held kept root = record { nodes = Holds-same old new t held.nodes kept; root = held.root ∙ sym root }

module _ (old new : List ℕ) (field : Field) (slab : IsSlab old) (long : length new ≡ length old) (kept : ChangesOnly field old new)
    (apart : AreApart (slab_field (length old)) field) where
  word_kept : (word : Field) → 13 ≤ word.at → end_of word ≤ 45 → number_in new word ≡ number_in old word
  word_kept word low high =
      number_kept old new word
      (bytes_kept old new word field long kept (inside_apart word (slab_field (length old)) field low (omega (arith, high)) apart) (omega (arith, slab.size.some, high)))

  node_kept : (n : ℕ) → n < nodes_within (length old) → node_bytes new n ≡ node_bytes old n
  node_kept n lt =
      bytes_kept old new (node_field n) field long kept (inside_apart (node_field n) (slab_field (length old)) field (omega arith) (omega (arith, lt)) apart)
      (omega (arith, lt))

  used_kept : AreSame (nodes_in (tree_of old)) old new
  used_kept n met = node_kept n (used-below old (nodes_in (tree_of old)) n slab.shared met)

  free_kept : AreSame (free_of old) old new
  free_kept n met =
      node_kept n (omega (arith, slab.shared.below n (omega (arith, met, times-append n (nodes_in (tree_of old)) (free_of old))), slab.shared.bump))

  pub bump_beside : bump_of new ≡ bump_of old
  bump_beside = word_kept BUMP_INDEX (lit≤ tt) (lit≤ tt)

  pub freed_beside : free_len_of new ≡ free_len_of old
  freed_beside = word_kept FREE_LIST_LEN (lit≤ tt) (lit≤ tt)

  stands : Stands new (tree_of old)
  stands = record {
    size = subst (λ (n : ℕ). IsSlabSize n) (sym long) slab.size;
    shared = IsShared-same old new (nodes_in (tree_of old)) slab.shared free_kept long bump_beside freed_beside (word_kept FREE_LIST_HEAD (lit≤ tt) (lit≤ tt));
    count = word_kept LEAF_COUNT (lit≤ tt) (lit≤ tt) ∙ slab.count;
    good = slab.tree;
    held = held_same old new (tree_of old) (stands_of old slab).held used_kept (word_kept ROOT_NODE (lit≤ tt) (lit≤ tt));
  }

  pub slab_beside : IsSlab new
  slab_beside = IsSlab-from new (tree_of old) stands

  pub resting_beside : (side : Side) → resting side new ≡ resting side old
  resting_beside side = ap (orders_in side) (tree_of-stands new (tree_of old) stands)
