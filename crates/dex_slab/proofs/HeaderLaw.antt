-- Where only the header changes, and neither its root nor its count, the tree stays.
use Rattle.std.proofs.Common.{◌≡◌, ℕ, List, inl, inr, sym, ◌∙◌, arith}
use Rattle.dex_slab.specs.Changes.{ChangesHeader}
use Rattle.dex_slab.specs.Nodes.{count_of, root_of}
use Rattle.dex_slab.specs.Slab.{IsSlab, tree_of}
use Rattle.dex_slab.specs.Walks.{tree_at}
use Rattle.dex_slab.proofs.Holding.{Holds-same}
use Rattle.dex_slab.proofs.Standing.{tree_of-cases, tree_of-empty, tree_of-held}
use Rattle.dex_slab.proofs.WalkLaw.{rooted}

pub tree_of-kept : (old new : List ℕ) → IsSlab old → ChangesHeader old new → root_of new ≡ root_of old → count_of new ≡ count_of old → tree_of new ≡ tree_of old
tree_of-kept old new slab header root count =
    elim (tree_of-cases old) [
      | inl none ↦ tree_of-empty new (count ∙ none.0) ∙ sym none.1
      | inr some ↦
          let r = rooted old slab some.0 in
          let t = tree_at old (root_of old) in
          tree_of-held new t (omega arith) r.good (record { nodes = Holds-same old new t r.held.nodes (λ n met. header.nodes n); root = r.held.root ∙ sym root }) ∙ sym r.is
    ]
