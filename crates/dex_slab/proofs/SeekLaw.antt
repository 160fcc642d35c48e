-- The walk to the leaf of an id that rests.
use Rattle.std.proofs.Common.{◌≡◌, ℕ, ◌<◌, ◌⊎◌, inl, inr, List, length, Option, Some, None, refl, sym, ap, subst, ◌∙◌, arith}
use Rattle.dex_slab.specs.declared.nodes.Branch.{Branch}
use Rattle.dex_slab.specs.Nodes.{branch_of, root_of}
use Rattle.dex_slab.specs.Path.{Path, InFirst, InSecond, Leads, plug, top_of}
use Rattle.dex_slab.specs.Tree.{Tree, Leaf, Inner, Other, Begins, nodes_of}
use Rattle.dex_slab.specs.Walks.{IsFound, IsOnWay, RestsIn, child_towards, parent_of, tree_at}
use Rattle.dex_slab.proofs.KeyBits.{Begins-bit}
use Rattle.dex_slab.proofs.Somes.{none_some, same_some}
use Rattle.dex_slab.proofs.TreeOrders.{RestsIn-key}
use Rattle.dex_slab.proofs.WalkLaw.{Rooted, agreed-part, branch-inner, branch-leaf, held-part, step-first, step-second, towards-first, towards-second}

-- the id rests at or below this node, whose parent this is
pub record IsSought (tree : Tree) (id : ℕ) (parent : Option ℕ) (node : ℕ) : Type 0 where
  pub path : Path
  pub part : Tree
  pub whole : plug path part ≡ tree
  pub top : top_of part ≡ node
  pub leads : Leads id path
  pub above : parent_of path ≡ parent
  pub rests : RestsIn id part

pub sought-way : (tree : Tree) (id : ℕ) (parent : Option ℕ) (node : ℕ) → IsSought tree id parent node → IsOnWay tree id node
sought-way tree id parent node s = record { path = s.path; part = s.part; whole = s.whole; top = s.top; leads = s.leads }

pub record IsSearchStep (bytes : List ℕ) (id node child : ℕ) : Type 0 where
  pub sought : IsSought (tree_at bytes (root_of bytes)) id (Some node) child
  pub smaller : length (nodes_of (tree_at bytes child)) < length (nodes_of (tree_at bytes node))

seek_inner : (bytes : List ℕ) → Rooted bytes → (id node prefix key : ℕ) (first second : Tree) (path : Path)
    → plug path (Inner node prefix key first second) ≡ tree_at bytes (root_of bytes) → Leads id path
    → RestsIn id first ⊎ RestsIn id second
    → IsSearchStep bytes id node (child_towards id (record { prefix = prefix; key = key; first = top_of first; second = top_of second }))
seek_inner bytes r id node prefix key first second path whole leads (inl here) =
    let keys = agreed-part bytes r path (Inner node prefix key first second) whole in
    let begins : Begins prefix key 0 id = RestsIn-key (Begins prefix key 0) id first keys.0 here in
    let below = step-first bytes r id node prefix key first second path whole leads begins in
    subst (λ (n : ℕ). IsSearchStep bytes id node n)
    (sym (towards-first id prefix key (top_of first) (top_of second) (Begins-bit prefix key 0 id (omega arith) begins)))
    (record {
      sought = record { path = InFirst node prefix key second path; part = first; whole = whole; top = refl; leads = (begins, leads); above = refl; rests = here };
      smaller = below.smaller;
    })
seek_inner bytes r id node prefix key first second path whole leads (inr there) =
    let keys = agreed-part bytes r path (Inner node prefix key first second) whole in
    let begins : Begins prefix key 1 id = RestsIn-key (Begins prefix key 1) id second keys.1 there in
    let below = step-second bytes r id node prefix key first second path whole leads begins in
    subst (λ (n : ℕ). IsSearchStep bytes id node n)
    (sym (towards-second id prefix key (top_of first) (top_of second) (Begins-bit prefix key 1 id (omega arith) begins)))
    (record {
      sought = record { path = InSecond node prefix key first path; part = second; whole = whole; top = refl; leads = (begins, leads); above = refl; rests = there };
      smaller = below.smaller;
    })

seek_part : (bytes : List ℕ) → Rooted bytes → (id : ℕ) (branch : Branch) (part : Tree) (path : Path)
    → plug path part ≡ tree_at bytes (root_of bytes) → Leads id path → RestsIn id part → branch_of bytes (top_of part) ≡ Some branch
    → IsSearchStep bytes id (top_of part) (child_towards id branch)
seek_part bytes r id branch (Leaf node order) path whole leads rests is =
    absurd (none_some branch (sym (branch-leaf bytes node order (held-part bytes r path (Leaf node order) whole)) ∙ is))
seek_part bytes r id branch (Inner node prefix key first second) path whole leads rests is =
    let part : Tree = Inner node prefix key first second in
    let made : Branch = record { prefix = prefix; key = key; first = top_of first; second = top_of second } in
    let same : made ≡ branch = same_some made branch (sym (branch-inner bytes node prefix key first second (held-part bytes r path part whole)) ∙ is) in
    subst (λ (b : Branch). IsSearchStep bytes id node (child_towards id b)) same (seek_inner bytes r id node prefix key first second path whole leads rests)
seek_part bytes r id branch (Other node) path whole leads rests is = absurd rests

pub seek-step : (bytes : List ℕ) → Rooted bytes → (id : ℕ) (parent : Option ℕ) (node : ℕ) (branch : Branch)
    → IsSought (tree_at bytes (root_of bytes)) id parent node → branch_of bytes node ≡ Some branch → IsSearchStep bytes id node (child_towards id branch)
seek-step bytes r id parent node branch s is =
    subst (λ (n : ℕ). IsSearchStep bytes id n (child_towards id branch)) s.top
    (seek_part bytes r id branch s.part s.path s.whole s.leads s.rests (ap (branch_of bytes) s.top ∙ is))

seek_end_part : (bytes : List ℕ) → Rooted bytes → (id : ℕ) (part : Tree) (path : Path) (parent : Option ℕ)
    → plug path part ≡ tree_at bytes (root_of bytes) → Leads id path → parent_of path ≡ parent → RestsIn id part → branch_of bytes (top_of part) ≡ None
    → IsFound (tree_at bytes (root_of bytes)) id parent (top_of part)
seek_end_part bytes r id (Leaf node order) path parent whole leads above rests none =
    record { path = path; order = order; whole = whole; same = rests; leads = leads; above = above }
seek_end_part bytes r id (Inner node prefix key first second) path parent whole leads above rests none =
    let made : Branch = record { prefix = prefix; key = key; first = top_of first; second = top_of second } in
    absurd (none_some made (sym none ∙ branch-inner bytes node prefix key first second (held-part bytes r path (Inner node prefix key first second) whole)))
seek_end_part bytes r id (Other node) path parent whole leads above rests none = absurd rests

-- at a node that is no inner node the search ends
pub seek-end : (bytes : List ℕ) → Rooted bytes → (id : ℕ) (parent : Option ℕ) (node : ℕ)
    → IsSought (tree_at bytes (root_of bytes)) id parent node → branch_of bytes node ≡ None → IsFound (tree_at bytes (root_of bytes)) id parent node
seek-end bytes r id parent node s none =
    subst (λ (n : ℕ). IsFound (tree_at bytes (root_of bytes)) id parent n) s.top
    (seek_end_part bytes r id s.part s.path parent s.whole s.leads s.above s.rests (ap (branch_of bytes) s.top ∙ none))
