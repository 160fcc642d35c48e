-- The part of a tree below a node: a leaf, or an inner node with two parts.
use Rattle.std.proofs.Common.{◌≡◌, ℕ, suc, ◌<◌, ◌≤◌, List, [], ◌++◌, length, Some, None, sym, ap, ◌∙◌, subst, arith, length-append}
use Rattle.std.proofs.lemmas.Bool.{cond-true, cond-false, eq-eqb, ne_eqb}
use Rattle.dex_fields.specs.Bytes.{end_of}
use Rattle.dex_types.specs.declared.orders.Order.{Order}
use Rattle.dex_types.specs.declared.terms.Side.{Side}
use Rattle.dex_types.specs.declared.terms.Side.TheVariants.{Bid, Ask}
use Rattle.dex_types.specs.Side.{by_side}
use Rattle.dex_slab.specs.declared.nodes.Branch.{Branch}
use Rattle.dex_slab.specs.Below.{IsPart}
use Rattle.dex_slab.specs.Walks.{tree_at}
use Rattle.dex_slab.specs.Held.{IsInner, IsLeaf}
use Rattle.dex_slab.specs.Nodes.{branch_of, first_child_of, key_of, node_bytes, node_field, order_of, second_child_of, tag_of}
use Rattle.dex_slab.specs.Path.{top_of}
use Rattle.dex_slab.specs.Slab.{times}
use Rattle.dex_slab.specs.Tree.{Tree, Leaf, Inner, Other, nodes_of}
use Rattle.dex_slab.proofs.Holding.{top-tree_from, tree_from-held}
use Rattle.dex_slab.proofs.Times.{times-append, times-some}

-- the part is what is below its top
pub below-top : (bytes : List ℕ) (t : Tree) → IsPart bytes t → tree_at bytes (top_of t) ≡ t
below-top bytes t part = tree_from-held 129 bytes t part.least part.held part.prefixes part.low (omega arith)

pub top-below : (bytes : List ℕ) (node : ℕ) → top_of (tree_at bytes node) ≡ node
top-below bytes node = top-tree_from 129 bytes node

-- the parts below an inner node are parts
pub part-first : (bytes : List ℕ) (node prefix key : ℕ) (first second : Tree) → IsPart bytes (Inner node prefix key first second) → IsPart bytes first
part-first bytes node prefix key first second part = record {
  least = suc prefix;
  low = omega (arith, part.prefixes.1);
  held = part.held.1;
  prefixes = part.prefixes.2;
  keys = part.keys.2;
  inside = λ n met. part.inside n (omega (arith, times-append n (nodes_of first) (nodes_of second)));
}

pub part-second : (bytes : List ℕ) (node prefix key : ℕ) (first second : Tree) → IsPart bytes (Inner node prefix key first second) → IsPart bytes second
part-second bytes node prefix key first second part = record {
  least = suc prefix;
  low = omega (arith, part.prefixes.1);
  held = part.held.2;
  prefixes = part.prefixes.3;
  keys = part.keys.3;
  inside = λ n met. part.inside n (omega (arith, times-append n (nodes_of first) (nodes_of second)));
}

-- the top of a part stands within the bytes
times-top : (t : Tree) → 1 ≤ times (top_of t) (nodes_of t)
times-top (Leaf node order) = times-some node []
times-top (Inner node prefix key first second) = times-some node (nodes_of first ++ nodes_of second)
times-top (Other node) = times-some node []

pub inside-top : (bytes : List ℕ) (t : Tree) → IsPart bytes t → end_of (node_field (top_of t)) ≤ length bytes
inside-top bytes t part = omega (arith, part.inside (top_of t) (times-top t))

pub inside-below : (bytes : List ℕ) (node : ℕ) → IsPart bytes (tree_at bytes node) → end_of (node_field node) ≤ length bytes
inside-below bytes node part = subst (λ n. end_of (node_field n) ≤ length bytes) (top-below bytes node) (inside-top bytes (tree_at bytes node) part)

-- a part is an inner node that says this, with two parts below
pub record IsBranch (bytes : List ℕ) (t : Tree) (branch : Branch) : Type 0 where
  pub is : t ≡ Inner (top_of t) branch.prefix branch.key (tree_at bytes branch.first) (tree_at bytes branch.second)
  pub prefix_is : branch.prefix < 128
  pub first_part : IsPart bytes (tree_at bytes branch.first)
  pub second_part : IsPart bytes (tree_at bytes branch.second)

branch-inner : (bytes : List ℕ) (node prefix key : ℕ) (first second : Tree) → IsPart bytes (Inner node prefix key first second)
    → IsBranch bytes (Inner node prefix key first second) (record { prefix = prefix; key = key; first = top_of first; second = top_of second })
branch-inner bytes node prefix key first second part =
    let one = part-first bytes node prefix key first second part in
    let two = part-second bytes node prefix key first second part in
    let first_is = below-top bytes first one in
    let second_is = below-top bytes second two in record {
      is = ap (λ (t : Tree). Inner node prefix key t second) (sym first_is) ∙ ap (λ (t : Tree). Inner node prefix key (tree_at bytes (top_of first)) t) (sym second_is);
      prefix_is = part.prefixes.1;
      first_part = subst (IsPart bytes) (sym first_is) one;
      second_part = subst (IsPart bytes) (sym second_is) two;
    }

-- so says an inner node, and none else says anything
said-inner : (bytes : List ℕ) (node prefix key : ℕ) (first second : Tree) → IsInner (node_bytes bytes node) prefix key (top_of first) (top_of second)
    → branch_of bytes node ≡ Some (record { prefix = prefix; key = key; first = top_of first; second = top_of second })
said-inner bytes node prefix key first second held =
    let tag : tag_of bytes node ≡ 1 = held.tag in
    cond-true _ _ _ (eq-eqb (tag_of bytes node) 1 tag)
    ∙ ap (λ n. Some (record { prefix = n; key = key_of bytes node; first = first_child_of bytes node; second = second_child_of bytes node })) held.prefixes
    ∙ ap (λ n. Some (record { prefix = prefix; key = n; first = first_child_of bytes node; second = second_child_of bytes node })) held.keys
    ∙ ap (λ n. Some (record { prefix = prefix; key = key; first = n; second = second_child_of bytes node })) held.firsts
    ∙ ap (λ n. Some (record { prefix = prefix; key = key; first = top_of first; second = n })) held.seconds

said-leaf : (bytes : List ℕ) (node : ℕ) (order : Order) → IsLeaf (node_bytes bytes node) order → branch_of bytes node ≡ None
said-leaf bytes node order held =
    let tag : tag_of bytes node ≡ 2 = held.tag in
    cond-false _ _ _ (ne_eqb (tag_of bytes node) 1 (λ same. omega arith))

branch-part : (bytes : List ℕ) (t : Tree) (branch : Branch) → IsPart bytes t → branch_of bytes (top_of t) ≡ Some branch → IsBranch bytes t branch
branch-part bytes (Leaf node order) branch part said = absurd (let none = said-leaf bytes node order part.held in cc)
branch-part bytes (Inner node prefix key first second) branch part said =
    let same = said-inner bytes node prefix key first second part.held.0 in
    let is : record { prefix = prefix; key = key; first = top_of first; second = top_of second } ≡ branch = cc in
    subst (IsBranch bytes (Inner node prefix key first second)) is (branch-inner bytes node prefix key first second part)
branch-part bytes (Other node) branch part said = absurd part.held

leaf-part : (bytes : List ℕ) (t : Tree) → IsPart bytes t → branch_of bytes (top_of t) ≡ None → t ≡ Leaf (top_of t) (order_of bytes (top_of t))
leaf-part bytes (Leaf node order) part none = ap (λ (o : Order). Leaf node o) (sym part.held.said)
leaf-part bytes (Inner node prefix key first second) part none = absurd (let said = said-inner bytes node prefix key first second part.held.0 in cc)
leaf-part bytes (Other node) part none = absurd part.held

-- what is below a node, by what the node says
pub branch-below : (bytes : List ℕ) (node : ℕ) (branch : Branch) → IsPart bytes (tree_at bytes node) → branch_of bytes node ≡ Some branch
    → IsBranch bytes (tree_at bytes node) branch
branch-below bytes node branch part said = branch-part bytes (tree_at bytes node) branch part (ap (branch_of bytes) (top-below bytes node) ∙ said)

pub leaf-below : (bytes : List ℕ) (node : ℕ) → IsPart bytes (tree_at bytes node) → branch_of bytes node ≡ None → tree_at bytes node ≡ Leaf node (order_of bytes node)
leaf-below bytes node part none =
    leaf-part bytes (tree_at bytes node) part (ap (branch_of bytes) (top-below bytes node) ∙ none) ∙ ap (λ n. Leaf n (order_of bytes n)) (top-below bytes node)

-- fewer nodes are below each child
pub nodes-first : (bytes : List ℕ) (t : Tree) (branch : Branch) → IsBranch bytes t branch → length (nodes_of (tree_at bytes branch.first)) < length (nodes_of t)
nodes-first bytes t branch b =
    omega (arith, ap (λ u. length (nodes_of u)) b.is, length-append (nodes_of (tree_at bytes branch.first)) (nodes_of (tree_at bytes branch.second)))

pub nodes-second : (bytes : List ℕ) (t : Tree) (branch : Branch) → IsBranch bytes t branch → length (nodes_of (tree_at bytes branch.second)) < length (nodes_of t)
nodes-second bytes t branch b =
    omega (arith, ap (λ u. length (nodes_of u)) b.is, length-append (nodes_of (tree_at bytes branch.first)) (nodes_of (tree_at bytes branch.second)))

-- the near child is a part
pub part-near : (bytes : List ℕ) (side : Side) (t : Tree) (branch : Branch) → IsBranch bytes t branch → IsPart bytes (tree_at bytes (by_side side branch.second branch.first))
part-near bytes Bid t branch b = b.second_part
part-near bytes Ask t branch b = b.first_part

pub nodes-near : (bytes : List ℕ) (side : Side) (t : Tree) (branch : Branch) → IsBranch bytes t branch
    → length (nodes_of (tree_at bytes (by_side side branch.second branch.first))) < length (nodes_of t)
nodes-near bytes Bid t branch b = nodes-second bytes t branch b
nodes-near bytes Ask t branch b = nodes-first bytes t branch b

-- a node that is not a leaf says a prefix of fewer than 128 bits
pub prefix-below : (bytes : List ℕ) (node : ℕ) (branch : Branch) → IsPart bytes (tree_at bytes node) → branch_of bytes node ≡ Some branch → branch.prefix < 128
prefix-below bytes node branch part said = (branch-below bytes node branch part said).prefix_is
