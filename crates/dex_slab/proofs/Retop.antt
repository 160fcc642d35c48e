-- A tree whose topmost node was moved to another place.
use Rattle.std.proofs.Common.{◌≡◌, ℕ, List, [], ◌∷◌, ◌++◌, refl, sym, subst}
use Rattle.dex_types.specs.declared.terms.Side.{Side}
use Rattle.dex_types.specs.declared.terms.Side.TheVariants.{Bid, Ask}
use Rattle.dex_slab.specs.Held.{Holds, IsInner, IsLeaf}
use Rattle.dex_slab.specs.Nodes.{node_bytes}
use Rattle.dex_slab.specs.Path.{top_of}
use Rattle.dex_slab.specs.Tree.{Tree, Leaf, Inner, Other, AllKeys, CanAllRest, HasPrefixes, IsKnown, KeysAgree, leaves_of, nodes_of, orders_of}
use Rattle.dex_slab.proofs.Holding.{AreSame, AreSame-back, AreSame-front, Holds-same}

-- the tree with this number at its top
abbrev pub retop : ℕ → Tree → Tree
retop to (Leaf node order) = Leaf to order
retop to (Inner node prefix key first second) = Inner to prefix key first second
retop to (Other node) = Other to

-- the nodes below the top
abbrev pub rest_of : Tree → List ℕ
rest_of (Leaf node order) = []
rest_of (Inner node prefix key first second) = nodes_of first ++ nodes_of second
rest_of (Other node) = []

module _ (to : ℕ) where
  pub top-retop : (t : Tree) → top_of (retop to t) ≡ to
  top-retop (Leaf node order) = refl
  top-retop (Inner node prefix key first second) = refl
  top-retop (Other node) = refl

  pub known-retop : (t : Tree) → IsKnown t → IsKnown (retop to t)
  known-retop (Leaf node order) h = h
  known-retop (Inner node prefix key first second) h = h
  known-retop (Other node) h = h

  pub rest-retop : (t : Tree) → CanAllRest t → CanAllRest (retop to t)
  rest-retop (Leaf node order) h = h
  rest-retop (Inner node prefix key first second) h = h
  rest-retop (Other node) h = h

  pub prefixes-retop : (least : ℕ) (t : Tree) → HasPrefixes least t → HasPrefixes least (retop to t)
  prefixes-retop least (Leaf node order) h = h
  prefixes-retop least (Inner node prefix key first second) h = h
  prefixes-retop least (Other node) h = h

  pub keys-retop : (Fact : ℕ → Type 0) (t : Tree) → AllKeys Fact t → AllKeys Fact (retop to t)
  keys-retop Fact (Leaf node order) h = h
  keys-retop Fact (Inner node prefix key first second) h = h
  keys-retop Fact (Other node) h = h

  pub agree-retop : (t : Tree) → KeysAgree t → KeysAgree (retop to t)
  agree-retop (Leaf node order) h = h
  agree-retop (Inner node prefix key first second) h = h
  agree-retop (Other node) h = h

  pub orders-retop : (side : Side) (t : Tree) → orders_of side (retop to t) ≡ orders_of side t
  orders-retop side (Leaf node order) = refl
  orders-retop Bid (Inner node prefix key first second) = refl
  orders-retop Ask (Inner node prefix key first second) = refl
  orders-retop side (Other node) = refl

  pub leaves-retop : (t : Tree) → leaves_of (retop to t) ≡ leaves_of t
  leaves-retop (Leaf node order) = refl
  leaves-retop (Inner node prefix key first second) = refl
  leaves-retop (Other node) = refl

  pub nodes-retop : (t : Tree) → nodes_of (retop to t) ≡ to ∷ rest_of t
  nodes-retop (Leaf node order) = refl
  nodes-retop (Inner node prefix key first second) = refl
  nodes-retop (Other node) = refl

  -- the node was copied, and those below it stay
  pub Holds-retop : (old new : List ℕ) (t : Tree) → Holds old t → node_bytes new to ≡ node_bytes old (top_of t) → AreSame (rest_of t) old new → Holds new (retop to t)
  Holds-retop old new (Leaf node order) h copied kept = subst (λ (l : List ℕ). IsLeaf l order) (sym copied) h
  Holds-retop old new (Inner node prefix key first second) h copied kept = (
    subst (λ (l : List ℕ). IsInner l prefix key (top_of first) (top_of second)) (sym copied) h.0,
    Holds-same old new first h.1 (AreSame-front (nodes_of first) (nodes_of second) old new kept),
    Holds-same old new second h.2 (AreSame-back (nodes_of first) (nodes_of second) old new kept),
  )
  Holds-retop old new (Other node) h copied kept = h

pub nodes-top : (t : Tree) → nodes_of t ≡ top_of t ∷ rest_of t
nodes-top (Leaf node order) = refl
nodes-top (Inner node prefix key first second) = refl
nodes-top (Other node) = refl
