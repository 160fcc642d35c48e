-- An order that leaves a side, from the bytes of each write.
use Rattle.std.proofs.Common.{◌≡◌, ◌≢◌, ℕ, ◌+◌, ◌≤◌, List, [], ◌∷◌, Some, sym, ap, ◌∙◌, arith}
use Rattle.std.proofs.lemmas.Bool.{eq-eqb, ne_eqb}
use Rattle.dex_types.specs.declared.orders.Order.{Order}
use Rattle.dex_slab.specs.Held.{Holds, IsInner}
use Rattle.dex_slab.specs.Nodes.{first_child_of, node_bytes}
use Rattle.dex_slab.specs.Path.{Path, Root, InFirst, InSecond, plug, top_of}
use Rattle.dex_slab.specs.Slab.{same, times}
use Rattle.dex_slab.specs.Tree.{Tree, Leaf, Inner, nodes_of}
use Rattle.dex_slab.specs.Walks.{parent_of, sibling_of}
use Rattle.dex_slab.proofs.Holding.{AreSame, Holds-part, Holds-plug, top-met}
use Rattle.dex_slab.proofs.Leaving.{beside, left}
use Rattle.dex_slab.proofs.Plugs.{path_nodes, times-plug}
use Rattle.dex_slab.proofs.Retop.{Holds-retop, nodes-top, rest_of, retop, top-retop}
use Rattle.dex_slab.proofs.Somes.{none_some, same_some}
use Rattle.dex_slab.proofs.Times.{times-append}

-- the bytes hold what is left where the sibling was copied and all that stays is as before
pub holds_left : (old new : List ℕ) (leaf parent : ℕ) (order : Order) (path : Path) → parent_of path ≡ Some parent → Holds old (plug path (Leaf leaf order))
    → node_bytes new parent ≡ node_bytes old (top_of (beside path))
    → ((n : ℕ) → n ≢ parent → n ≢ leaf → n ≢ top_of (beside path) → node_bytes new n ≡ node_bytes old n)
    → ((n : ℕ) → times n (nodes_of (plug path (Leaf leaf order))) ≤ 1)
    → Holds new (left path)
holds_left old new leaf parent order Root above held copied kept once = absurd (none_some parent above)
holds_left old new leaf parent order (InFirst node prefix key second up) above held copied kept once =
    let part : Tree = Inner node prefix key (Leaf leaf order) second in
    let here : node ≡ parent = same_some node parent above in
    let below = Holds-part old up part held in
    let single : (n : ℕ) → same node n + same leaf n + same (top_of second) n + times n (rest_of second) + times n (path_nodes up) ≤ 1
    = (λ n. omega (arith, once n, times-plug n up part, ap (times n) (nodes-top second))) in
    let rest_same : AreSame (rest_of second) old new =
    (λ n met. kept n (λ e. absurd (omega (arith, single n))) (λ e. absurd (omega (arith, single n))) (λ e. absurd (omega (arith, single n)))) in
    let path_same : AreSame (path_nodes up) old new =
    (λ n met. kept n (λ e. absurd (omega (arith, single n))) (λ e. absurd (omega (arith, single n))) (λ e. absurd (omega (arith, single n)))) in
    Holds-plug old new up part (retop node second) held
    (Holds-retop node old new second below.2 (ap (node_bytes new) here ∙ copied) rest_same) (top-retop node second) path_same
holds_left old new leaf parent order (InSecond node prefix key first up) above held copied kept once =
    let part : Tree = Inner node prefix key first (Leaf leaf order) in
    let here : node ≡ parent = same_some node parent above in
    let below = Holds-part old up part held in
    let single : (n : ℕ) → same node n + same leaf n + same (top_of first) n + times n (rest_of first) + times n (path_nodes up) ≤ 1
    = (λ n. omega (arith, once n, times-plug n up part, ap (times n) (nodes-top first), times-append n (nodes_of first) (leaf ∷ []))) in
    let rest_same : AreSame (rest_of first) old new =
    (λ n met. kept n (λ e. absurd (omega (arith, single n))) (λ e. absurd (omega (arith, single n))) (λ e. absurd (omega (arith, single n)))) in
    let path_same : AreSame (path_nodes up) old new =
    (λ n met. kept n (λ e. absurd (omega (arith, single n))) (λ e. absurd (omega (arith, single n))) (λ e. absurd (omega (arith, single n)))) in
    Holds-plug old new up part (retop node first) held
    (Holds-retop node old new first below.1 (ap (node_bytes new) here ∙ copied) rest_same) (top-retop node first) path_same

-- the sibling, as it is read
pub sibling_is : (bytes : List ℕ) (leaf parent : ℕ) (order : Order) (path : Path) → parent_of path ≡ Some parent → Holds bytes (plug path (Leaf leaf order))
    → ((n : ℕ) → times n (nodes_of (plug path (Leaf leaf order))) ≤ 1) → sibling_of bytes parent leaf ≡ top_of (beside path)
sibling_is bytes leaf parent order Root above held once = absurd (none_some parent above)
sibling_is bytes leaf parent order (InFirst node prefix key second up) above held once =
    let here : node ≡ parent = same_some node parent above in
    let inner : IsInner (node_bytes bytes node) prefix key leaf (top_of second) = (Holds-part bytes up (Inner node prefix key (Leaf leaf order) second) held).0 in
    ap (λ (n : ℕ). sibling_of bytes n leaf) (sym here) ∙ first_read inner where
      first_read : IsInner (node_bytes bytes node) prefix key leaf (top_of second) → sibling_of bytes node leaf ≡ top_of second
      first_read inner = rw (eq-eqb (first_child_of bytes node) leaf inner.firsts) inner.seconds
sibling_is bytes leaf parent order (InSecond node prefix key first up) above held once =
    let here : node ≡ parent = same_some node parent above in
    let part : Tree = Inner node prefix key first (Leaf leaf order) in
    let inner : IsInner (node_bytes bytes node) prefix key (top_of first) leaf = (Holds-part bytes up part held).0 in
    let other : top_of first ≢ leaf = (λ e. absurd (omega (arith, once (top_of first), times-plug (top_of first) up part, times-append (top_of first) (nodes_of first) (leaf ∷ []), top-met first))) in
    ap (λ (n : ℕ). sibling_of bytes n leaf) (sym here) ∙ second_read inner other where
      second_read : IsInner (node_bytes bytes node) prefix key (top_of first) leaf → top_of first ≢ leaf → sibling_of bytes node leaf ≡ top_of first
      second_read inner other = rw (ne_eqb (first_child_of bytes node) leaf (λ e. other (sym inner.firsts ∙ e))) inner.firsts
