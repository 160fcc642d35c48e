-- A tree keeps its rules where its first node does, and the trees below it do.
use Rattle.std.proofs.Common.{◌≡◌, ℕ, zero, suc, ◌+◌, ◌-◌, ◌<◌, ◌≤◌, ◌⊎◌, inl, inr, List, ◌∷◌, ◌++◌, length, length-append, refl, sym, subst, arith}
use Rattle.std.proofs.lemmas.Bool.{cases_lt}
use Rattle.std.proofs.lemmas.Bool.Decides.{eqb_tells}
use Rattle.dex_types.specs.declared.orders.Order.{Order}
use Rattle.dex_slab_check.specs.declared.slab_fault.SlabFault.{SlabFault}
use Rattle.dex_slab_check.specs.Checked.{AreBelow, AreMetOnce, IsSizedTree, IsSoundChild, IsSoundNode, IsSoundTree}
use Rattle.dex_slab_check.specs.Faults.{BreaksAmong, BreaksAt, BreaksChild, BreaksNode}
use Rattle.dex_slab.specs.Nodes.{bump_of, first_child_of, key_of, order_of, prefix_of, second_child_of, tag_of}
use Rattle.dex_slab.specs.Slab.{times}
use Rattle.dex_slab.specs.Tree.{AllKeys, Begins, HasPrefixes, Inner, IsKnown, KeysAgree, Leaf, Other, Tree, nodes_of, tree_from}
use Rattle.dex_slab.specs.Path.{top_of}
use Rattle.dex_slab.proofs.Holding.{top-met, top-tree_from, tree_from-inner, tree_from-leaf}
use Rattle.dex_slab_check.proofs.OnceLaws.{length-once, met_cases}
use Rattle.dex_slab_check.proofs.PrefixLaws.{Begins-above, one_bit}
use Rattle.dex_slab.proofs.Times.{times-append}
use Rattle.dex_slab_check.proofs.TreeLaws.{IsOf, is_of, key_at, only, order_key, prefix_at}

-- what holds of each of some keys holds of all of them
AllKeys-weaker : (P Q : ℕ → Type 0) → ((key : ℕ) → P key → Q key) → (t : Tree) → AllKeys P t → AllKeys Q t
AllKeys-weaker P Q weaker (Leaf node order) all = weaker order.id all
AllKeys-weaker P Q weaker (Inner node prefix key first second) all =
    (weaker key all.0, AllKeys-weaker P Q weaker first all.1, AllKeys-weaker P Q weaker second all.2)
AllKeys-weaker P Q weaker (Other node) all = tt

-- the keys of a tree begin as its first node's key does, up to that node's prefix
all_keys : (bytes : List ℕ) (prefix other bit : ℕ) (t : Tree) → IsOf bytes t → IsKnown t → HasPrefixes (suc prefix) t → KeysAgree t
    → Begins prefix other bit (key_of bytes (top_of t)) → AllKeys (Begins prefix other bit) t
all_keys bytes prefix other bit (Leaf node order) of known prefixes keys begins =
    subst (λ (o : Order). Begins prefix other bit o.id) (sym of.1) (subst (Begins prefix other bit) (sym (order_key bytes node)) begins)
all_keys bytes prefix other bit (Inner node longer key first second) of known prefixes keys begins =
    let here : Begins prefix other bit key = subst (Begins prefix other bit) (sym of.2) begins in
    let lt : prefix < longer = let least = prefixes.0 in omega arith in (
      here,
      AllKeys-weaker (Begins longer key 0) (Begins prefix other bit) (λ k lower. Begins-above prefix other bit longer key 0 k lt prefixes.1 (omega arith) here lower) first keys.0,
      AllKeys-weaker (Begins longer key 1) (Begins prefix other bit) (λ k lower. Begins-above prefix other bit longer key 1 k lt prefixes.1 (omega arith) here lower) second keys.1,
    )
all_keys bytes prefix other bit (Other node) of known prefixes keys begins = absurd known

-- ---- a leaf

sound_leaf : (bytes : List ℕ) (node : ℕ) → IsSoundNode bytes node → tag_of bytes node ≡ 2 → IsSoundTree bytes node (Leaf node (order_of bytes node))
sound_leaf bytes node sound leaf = record {
  known = tt;
  prefixes = λ least short. tt;
  keys = tt;
  can_rest = sound.can_rest leaf;
  below = λ x at. subst (λ n. n < bump_of bytes) (only x node at) sound.below;
  once = λ x. omega arith;
}

pub sized_leaf : (steps : ℕ) (bytes : List ℕ) (node : ℕ) → 1 ≤ steps → IsSoundNode bytes node → tag_of bytes node ≡ 2
    → IsSizedTree bytes node (tree_from steps bytes node) 1 1
sized_leaf zero bytes node some sound leaf = absurd (omega arith)
sized_leaf (suc s) bytes node some sound leaf =
    subst (λ t. IsSizedTree bytes node t 1 1) (sym (tree_from-leaf s bytes node leaf)) record {
      sound = sound_leaf bytes node sound leaf;
      is_size = refl;
      is_leaves = refl;
      few = omega arith;
      fewer = omega arith;
    }

-- ---- an inner node

-- the parts of a tree that begins at an inner node
record AreParts (bytes : List ℕ) (node : ℕ) (first second : Tree) : Type 0 where
  sound : IsSoundNode bytes node
  inner : tag_of bytes node ≡ 1
  first_of : IsOf bytes first
  second_of : IsOf bytes second
  first_at : top_of first ≡ first_child_of bytes node
  second_at : top_of second ≡ second_child_of bytes node
  first_child : IsSoundChild bytes node 0 (first_child_of bytes node)
  second_child : IsSoundChild bytes node 1 (second_child_of bytes node)
  first_sound : IsSoundTree bytes (first_child_of bytes node) first
  second_sound : IsSoundTree bytes (second_child_of bytes node) second

first_prefixes : (bytes : List ℕ) (node : ℕ) (first second : Tree) → AreParts bytes node first second → HasPrefixes (suc (prefix_of bytes node)) first
first_prefixes bytes node first second parts =
    parts.first_sound.prefixes (suc (prefix_of bytes node)) (λ inner. let grows = parts.first_child.grows inner in omega arith)

second_prefixes : (bytes : List ℕ) (node : ℕ) (first second : Tree) → AreParts bytes node first second
    → HasPrefixes (suc (prefix_of bytes node)) second
second_prefixes bytes node first second parts =
    parts.second_sound.prefixes (suc (prefix_of bytes node)) (λ inner. let grows = parts.second_child.grows inner in omega arith)

first_keys : (bytes : List ℕ) (node : ℕ) (first second : Tree) → AreParts bytes node first second
    → AllKeys (Begins (prefix_of bytes node) (key_of bytes node) 0) first
first_keys bytes node first second parts =
    all_keys bytes (prefix_of bytes node) (key_of bytes node) 0 first parts.first_of parts.first_sound.known (first_prefixes bytes node first second parts)
    parts.first_sound.keys (subst (λ n. Begins (prefix_of bytes node) (key_of bytes node) 0 (key_of bytes n)) (sym parts.first_at) parts.first_child.key)

second_keys : (bytes : List ℕ) (node : ℕ) (first second : Tree) → AreParts bytes node first second
    → AllKeys (Begins (prefix_of bytes node) (key_of bytes node) 1) second
second_keys bytes node first second parts =
    all_keys bytes (prefix_of bytes node) (key_of bytes node) 1 second parts.second_of parts.second_sound.known (second_prefixes bytes node first second parts)
    parts.second_sound.keys (subst (λ n. Begins (prefix_of bytes node) (key_of bytes node) 1 (key_of bytes n)) (sym parts.second_at) parts.second_child.key)

-- no node is met twice: an inner node is not below itself, since the prefixes there are longer, and no node is below
-- both children, since its key has one bit next
module _ (bytes : List ℕ) (node : ℕ) (first second : Tree) (parts : AreParts bytes node first second) where
  not_below : (t : Tree) → IsOf bytes t → IsKnown t → HasPrefixes (suc (prefix_of bytes node)) t → times node (nodes_of t) ≡ 0
  not_below t of known prefixes =
      elim (cases_lt 0 (times node (nodes_of t))) [
        | inl at ↦ absurd (let longer = prefix_at bytes (suc (prefix_of bytes node)) t node of known prefixes at parts.inner in omega arith)
        | inr none ↦ omega arith
      ]

  not_both : (x : ℕ) → 1 ≤ times x (nodes_of first) → 1 ≤ times x (nodes_of second) → ⊥
  not_both x left right =
      let prefix : ℕ = prefix_of bytes node in
      let key : ℕ = key_of bytes node in
      one_bit prefix key (key_of bytes x)
      (key_at (Begins prefix key 0) bytes first x parts.first_of parts.first_sound.known (first_keys bytes node first second parts) left)
      (key_at (Begins prefix key 1) bytes second x parts.second_of parts.second_sound.known (second_keys bytes node first second parts) right)

  inner_once : AreMetOnce (node ∷ (nodes_of first ++ nodes_of second))
  inner_once x =
      let sum = times-append x (nodes_of first) (nodes_of second) in
      let left = parts.first_sound.once x in
      let right = parts.second_sound.once x in
      elim (eqb_tells node x) [
        | inl here ↦
            let none_left = not_below first parts.first_of parts.first_sound.known (first_prefixes bytes node first second parts) in
            let none_right = not_below second parts.second_of parts.second_sound.known (second_prefixes bytes node first second parts) in
            subst (λ n. times n (node ∷ (nodes_of first ++ nodes_of second)) ≤ 1) here.1 (omega (arith, times-append node (nodes_of first) (nodes_of second)))
        | inr not ↦ elim (cases_lt 0 (times x (nodes_of first))) [
          | inl in_left ↦ elim (cases_lt 0 (times x (nodes_of second))) [
            | inl in_right ↦ absurd (not_both x in_left in_right)
            | inr none ↦ omega (arith, not.1)
          ]
          | inr none ↦ omega (arith, not.1)
        ]
      ]

  inner_below : AreBelow bytes (node ∷ (nodes_of first ++ nodes_of second))
  inner_below x at =
      elim (met_cases x node (nodes_of first) (nodes_of second) at) [
        | inl here ↦ subst (λ n. n < bump_of bytes) here parts.sound.below
        | inr below ↦ elim below [
          | inl left ↦ parts.first_sound.below x left
          | inr right ↦ parts.second_sound.below x right
        ]
      ]

  sound_inner : IsSoundTree bytes node (Inner node (prefix_of bytes node) (key_of bytes node) first second)
  sound_inner = record {
    known = (parts.first_sound.known, parts.second_sound.known);
    prefixes = λ least at_least.
        (at_least parts.inner, parts.sound.short parts.inner, first_prefixes bytes node first second parts, second_prefixes bytes node first second parts);
    keys = (first_keys bytes node first second parts, second_keys bytes node first second parts, parts.first_sound.keys, parts.second_sound.keys);
    can_rest = (parts.first_sound.can_rest, parts.second_sound.can_rest);
    below = inner_below;
    once = inner_once;
  }

sized_parts : (bytes : List ℕ) (node : ℕ) (first second : Tree) (left_size left_leaves right_size right_leaves : ℕ) → bump_of bytes ≤ 65536
    → AreParts bytes node first second
    → IsSizedTree bytes (first_child_of bytes node) first left_size left_leaves
    → IsSizedTree bytes (second_child_of bytes node) second right_size right_leaves
    → IsSizedTree bytes node (Inner node (prefix_of bytes node) (key_of bytes node) first second) (left_size + right_size + 1) (left_leaves + right_leaves)
sized_parts bytes node first second left_size left_leaves right_size right_leaves few parts left right =
    let tree : Tree = Inner node (prefix_of bytes node) (key_of bytes node) first second in
    let sound : IsSoundTree bytes node tree = sound_inner bytes node first second parts in
    let nodes = length-append (nodes_of first) (nodes_of second) in
    let size : left_size + right_size + 1 ≡ length (nodes_of tree) = omega (arith, left.is_size, right.is_size, nodes) in
    record {
      sound = sound;
      is_size = size;
      is_leaves = omega (arith, left.is_leaves, right.is_leaves);
      few = omega (arith, length-once (nodes_of tree) (bump_of bytes) sound.once sound.below, size, few);
      fewer = omega (arith, left.fewer, right.fewer);
    }

pub sized_inner : (steps : ℕ) (bytes : List ℕ) (node left_size left_leaves right_size right_leaves : ℕ) → 1 ≤ steps → bump_of bytes ≤ 65536
    → IsSoundNode bytes node → tag_of bytes node ≡ 1
    → IsSoundChild bytes node 0 (first_child_of bytes node) → IsSoundChild bytes node 1 (second_child_of bytes node)
    → IsSizedTree bytes (first_child_of bytes node) (tree_from (steps - 1) bytes (first_child_of bytes node)) left_size left_leaves
    → IsSizedTree bytes (second_child_of bytes node) (tree_from (steps - 1) bytes (second_child_of bytes node)) right_size right_leaves
    → IsSizedTree bytes node (tree_from steps bytes node) (left_size + right_size + 1) (left_leaves + right_leaves)
sized_inner zero bytes node left_size left_leaves right_size right_leaves some few sound inner first second left right = absurd (omega arith)
sized_inner (suc s) bytes node left_size left_leaves right_size right_leaves some few sound inner first second left right =
    let same : suc s - 1 ≡ s = omega arith in
    let left' = subst (λ k. IsSizedTree bytes (first_child_of bytes node) (tree_from k bytes (first_child_of bytes node)) left_size left_leaves) same left in
    let right' = subst (λ k. IsSizedTree bytes (second_child_of bytes node) (tree_from k bytes (second_child_of bytes node)) right_size right_leaves) same right in
    subst (λ t. IsSizedTree bytes node t (left_size + right_size + 1) (left_leaves + right_leaves)) (sym (tree_from-inner s bytes node inner))
    (sized_parts bytes node (tree_from s bytes (first_child_of bytes node)) (tree_from s bytes (second_child_of bytes node)) left_size left_leaves right_size right_leaves few
    record {
      sound = sound;
      inner = inner;
      first_of = is_of s bytes (first_child_of bytes node);
      second_of = is_of s bytes (second_child_of bytes node);
      first_at = top-tree_from s bytes (first_child_of bytes node);
      second_at = top-tree_from s bytes (second_child_of bytes node);
      first_child = first;
      second_child = second;
      first_sound = left'.sound;
      second_sound = right'.sound;
    }
    left' right')

-- ---- where a rule is broken

-- what is broken at a node of some nodes is broken among more of them
among_more : (bytes xs ys : List ℕ) (fault : SlabFault) → ((x : ℕ) → 1 ≤ times x xs → 1 ≤ times x ys) → BreaksAmong bytes xs fault
    → BreaksAmong bytes ys fault
among_more bytes xs ys fault more (node, at, breaks) = (node, more node at, breaks)

-- a node is the first of its tree
root_at : (steps : ℕ) (bytes : List ℕ) (node : ℕ) → 1 ≤ times node (nodes_of (tree_from steps bytes node))
root_at steps bytes node =
    subst (λ n. 1 ≤ times n (nodes_of (tree_from steps bytes node))) (top-tree_from steps bytes node) (top-met (tree_from steps bytes node))

pub among_here : (steps : ℕ) (bytes : List ℕ) (node : ℕ) (fault : SlabFault) → BreaksAt bytes node fault
    → BreaksAmong bytes (nodes_of (tree_from steps bytes node)) fault
among_here steps bytes node fault breaks = (node, root_at steps bytes node, breaks)

pub among_first : (steps : ℕ) (bytes : List ℕ) (node : ℕ) (fault : SlabFault) → 1 ≤ steps → tag_of bytes node ≡ 1
    → BreaksAmong bytes (nodes_of (tree_from (steps - 1) bytes (first_child_of bytes node))) fault
    → BreaksAmong bytes (nodes_of (tree_from steps bytes node)) fault
among_first zero bytes node fault some inner breaks = absurd (omega arith)
among_first (suc s) bytes node fault some inner breaks =
    let same : suc s - 1 ≡ s = omega arith in
    let first : List ℕ = nodes_of (tree_from s bytes (first_child_of bytes node)) in
    let second : List ℕ = nodes_of (tree_from s bytes (second_child_of bytes node)) in
    subst (λ t. BreaksAmong bytes (nodes_of t) fault) (sym (tree_from-inner s bytes node inner))
    (among_more bytes first (node ∷ (first ++ second)) fault (λ x at. omega (arith, times-append x first second))
    (subst (λ k. BreaksAmong bytes (nodes_of (tree_from k bytes (first_child_of bytes node))) fault) same breaks))

pub among_second : (steps : ℕ) (bytes : List ℕ) (node : ℕ) (fault : SlabFault) → 1 ≤ steps → tag_of bytes node ≡ 1
    → BreaksAmong bytes (nodes_of (tree_from (steps - 1) bytes (second_child_of bytes node))) fault
    → BreaksAmong bytes (nodes_of (tree_from steps bytes node)) fault
among_second zero bytes node fault some inner breaks = absurd (omega arith)
among_second (suc s) bytes node fault some inner breaks =
    let same : suc s - 1 ≡ s = omega arith in
    let first : List ℕ = nodes_of (tree_from s bytes (first_child_of bytes node)) in
    let second : List ℕ = nodes_of (tree_from s bytes (second_child_of bytes node)) in
    subst (λ t. BreaksAmong bytes (nodes_of t) fault) (sym (tree_from-inner s bytes node inner))
    (among_more bytes second (node ∷ (first ++ second)) fault (λ x at. omega (arith, times-append x first second))
    (subst (λ k. BreaksAmong bytes (nodes_of (tree_from k bytes (second_child_of bytes node))) fault) same breaks))

-- what is broken of a child, at an inner node: at the child itself, which is in the tree, or between the two
pub among_first_child : (steps : ℕ) (bytes : List ℕ) (node : ℕ) (fault : SlabFault) → 1 ≤ steps → tag_of bytes node ≡ 1
    → BreaksNode bytes (first_child_of bytes node) fault ⊎ BreaksChild bytes node 0 (first_child_of bytes node) fault
    → BreaksAmong bytes (nodes_of (tree_from steps bytes node)) fault
among_first_child steps bytes node fault some inner (inl breaks) =
    among_first steps bytes node fault some inner (among_here (steps - 1) bytes (first_child_of bytes node) fault (inl breaks))
among_first_child steps bytes node fault some inner (inr breaks) = among_here steps bytes node fault (inr (inl (inner, breaks)))

pub among_second_child : (steps : ℕ) (bytes : List ℕ) (node : ℕ) (fault : SlabFault) → 1 ≤ steps → tag_of bytes node ≡ 1
    → BreaksNode bytes (second_child_of bytes node) fault ⊎ BreaksChild bytes node 1 (second_child_of bytes node) fault
    → BreaksAmong bytes (nodes_of (tree_from steps bytes node)) fault
among_second_child steps bytes node fault some inner (inl breaks) =
    among_second steps bytes node fault some inner (among_here (steps - 1) bytes (second_child_of bytes node) fault (inl breaks))
among_second_child steps bytes node fault some inner (inr breaks) = among_here steps bytes node fault (inr (inr (inner, breaks)))
