-- The nodes in use and the free list: taking a node, and giving one back.
use Rattle.std.proofs.Common.{◌≡◌, ◌≢◌, ℕ, zero, suc, ◌+◌, ◌-◌, ◌<◌, ◌≤◌, List, [], ◌∷◌, ◌++◌, length, refl, sym, ap, subst, ◌∙◌, arith, inl, inr}
use Rattle.std.proofs.lemmas.Bool.{cases_eq}
use Rattle.std.proofs.lemmas.List.{length-append}
use Rattle.dex_fields.specs.declared.free_node.TheConstants as free
use Rattle.dex_fields.specs.Bytes.{number_in}
use Rattle.dex_slab.specs.Held.{IsFree}
use Rattle.dex_slab.specs.Nodes.{bump_of, free_head_of, free_len_of, next_of, node_bytes, nodes_within, tag_of}
use Rattle.dex_slab.specs.Slab.{AreFree, IsShared, free_from, free_of, times}
use Rattle.dex_slab.proofs.Holding.{AreSame, AreSame-head, AreSame-tail}
use Rattle.dex_slab.proofs.Times.{times-append}

-- ---- what stays

pub free_from-same : (old new : List ℕ) (count node : ℕ) → AreSame (free_from old count node) old new → free_from new count node ≡ free_from old count node
unfolding free_from
free_from-same old new zero node kept = refl
free_from-same old new (suc count) node kept =
    let others : List ℕ = free_from old count (next_of old node) in
    let next : next_of new node ≡ next_of old node = ap (λ (l : List ℕ). number_in l free.NEXT) (AreSame-head node others old new kept) in
    ap (λ (l : List ℕ). node ∷ l)
    (ap (free_from new count) next ∙ free_from-same old new count (next_of old node) (AreSame-tail node others old new kept))

tag_of-same : (old new : List ℕ) (node tag : ℕ) → node_bytes new node ≡ node_bytes old node → tag_of old node ≡ tag → tag_of new node ≡ tag
tag_of-same old new node tag kept is = ap (λ (l : List ℕ). number_in l free.TAG) kept ∙ is

pub AreFree-same : (old new xs : List ℕ) → AreFree old xs → AreSame xs old new → AreFree new xs
AreFree-same old new [] h kept = tt
AreFree-same old new (node ∷ []) h kept = tag_of-same old new node 4 (AreSame-head node [] old new kept) h
AreFree-same old new (node ∷ next ∷ others) h kept = (
  tag_of-same old new node 3 (AreSame-head node (next ∷ others) old new kept) h.0,
  AreFree-same old new (next ∷ others) h.1 (AreSame-tail node (next ∷ others) old new kept),
)

AreFree-tail : (bytes : List ℕ) (node : ℕ) (others : List ℕ) → AreFree bytes (node ∷ others) → AreFree bytes others
AreFree-tail bytes node [] h = tt
AreFree-tail bytes node (next ∷ others) h = h.1

-- where nodes and the header's words on them stay, they are shared as before
pub IsShared-same : (old new used : List ℕ) → IsShared old used (free_of old) → AreSame (free_of old) old new → length new ≡ length old
    → bump_of new ≡ bump_of old → free_len_of new ≡ free_len_of old → free_head_of new ≡ free_head_of old → IsShared new used (free_of new)
IsShared-same old new used h kept long bump len head =
    let list : free_of new ≡ free_of old =
    ap (λ (n : ℕ). free_from new n (free_head_of new)) len ∙ ap (free_from new (free_len_of old)) head
    ∙ free_from-same old new (free_len_of old) (free_head_of old) kept in
    subst (λ (l : List ℕ). IsShared new used l) (sym list)
    (record {
      bump = omega (arith, h.bump, ap nodes_within long);
      below = λ node met. omega (arith, h.below node met);
      once = h.once;
      whole = h.whole ∙ sym bump;
      free_nodes = AreFree-same old new (free_of old) h.free_nodes kept;
    })

-- the nodes in use in another order
pub IsShared-order : (bytes used others free : List ℕ) → IsShared bytes used free → ((n : ℕ) → times n others ≡ times n used) → length others ≡ length used
    → IsShared bytes others free
IsShared-order bytes used others free h met long = record {
  bump = h.bump;
  below = λ n some. h.below n (omega (arith, times-append n used free, times-append n others free, met n));
  once = λ n. omega (arith, h.once n, times-append n used free, times-append n others free, met n);
  whole = omega (arith, h.whole, length-append used free, length-append others free);
  free_nodes = h.free_nodes;
}

-- ---- taking a node

-- with an empty free list, the node at `bump_index`
pub shared-bumped : (old new used : List ℕ) → IsShared old used (free_of old) → length used < nodes_within (length old) → free_len_of old ≡ 0
    → length new ≡ length old → bump_of new ≡ bump_of old + 1 → free_len_of new ≡ 0 → IsShared new (bump_of old ∷ used) (free_of new)
unfolding free_from
shared-bumped old new used h spare none long bump still =
    let was : free_of old ≡ [] = ap (λ (n : ℕ). free_from old n (free_head_of old)) none in
    let list : free_of new ≡ [] = ap (λ (n : ℕ). free_from new n (free_head_of new)) still in
    let before : IsShared old used [] = subst (λ (l : List ℕ). IsShared old used l) was h in
    subst (λ (l : List ℕ). IsShared new (bump_of old ∷ used) l) (sym list)
    (record {
      bump = omega (arith, before.whole, length-append used [], ap nodes_within long);
      below = λ n met. below_bumped n met before;
      once = λ n. once_bumped n before;
      whole = omega (arith, before.whole);
      free_nodes = tt;
    }) where
      below_bumped : (n : ℕ) → 1 ≤ times n ((bump_of old ∷ used) ++ []) → IsShared old used [] → n < bump_of new
      below_bumped n met before =
          elim (cases_eq (bump_of old) n) [
            | inl this ↦ omega arith
            | inr other ↦ omega (arith, before.below n (omega arith))
          ]

      once_bumped : (n : ℕ) → IsShared old used [] → times n ((bump_of old ∷ used) ++ []) ≤ 1
      once_bumped n before =
          elim (cases_eq (bump_of old) n) [
            | inl this ↦
                elim (cases_eq (times n (used ++ [])) 0) [
                  | inl none_met ↦ omega arith
                  | inr met ↦ absurd (omega (arith, before.below n (omega arith)))
                ]
            | inr other ↦ omega (arith, before.once n)
          ]

-- else the head of the free list
pub shared-popped : (old new used : List ℕ) (count : ℕ) → IsShared old used (free_of old) → free_len_of old ≡ suc count
    → ((n : ℕ) → node_bytes new n ≡ node_bytes old n) → length new ≡ length old → bump_of new ≡ bump_of old
    → free_len_of new ≡ count → free_head_of new ≡ next_of old (free_head_of old) → IsShared new (free_head_of old ∷ used) (free_of new)
unfolding free_from
shared-popped old new used count h more kept long bump len head =
    let node : ℕ = free_head_of old in
    let others : List ℕ = free_from old count (next_of old node) in
    let was : free_of old ≡ node ∷ others = ap (λ (n : ℕ). free_from old n node) more in
    let list : free_of new ≡ others =
    ap (λ (n : ℕ). free_from new n (free_head_of new)) len ∙ ap (free_from new count) head
    ∙ free_from-same old new count (next_of old node) (λ n met. kept n) in
    let before : IsShared old used (node ∷ others) = subst (λ (l : List ℕ). IsShared old used l) was h in
    subst (λ (l : List ℕ). IsShared new (node ∷ used) l) (sym list)
    (record {
      bump = omega (arith, before.bump, ap nodes_within long);
      below = λ n met. omega (arith, before.below n (omega (arith, times-append n used (node ∷ others), times-append n used others)));
      once = λ n. omega (arith, before.once n, times-append n used (node ∷ others), times-append n used others);
      whole = omega (arith, before.whole, length-append used (node ∷ others), length-append used others);
      free_nodes = AreFree-same old new others (AreFree-tail old node others before.free_nodes) (λ n met. kept n);
    })

-- ---- giving a node back

length-free_from : (bytes : List ℕ) (count node : ℕ) → length (free_from bytes count node) ≡ count
unfolding free_from
length-free_from bytes zero node = refl
length-free_from bytes (suc count) node = omega (arith, length-free_from bytes count (next_of bytes node))

step : (bytes : List ℕ) (count node : ℕ) → free_from bytes (suc count) node ≡ node ∷ free_from bytes count (next_of bytes node)
unfolding free_from
step bytes count node = refl

AreFree-cons : (bytes : List ℕ) (node : ℕ) (others : List ℕ) → (length others ≡ 0 → tag_of bytes node ≡ 4) → (1 ≤ length others → tag_of bytes node ≡ 3)
    → AreFree bytes others → AreFree bytes (node ∷ others)
AreFree-cons bytes node [] last more h = last refl
AreFree-cons bytes node (next ∷ others) last more h = (more (omega arith), h)

-- it becomes the head of the free list
pub shared-freed : (old new used : List ℕ) (node tag : ℕ) → IsShared old (node ∷ used) (free_of old)
    → ((n : ℕ) → n ≢ node → node_bytes new n ≡ node_bytes old n) → IsFree (node_bytes new node) tag (free_head_of old)
    → (free_len_of old ≡ 0 → tag ≡ 4) → (1 ≤ free_len_of old → tag ≡ 3) → length new ≡ length old → bump_of new ≡ bump_of old
    → free_len_of new ≡ suc (free_len_of old) → free_head_of new ≡ node → IsShared new used (free_of new)
shared-freed old new used node tag h kept freed last more long bump len head =
    let count : ℕ = free_len_of old in
    let others : List ℕ = free_of old in
    let size : length others ≡ count = length-free_from old count (free_head_of old) in
    let same_free : AreSame others old new = (λ n met. kept n (λ e. absurd (omega (arith, h.once n, times-append n used others)))) in
    let list : free_of new ≡ node ∷ others = list_of new count node (free_head_of old) others len head freed.nexts (free_from-same old new count (free_head_of old) same_free) in
    subst (λ (l : List ℕ). IsShared new used l) (sym list)
    (record {
      bump = omega (arith, h.bump, ap nodes_within long);
      below = λ n met. omega (arith, h.below n (omega (arith, times-append n used (node ∷ others), times-append n used others)));
      once = λ n. omega (arith, h.once n, times-append n used (node ∷ others), times-append n used others);
      whole = omega (arith, h.whole, length-append used (node ∷ others), length-append used others);
      free_nodes = AreFree-cons new node others (λ none. freed.tags ∙ last (sym size ∙ none)) (λ some. freed.tags ∙ more (omega arith))
          (AreFree-same old new others h.free_nodes same_free);
    }) where
      list_of : (new : List ℕ) (count node next : ℕ) (others : List ℕ) → free_len_of new ≡ suc count → free_head_of new ≡ node
          → next_of new node ≡ next → free_from new count next ≡ others → free_of new ≡ node ∷ others
      list_of new count node next others len head nexts rest =
          ap (λ (n : ℕ). free_from new n (free_head_of new)) len
          ∙ ap (free_from new (suc count)) head
          ∙ step new count node
          ∙ ap (λ (l : List ℕ). node ∷ l) (ap (free_from new count) nexts ∙ rest)

-- ---- where nodes stand

-- the head of the free list
pub head-below : (bytes used : List ℕ) → IsShared bytes used (free_of bytes) → 1 ≤ free_len_of bytes → free_head_of bytes < nodes_within (length bytes)
head-below bytes used h some =
    let head : ℕ = free_head_of bytes in
    let count : ℕ = free_len_of bytes - 1 in
    let more : free_len_of bytes ≡ suc count = omega arith in
    let list : free_of bytes ≡ head ∷ free_from bytes count (next_of bytes head) = ap (λ (n : ℕ). free_from bytes n head) more ∙ step bytes count head in
    let met : 1 ≤ times head (free_of bytes) = subst (λ (l : List ℕ). 1 ≤ times head l) (sym list) (omega arith) in
    omega (arith, h.below head (omega (arith, times-append head used (free_of bytes))), h.bump)

-- a node in use
pub used-below : (bytes used : List ℕ) (node : ℕ) → IsShared bytes used (free_of bytes) → 1 ≤ times node used → node < nodes_within (length bytes)
used-below bytes used node h met = omega (arith, h.below node (omega (arith, times-append node used (free_of bytes))), h.bump)

-- `bump_index`, where nodes are to spare and none is free
pub bump-below : (bytes used : List ℕ) → IsShared bytes used (free_of bytes) → length used < nodes_within (length bytes) → free_len_of bytes ≡ 0
    → bump_of bytes < nodes_within (length bytes)
bump-below bytes used h spare none =
    omega (arith, h.whole, length-append used (free_of bytes), length-free_from bytes (free_len_of bytes) (free_head_of bytes))

-- the free list is no longer than the account
pub free_len-le : (bytes used : List ℕ) → IsShared bytes used (free_of bytes) → free_len_of bytes ≤ nodes_within (length bytes)
free_len-le bytes used h =
    omega (arith, h.whole, h.bump, length-append used (free_of bytes), length-free_from bytes (free_len_of bytes) (free_head_of bytes))
