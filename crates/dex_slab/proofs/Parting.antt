-- Where a new id parts from the keys of a tree.
use Rattle.std.proofs.Common.{◌≡◌, ◌≢◌, ℕ, suc, ◌+◌, ◌<◌, ◌≤◌, ◌^◌, refl, arith}
use Rattle.dex_slab.specs.Path.{Path, Root, InFirst, InSecond, Leads, bit_behind, plug, shared_bits, top_key}
use Rattle.dex_slab.specs.Tree.{Tree, Leaf, Inner, Other, AllKeys, Begins, HasPrefixes, IsKnown, KeysAgree, first_bits}
use Rattle.dex_slab.specs.Walks.{Stops}
use Rattle.dex_slab.proofs.KeyBits.{Begins-first, bit_behind-lt, first_bits-fewer, first_bits-more, shared_bits-differ, shared_bits-lt, shared_bits-most, shared_bits-same}
use Rattle.dex_slab.proofs.Plugs.{AllKeys-map, keys-part, least_at, prefixes-part}

pub top-key : (Fact : ℕ → Type 0) (t : Tree) → IsKnown t → AllKeys Fact t → Fact (top_key t)
top-key Fact (Leaf node order) known h = h
top-key Fact (Inner node prefix key first second) known h = h.0
top-key Fact (Other node) known h = absurd known

-- the id is none of the leaf's at the top
abbrev pub IsNewAt : ℕ → Tree → Type 0
IsNewAt id (Leaf node order) = order.id ≢ id
IsNewAt id (Inner node prefix key first second) = Unit {0}
IsNewAt id (Other node) = Unit {0}

module _ (id : ℕ) (fits : id < 2 ^ 128) where
  -- it shares fewer than all bits
  pub parts-low : (t : Tree) (least : ℕ) → top_key t < 2 ^ 128 → Stops id t → IsNewAt id t → HasPrefixes least t → shared_bits (top_key t) id < 128
  parts-low (Leaf node order) least low stops new h = shared_bits-lt order.id id low fits new
  parts-low (Inner node prefix key first second) least low stops new h = omega (arith, h.1)
  parts-low (Other node) least low stops new h = absurd stops

  -- all keys of the tree agree with its topmost key in one bit more than the new id does
  agree_more : (t : Tree) (least : ℕ) → Stops id t → HasPrefixes least t → KeysAgree t
      → AllKeys (λ other. first_bits (suc (shared_bits (top_key t) id)) other ≡ first_bits (suc (shared_bits (top_key t) id)) (top_key t)) t
  agree_more (Leaf node order) least stops h agree = refl
  agree_more (Inner node prefix key first second) least stops h agree =
      let s : ℕ = shared_bits key id in
      let fewer : (other : ℕ) → first_bits prefix other ≡ first_bits prefix key → first_bits (suc s) other ≡ first_bits (suc s) key
      = (λ other same. first_bits-fewer (suc s) prefix other key stops (omega (arith, h.1)) same) in (
        refl,
        AllKeys-map (Begins prefix key 0) (λ other. first_bits (suc s) other ≡ first_bits (suc s) key)
            (λ other begins. fewer other (Begins-first prefix key 0 other h.1 (omega arith) begins)) first agree.0,
        AllKeys-map (Begins prefix key 1) (λ other. first_bits (suc s) other ≡ first_bits (suc s) key)
            (λ other begins. fewer other (Begins-first prefix key 1 other h.1 (omega arith) begins)) second agree.1,
      )
  agree_more (Other node) least stops h agree = absurd stops

  -- so after the shared bits they have the other bit
  pub parts-keys : (t : Tree) (least : ℕ) → top_key t < 2 ^ 128 → Stops id t → IsNewAt id t → HasPrefixes least t → KeysAgree t
      → (bit : ℕ) → bit + bit_behind (shared_bits (top_key t) id) id ≡ 1 → AllKeys (Begins (shared_bits (top_key t) id) id bit) t
  parts-keys t least low stops new h agree bit other_bit =
      let k : ℕ = top_key t in
      let s : ℕ = shared_bits k id in
      let less : s < 128 = parts-low t least low stops new h in
      let same : first_bits s k ≡ first_bits s id = shared_bits-same k id low fits s (omega arith) in
      AllKeys-map (λ other. first_bits (suc s) other ≡ first_bits (suc s) k) (Begins s id bit)
      (λ other equal. omega (arith, equal, first_bits-more s k less, shared_bits-differ k id low fits less, bit_behind-lt s k, same))
      t (agree_more t least stops h agree)

  -- it shares all bits of the inner nodes on its way
  pub least-shared : (path : Path) (t : Tree) → top_key t < 2 ^ 128 → IsKnown t → KeysAgree (plug path t) → HasPrefixes 0 (plug path t) → Leads id path
      → least_at path ≤ shared_bits (top_key t) id
  least-shared Root t low known agree h leads = omega arith
  least-shared (InFirst node prefix key second up) t low known agree h leads =
      let top : Begins prefix key 0 (top_key t) = top-key (Begins prefix key 0) t known (keys-part up (Inner node prefix key t second) agree).0 in
      let wide : prefix < 128 = (prefixes-part up (Inner node prefix key t second) h).1 in
      shared_bits-most (top_key t) id low fits (suc prefix) (omega arith) (omega (arith, leads.0))
  least-shared (InSecond node prefix key first up) t low known agree h leads =
      let top : Begins prefix key 1 (top_key t) = top-key (Begins prefix key 1) t known (keys-part up (Inner node prefix key first t) agree).1 in
      let wide : prefix < 128 = (prefixes-part up (Inner node prefix key first t) h).1 in
      shared_bits-most (top_key t) id low fits (suc prefix) (omega arith) (omega (arith, leads.0))
