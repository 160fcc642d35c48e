-- The free list: its marks, and that no free node comes twice.
use Rattle.std.proofs.Common.{◌≡◌, ℕ, zero, suc, ◌<◌, ◌≤◌, ◌⊎◌, inl, inr, List, [], ◌∷◌, length, refl, sym, ap, ◌∙◌, subst, arith}
use Rattle.std.proofs.lemmas.Bool.{cases_lt}
use Rattle.std.proofs.lemmas.Bool.Decides.{eqb_tells}
use Rattle.dex_slab_check.specs.declared.slab_fault.SlabFault.{SlabFault}
use Rattle.dex_slab_check.specs.Checked.{AreBelow, AreMetOnce, IsSoundFree}
use Rattle.dex_slab_check.specs.Faults.{BreaksBelow, BreaksFree, BreaksTag, IsTreeNode, tag_wanted}
use Rattle.dex_slab.specs.Nodes.{bump_of, next_of, tag_of}
use Rattle.dex_slab.specs.Slab.{AreFree, free_from, times}
use Rattle.dex_slab.proofs.FreeList.{free_from-more, free_from-none, length-free_from}

-- ---- the marks

-- each node has the mark of its place, and the others have theirs
pub tag-from_free : (bytes : List ℕ) (node : ℕ) (others : List ℕ) → AreFree bytes (node ∷ others) → tag_of bytes node ≡ tag_wanted (length others)
tag-from_free bytes node [] free = free
tag-from_free bytes node (next ∷ others) free = free.0

pub rest-from_free : (bytes : List ℕ) (node : ℕ) (others : List ℕ) → AreFree bytes (node ∷ others) → AreFree bytes others
rest-from_free bytes node [] free = tt
rest-from_free bytes node (next ∷ others) free = free.1

free-from_tag : (bytes : List ℕ) (node : ℕ) (others : List ℕ) → tag_of bytes node ≡ tag_wanted (length others) → AreFree bytes others
    → AreFree bytes (node ∷ others)
free-from_tag bytes node [] tag free = tag
free-from_tag bytes node (next ∷ others) tag free = (tag, free)

-- ---- the walk

below_more : (bytes : List ℕ) (node : ℕ) (others : List ℕ) → node < bump_of bytes → AreBelow bytes others → AreBelow bytes (node ∷ others)
below_more bytes node others first below x at =
    elim (eqb_tells node x) [
      | inl here ↦ subst (λ n. n < bump_of bytes) here.1 first
      | inr not ↦ below x (omega (arith, not.1))
    ]

pub sound_none : (bytes : List ℕ) (node : ℕ) → IsSoundFree bytes (free_from bytes 0 node)
sound_none bytes node = subst (IsSoundFree bytes) (sym (free_from-none bytes node)) record { below = λ x at. absurd (omega arith); tags = tt }

pub sound_more : (bytes : List ℕ) (left behind node : ℕ) → left ≡ suc behind → node < bump_of bytes → tag_of bytes node ≡ tag_wanted behind
    → IsSoundFree bytes (free_from bytes behind (next_of bytes node)) → IsSoundFree bytes (free_from bytes left node)
sound_more bytes left behind node is below tag sound =
    let others : List ℕ = free_from bytes behind (next_of bytes node) in
    subst (IsSoundFree bytes) (sym (free_from-more bytes left behind node is)) record {
      below = below_more bytes node others below sound.below;
      tags = free-from_tag bytes node others (tag ∙ ap tag_wanted (sym (length-free_from bytes behind (next_of bytes node)))) sound.tags;
    }

pub breaks_below : (bytes : List ℕ) (left behind node : ℕ) (fault : SlabFault) → left ≡ suc behind → BreaksBelow bytes node fault
    → BreaksFree bytes (free_from bytes left node) fault
breaks_below bytes left behind node fault is breaks =
    subst (λ xs. BreaksFree bytes xs fault) (sym (free_from-more bytes left behind node is)) (inl breaks)

pub breaks_tag : (bytes : List ℕ) (left behind node : ℕ) (fault : SlabFault) → left ≡ suc behind → BreaksTag bytes node behind fault
    → BreaksFree bytes (free_from bytes left node) fault
breaks_tag bytes left behind node fault is breaks =
    subst (λ xs. BreaksFree bytes xs fault) (sym (free_from-more bytes left behind node is))
    (inr (inl (subst (λ n. BreaksTag bytes node n fault) (sym (length-free_from bytes behind (next_of bytes node))) breaks)))

pub breaks_more : (bytes : List ℕ) (left behind node : ℕ) (fault : SlabFault) → left ≡ suc behind
    → BreaksFree bytes (free_from bytes behind (next_of bytes node)) fault
    → BreaksFree bytes (free_from bytes left node) fault
breaks_more bytes left behind node fault is breaks =
    subst (λ xs. BreaksFree bytes xs fault) (sym (free_from-more bytes left behind node is)) (inr (inr breaks))

-- the mark of a free node is no tag of a tree's node
not_tree : (behind tag : ℕ) → tag ≡ tag_wanted behind → (tag ≡ 1) ⊎ (tag ≡ 2) → ⊥
not_tree zero tag is (inl one) = omega arith
not_tree zero tag is (inr two) = omega arith
not_tree (suc behind) tag is (inl one) = omega arith
not_tree (suc behind) tag is (inr two) = omega arith

-- ---- no free node comes twice: from each on, the list has one length, since only its last node is marked as the last

module _ (bytes : List ℕ) where
  abbrev AreFreeFrom : ℕ → ℕ → Type 0
  AreFreeFrom count node = AreFree bytes (free_from bytes count node)

  opened : (behind node : ℕ) → AreFreeFrom (suc behind) node → AreFree bytes (node ∷ free_from bytes behind (next_of bytes node))
  opened behind node free = subst (AreFree bytes) (free_from-more bytes (suc behind) behind node refl) free

  tag_at : (behind node : ℕ) → AreFreeFrom (suc behind) node → tag_of bytes node ≡ tag_wanted behind
  tag_at behind node free =
      tag-from_free bytes node (free_from bytes behind (next_of bytes node)) (opened behind node free) ∙ ap tag_wanted (length-free_from bytes behind (next_of bytes node))

  others_free : (behind node : ℕ) → AreFreeFrom (suc behind) node → AreFreeFrom behind (next_of bytes node)
  others_free behind node free = rest-from_free bytes node (free_from bytes behind (next_of bytes node)) (opened behind node free)

  one_length : (a b node : ℕ) → AreFreeFrom (suc a) node → AreFreeFrom (suc b) node → a ≡ b
  one_length zero zero node left right = refl
  one_length zero (suc b) node left right = let first = tag_at zero node left in let second = tag_at (suc b) node right in absurd (omega arith)
  one_length (suc a) zero node left right = let first = tag_at (suc a) node left in let second = tag_at zero node right in absurd (omega arith)
  one_length (suc a) (suc b) node left right = ap suc (one_length a b (next_of bytes node) (others_free (suc a) node left) (others_free (suc b) node right))

  -- from a free node on the rest of the list is free
  found : (count node x : ℕ) → AreFreeFrom count node → 1 ≤ times x (free_from bytes count node)
      → (behind : ℕ) × (behind < count) × AreFreeFrom (suc behind) x
  found zero node x free at = absurd (let none = subst (λ xs. 1 ≤ times x xs) (free_from-none bytes node) at in omega arith)
  found (suc count) node x free at =
      elim (eqb_tells node x) [
        | inl here ↦ (count, omega arith, subst (AreFreeFrom (suc count)) here.1 free)
        | inr not ↦
            let met = subst (λ xs. 1 ≤ times x xs) (free_from-more bytes (suc count) count node refl) at in
            let further = found count (next_of bytes node) x (others_free count node free) (omega (arith, met, not.1)) in
            (further.0, omega (arith, further.1), further.2)
      ]

  -- a free node is no node of the tree
  pub free_tag : (count node x : ℕ) → AreFreeFrom count node → 1 ≤ times x (free_from bytes count node) → IsTreeNode bytes x → ⊥
  free_tag count node x free at in_tree =
      let on = found count node x free at in
      not_tree on.0 (tag_of bytes x) (tag_at on.0 x on.2) in_tree

  pub free_once : (count node : ℕ) → AreFreeFrom count node → AreMetOnce (free_from bytes count node)
  free_once zero node free = subst AreMetOnce (sym (free_from-none bytes node)) (λ x. omega arith)
  free_once (suc count) node free =
      subst AreMetOnce (sym (free_from-more bytes (suc count) count node refl))
      (λ x.
      let once = free_once count (next_of bytes node) (others_free count node free) x in
      elim (eqb_tells node x) [
        | inl here ↦ elim (cases_lt 0 (times x (free_from bytes count (next_of bytes node)))) [
          | inl again ↦
              let on = found count (next_of bytes node) x (others_free count node free) again in
              let length = one_length count on.0 x (subst (AreFreeFrom (suc count)) here.1 free) on.2 in
              absurd (omega (arith, on.1))
          | inr none ↦ omega arith
        ]
        | inr not ↦ omega (arith, not.1)
      ])

-- ---- where nothing is broken

pub free_unbroken : (bytes : List ℕ) (free : List ℕ) (fault : SlabFault) → AreBelow bytes free → AreFree bytes free → BreaksFree bytes free fault → ⊥
free_unbroken bytes [] fault below tags breaks = breaks
free_unbroken bytes (node ∷ others) fault below tags (inl breaks) = let lt = below node (omega arith) in omega (arith, breaks.0)
free_unbroken bytes (node ∷ others) fault below tags (inr (inl breaks)) = breaks.0 (tag-from_free bytes node others tags)
free_unbroken bytes (node ∷ others) fault below tags (inr (inr breaks)) =
    free_unbroken bytes others fault (λ x at. below x (omega arith)) (rest-from_free bytes node others tags) breaks
