-- What a side's account holds as it is made.
use Rattle.std.proofs.Common.{◌≡◌, ℕ, ◌<◌, ◌≤◌, ◌^◌, List, [], length, Option, None, IfSome, sym, ap, subst, ◌∙◌, arith, lit≤, lit<}
use Rattle.dex_fields.specs.declared.slab.TheConstants.{BUMP_INDEX, FREE_LIST_LEN, LEAF_COUNT}
use Rattle.dex_fields.proofs.EmptyLaw.{length-empty_account, number_in-empty_account}
use Rattle.dex_types.specs.declared.terms.Side.{Side}
use Rattle.dex_types.specs.declared.terms.Side.TheVariants.{Bid, Ask}
use Rattle.dex_slab.specs.Blank.{IsMadeSize, blank_side, side_flags}
use Rattle.dex_slab.specs.Nodes.{bump_of, count_of, free_head_of, free_len_of, nodes_within, room_of}
use Rattle.dex_slab.specs.Slab.{IsShared, IsSlab, IsTree, free_from, free_of, leaves_in, nodes_in, orders_in, resting, room_in, tree_of}
use Rattle.dex_slab.specs.Tree.{Tree}
use Rattle.dex_slab.proofs.Standing.{tree_of-empty}

pub side_flags-fit : (side : Side) → side_flags side < 2 ^ 64
side_flags-fit Bid = lit< tt
side_flags-fit Ask = lit< tt

module _ (side : Side) (size : ℕ) (made : IsMadeSize size) where
  abbrev now : List ℕ
  now = blank_side side size

  long : 20 ≤ size
  long = omega (arith, made.least)

  length-now : length now ≡ size
  length-now = length-empty_account size (side_flags side) long

  bump : bump_of now ≡ 0
  bump = number_in-empty_account size (side_flags side) long BUMP_INDEX (lit≤ tt) (omega (arith, made.least))

  free_len : free_len_of now ≡ 0
  free_len = number_in-empty_account size (side_flags side) long FREE_LIST_LEN (lit≤ tt) (omega (arith, made.least))

  count : count_of now ≡ 0
  count = number_in-empty_account size (side_flags side) long LEAF_COUNT (lit≤ tt) (omega (arith, made.least))

  tree : tree_of now ≡ None
  tree = tree_of-empty now count

  free : free_of now ≡ []
  unfolding free_from
  free = ap (λ (n : ℕ). free_from now n (free_head_of now)) free_len

  shared_by : (used others : List ℕ) → used ≡ [] → others ≡ [] → IsShared now used others
  shared_by used others no_used no_free =
      let none : IsShared now [] [] = record {
        bump = omega (arith, bump);
        below = λ node one. absurd (omega arith);
        once = λ node. omega arith;
        whole = sym bump;
        free_nodes = tt;
      } in
      let with_used : IsShared now used [] = subst (λ (l : List ℕ). IsShared now l []) (sym no_used) none in
      subst (IsShared now used) (sym no_free) with_used

  pub IsSlab-blank_side : IsSlab now
  IsSlab-blank_side = record {
    size = record {
      some = omega (arith, length-now, made.least, made.whole);
      few = omega (arith, length-now, made.most, made.whole);
    };
    shared = shared_by (nodes_in (tree_of now)) (free_of now) (ap nodes_in tree) free;
    count = count ∙ sym (ap leaves_in tree);
    tree = subst (λ (t : Option Tree). IfSome t IsTree) (sym tree) tt;
  }

  pub resting-blank_side : resting side now ≡ []
  resting-blank_side = ap (orders_in side) tree

  pub room_in-blank_side : room_in now ≡ room_of (nodes_within size)
  room_in-blank_side = ap (λ (n : ℕ). room_of (nodes_within n)) length-now
