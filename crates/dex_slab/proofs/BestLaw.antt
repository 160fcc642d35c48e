-- The best order of a side, taken off and put on again.
use Rattle.std.proofs.Common.{◌≡◌, ◌≢◌, ℕ, ◌+◌, inl, inr, false, true, List, [], ◌∷◌, length, Some, None, refl, ap, ◌∙◌, subst, arith}
use Rattle.std.specs.Option.{is_some}
use Rattle.std.proofs.lemmas.Bool.{cases_eq, eq-eqb, ne_eqb, le-ltb, ltb-true}
use Rattle.std.proofs.lemmas.List.Elements.{All-head}
use Rattle.dex_types.specs.declared.orders.Order.{Order}
use Rattle.dex_types.specs.declared.terms.Side.{Side}
use Rattle.dex_types.specs.declared.terms.Side.TheVariants.{Bid, Ask}
use Rattle.dex_types.specs.BookSide.{CanRest, IsBookSide, best_of}
use Rattle.dex_types.specs.Cancel.{order_with, without_order}
use Rattle.dex_types.specs.Posting.{PrecedesAll, posted}
use Rattle.dex_types.specs.Side.{precedes}
use Rattle.dex_slab.specs.Nodes.{count_of}
use Rattle.dex_slab.specs.Slab.{IsSlab, resting, room_in, tree_of}
use Rattle.dex_slab.specs.SlabSide.{slab_side}
use Rattle.dex_slab.specs.Walks.{RestsOn, nodes_given, nodes_taken}
use Rattle.dex_slab.proofs.FoundLaw.{RestsOn-from, new-rests}
use Rattle.dex_slab.proofs.Somes.{none_some, same_some}
use Rattle.dex_slab.proofs.Standing.{count-listed}

-- an id that stands before another one is another one, and does not stand after it
apart : (side : Side) (id other : ℕ) → precedes side id other ≡ true → other ≢ id
apart Bid id other before = λ same. absurd (omega (arith, ltb-true other id before))
apart Ask id other before = λ same. absurd (omega (arith, ltb-true id other before))

behind : (side : Side) (id other : ℕ) → precedes side id other ≡ true → precedes side other id ≡ false
behind Bid id other before = le-ltb id other (omega (arith, ltb-true other id before))
behind Ask id other before = le-ltb other id (omega (arith, ltb-true id other before))

-- an id that stands before all orders is new
order_with-before : (side : Side) (id : ℕ) (orders : List Order) → PrecedesAll side id orders → order_with id orders ≡ None
order_with-before side id [] before = refl
order_with-before side id (order ∷ others) before = rw (ne_eqb order.id id (apart side id order.id before.0)) (order_with-before side id others before.1)

-- and its order is posted first
posted-before : (side : Side) (order : Order) (orders : List Order) → PrecedesAll side order.id orders → posted side order orders ≡ order ∷ orders
posted-before side order [] before = refl
posted-before side order (next ∷ others) before = rw (behind side order.id next.id before.0) refl

-- the order is the best of these: it rests, is new to the others, and goes back to its place
pub record IsBest (side : Side) (order : Order) (orders : List Order) : Type 0 where
  pub rests : order_with order.id orders ≡ Some order
  pub new : order_with order.id (without_order order.id orders) ≡ None
  pub can_rest : CanRest order
  pub fewer : length orders ≡ length (without_order order.id orders) + 1
  pub back : posted side order (without_order order.id orders) ≡ orders

best-of : (side : Side) (room : ℕ) (order : Order) (orders : List Order) → IsBookSide side room orders → best_of orders ≡ Some order → IsBest side order orders
best-of side room order [] good best = absurd (none_some order best)
best-of side room order (first ∷ others) good best =
    subst (λ (o : Order). IsBest side o (first ∷ others)) (same_some first order best) (
    let without : without_order first.id (first ∷ others) ≡ others = rw (eq-eqb first.id first.id refl) refl in record {
      rests = rw (eq-eqb first.id first.id refl) refl;
      new = rw without (order_with-before side first.id others good.in_order.0);
      can_rest = All-head CanRest first others good.can_rest;
      fewer = rw without (omega arith);
      back = rw without (posted-before side first others good.in_order.0);
    })

-- the best order of a slab
pub best-is : (side : Side) (bytes : List ℕ) (order : Order) → IsSlab bytes → best_of (resting side bytes) ≡ Some order → IsBest side order (resting side bytes)
best-is side bytes order slab best = best-of side (room_in bytes) order (resting side bytes) (slab_side side bytes slab) best

pub best-rests : (side : Side) (bytes : List ℕ) (order : Order) → IsBest side order (resting side bytes) → RestsOn order.id (tree_of bytes)
best-rests side bytes order best = RestsOn-from side order.id (tree_of bytes) (ap is_some best.rests)

-- the last order gives back one node and takes one, any other two
taken-given : (count : ℕ) → nodes_given (count + 1) ≡ nodes_taken count
taken-given count =
    elim (cases_eq count 0) [
      | inl none ↦ rw (eq-eqb count 0 none, eq-eqb (count + 1) 1 (omega arith)) refl
      | inr some ↦ rw (ne_eqb count 0 some, ne_eqb (count + 1) 1 (omega arith)) refl
    ]

-- a slab that it has left
module _ (side : Side) (old left : List ℕ) (order : Order) (best : IsBest side order (resting side old)) (without : resting side left ≡ without_order order.id (resting side old)) where
  pub best-new : RestsOn order.id (tree_of left) → ⊥
  best-new = new-rests side order.id (tree_of left) (ap (order_with order.id) without ∙ best.new)

  pub best-fewer : IsSlab old → IsSlab left → count_of old ≡ count_of left + 1
  best-fewer slab there =
      omega (arith, count-listed side old slab, count-listed side left there, best.fewer, ap (λ (l : List Order). length l) without)

  pub best-nodes : IsSlab old → IsSlab left → nodes_given (count_of old) ≡ nodes_taken (count_of left)
  best-nodes slab there = ap (λ (n : ℕ). nodes_given n) (best-fewer slab there) ∙ taken-given (count_of left)

  pub best-back : posted side order (resting side left) ≡ resting side old
  best-back = ap (posted side order) without ∙ best.back
