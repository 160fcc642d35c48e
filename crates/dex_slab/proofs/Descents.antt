-- One step down a part of a tree: which child has the first order, the order of an id, and the order after it.
use Rattle.std.proofs.Common.{◌≡◌, ◌≢◌, ℕ, ◌<◌, ⊎_elim, true, false, eqb, List, [], ◌∷◌, length, Option, Some, None, refl, sym, ap, ◌∙◌, subst, arith}
use Rattle.std.specs.Option.{IsSome, IfSome, option_or}
use Rattle.std.proofs.lemmas.Bool.{cases_Bool, cond_both, eqb-true, eqb-false}
use Rattle.dex_types.specs.declared.orders.Order.{Order}
use Rattle.dex_types.specs.declared.terms.Side.{Side}
use Rattle.dex_types.specs.declared.terms.Side.TheVariants.{Bid, Ask}
use Rattle.dex_types.specs.BookSide.{best_of, order_after}
use Rattle.dex_types.specs.Cancel.{order_with}
use Rattle.dex_types.specs.Posting.{last_of}
use Rattle.dex_types.specs.Side.{by_side, opposite}
use Rattle.dex_slab.specs.declared.nodes.Branch.{Branch}
use Rattle.dex_slab.specs.Below.{first_below, child_beyond, IsPart}
use Rattle.dex_slab.specs.Walks.{tree_at, child_towards}
use Rattle.dex_slab.specs.Held.{Holds}
use Rattle.dex_slab.specs.Path.{bit_behind}
use Rattle.dex_slab.specs.Tree.{Tree, Leaf, Inner, Other, AllKeys, Begins, KeysAgree, nodes_of, orders_of}
use Rattle.dex_slab.proofs.Ends.{best-append, last-append, order_with-back, order_with-front, order_after-back, order_after-front}
use Rattle.dex_slab.proofs.IdLists.{AllIds, AllIds-map}
use Rattle.dex_slab.proofs.KeyBits.{Begins-bit}
use Rattle.dex_slab.proofs.Parts.{IsBranch, nodes-first, nodes-second}
use Rattle.dex_slab.proofs.TreeOrders.{AllIds-of}

-- ---- the first and the last order

-- a tree of known nodes has a first order
pub first-some : (bytes : List ℕ) (side : Side) (t : Tree) → Holds bytes t → IsSome (best_of (orders_of side t))
first-some bytes side (Leaf node order) held = refl
first-some bytes Bid (Inner node prefix key first second) held =
    subst IsSome (sym (best-append (orders_of Bid second) (orders_of Bid first))) (or-some (best_of (orders_of Bid second)) (best_of (orders_of Bid first)) (first-some bytes Bid second held.2))
  where
    or-some : (a b : Option Order) → IsSome a → IsSome (option_or a b)
    or-some None b some = absurd (cc)
    or-some (Some a) b some = refl
first-some bytes Ask (Inner node prefix key first second) held =
    subst IsSome (sym (best-append (orders_of Ask first) (orders_of Ask second))) (or-some (best_of (orders_of Ask first)) (best_of (orders_of Ask second)) (first-some bytes Ask first held.1))
  where
    or-some : (a b : Option Order) → IsSome a → IsSome (option_or a b)
    or-some None b some = absurd (cc)
    or-some (Some a) b some = refl
first-some bytes side (Other node) held = absurd held

-- what is there stays
or-first : (a b : Option Order) → IsSome a → option_or a b ≡ a
or-first None b some = absurd (cc)
or-first (Some a) b some = refl

or-none : (a : Option Order) → a ≡ option_or a None
or-none None = refl
or-none (Some a) = refl

or-assoc : (a b c : Option Order) → option_or (option_or a b) c ≡ option_or a (option_or b c)
or-assoc None b c = refl
or-assoc (Some a) b c = refl

-- below an inner node the first order is below the near child: the second of a bid, the first of an ask
pub best-branch : (bytes : List ℕ) (side : Side) (t : Tree) (branch : Branch) → IsBranch bytes t branch
    → best_of (orders_of side t) ≡ best_of (orders_of side (tree_at bytes (by_side side branch.second branch.first)))
best-branch bytes Bid t branch b =
    ap (λ u. best_of (orders_of Bid u)) b.is ∙ best-append (orders_of Bid (tree_at bytes branch.second)) (orders_of Bid (tree_at bytes branch.first))
    ∙ or-first _ _ (first-some bytes Bid (tree_at bytes branch.second) b.second_part.held)
best-branch bytes Ask t branch b =
    ap (λ u. best_of (orders_of Ask u)) b.is ∙ best-append (orders_of Ask (tree_at bytes branch.first)) (orders_of Ask (tree_at bytes branch.second))
    ∙ or-first _ _ (first-some bytes Ask (tree_at bytes branch.first) b.first_part.held)

-- the last order of a side is the first of the other side
pub last-first : (side : Side) (t : Tree) → last_of (orders_of side t) ≡ best_of (orders_of (opposite side) t)
last-first Bid (Leaf node order) = refl
last-first Ask (Leaf node order) = refl
last-first Bid (Inner node prefix key first second) =
    last-append (orders_of Bid second) (orders_of Bid first)
    ∙ ap (λ o. option_or o (last_of (orders_of Bid second))) (last-first Bid first) ∙ ap (λ o. option_or (best_of (orders_of Ask first)) o) (last-first Bid second)
    ∙ sym (best-append (orders_of Ask first) (orders_of Ask second))
last-first Ask (Inner node prefix key first second) =
    last-append (orders_of Ask first) (orders_of Ask second)
    ∙ ap (λ o. option_or o (last_of (orders_of Ask first))) (last-first Ask second) ∙ ap (λ o. option_or (best_of (orders_of Bid second)) o) (last-first Ask first)
    ∙ sym (best-append (orders_of Bid second) (orders_of Bid first))
last-first Bid (Other node) = refl
last-first Ask (Other node) = refl

-- ---- the order of an id

-- no key below the one child is an id that goes to the other one
other_ids : (side : Side) (prefix key bit : ℕ) (id : ℕ) (t : Tree) → bit < 2 → AllKeys (Begins prefix key bit) t → bit_behind prefix id ≢ bit
    → AllIds (λ other. other ≢ id) (orders_of side t)
other_ids side prefix key bit id t small keys apart =
    AllIds-map (Begins prefix key bit) (λ other. other ≢ id)
    (λ other begins same. apart (subst (λ n. bit_behind prefix n ≡ bit) same (Begins-bit prefix key bit other small begins)))
    (orders_of side t) (AllIds-of (Begins prefix key bit) side t keys)

-- the ids below the child to which the bit does not lead
apart_first : (bytes : List ℕ) (side : Side) (id : ℕ) (t : Tree) (branch : Branch) → IsPart bytes t → IsBranch bytes t branch → bit_behind branch.prefix id ≡ 1
    → AllIds (λ other. other ≢ id) (orders_of side (tree_at bytes branch.first))
apart_first bytes side id t branch part b bit =
    let keys = subst KeysAgree b.is part.keys in
    other_ids side branch.prefix branch.key 0 id (tree_at bytes branch.first) (omega arith) keys.0 (λ same. omega arith)

apart_second : (bytes : List ℕ) (side : Side) (id : ℕ) (t : Tree) (branch : Branch) → IsPart bytes t → IsBranch bytes t branch → bit_behind branch.prefix id ≢ 1
    → AllIds (λ other. other ≢ id) (orders_of side (tree_at bytes branch.second))
apart_second bytes side id t branch part b bit =
    let keys = subst KeysAgree b.is part.keys in
    other_ids side branch.prefix branch.key 1 id (tree_at bytes branch.second) (omega arith) keys.1 bit

-- so it is found below the child to which its bit leads
pub find-second : (bytes : List ℕ) (side : Side) (id : ℕ) (t : Tree) (branch : Branch) → IsPart bytes t → IsBranch bytes t branch → bit_behind branch.prefix id ≡ 1
    → order_with id (orders_of side t) ≡ order_with id (orders_of side (tree_at bytes branch.second))
find-second bytes Bid id t branch part b bit =
    ap (λ u. order_with id (orders_of Bid u)) b.is
    ∙ order_with-front id (orders_of Bid (tree_at bytes branch.second)) (orders_of Bid (tree_at bytes branch.first)) (apart_first bytes Bid id t branch part b bit)
find-second bytes Ask id t branch part b bit =
    ap (λ u. order_with id (orders_of Ask u)) b.is
    ∙ order_with-back id (orders_of Ask (tree_at bytes branch.first)) (orders_of Ask (tree_at bytes branch.second)) (apart_first bytes Ask id t branch part b bit)

pub find-first : (bytes : List ℕ) (side : Side) (id : ℕ) (t : Tree) (branch : Branch) → IsPart bytes t → IsBranch bytes t branch → bit_behind branch.prefix id ≢ 1
    → order_with id (orders_of side t) ≡ order_with id (orders_of side (tree_at bytes branch.first))
find-first bytes Bid id t branch part b bit =
    ap (λ u. order_with id (orders_of Bid u)) b.is
    ∙ order_with-back id (orders_of Bid (tree_at bytes branch.second)) (orders_of Bid (tree_at bytes branch.first)) (apart_second bytes Bid id t branch part b bit)
find-first bytes Ask id t branch part b bit =
    ap (λ u. order_with id (orders_of Ask u)) b.is
    ∙ order_with-front id (orders_of Ask (tree_at bytes branch.first)) (orders_of Ask (tree_at bytes branch.second)) (apart_second bytes Ask id t branch part b bit)

-- ---- the order behind that of an id

-- where the bit leads to the far child, what is after is there; where it leads to the near child, it may be the first
-- of the far one
pub after-first : (bytes : List ℕ) (side : Side) (id : ℕ) (t : Tree) (branch : Branch) → IsPart bytes t → IsBranch bytes t branch → bit_behind branch.prefix id ≢ 1
    → IsSome (order_with id (orders_of side (tree_at bytes branch.first)))
    → order_after id (orders_of side t)
    ≡ option_or (order_after id (orders_of side (tree_at bytes branch.first))) (first_below bytes side (by_side side None (Some branch.second)))
after-first bytes Bid id t branch part b bit rests =
    ap (λ u. order_after id (orders_of Bid u)) b.is
    ∙ order_after-back id (orders_of Bid (tree_at bytes branch.second)) (orders_of Bid (tree_at bytes branch.first)) (apart_second bytes Bid id t branch part b bit)
    ∙ or-none (order_after id (orders_of Bid (tree_at bytes branch.first)))
after-first bytes Ask id t branch part b bit rests =
    ap (λ u. order_after id (orders_of Ask u)) b.is
    ∙ order_after-front id (orders_of Ask (tree_at bytes branch.first)) (orders_of Ask (tree_at bytes branch.second)) rests

pub after-second : (bytes : List ℕ) (side : Side) (id : ℕ) (t : Tree) (branch : Branch) → IsPart bytes t → IsBranch bytes t branch → bit_behind branch.prefix id ≡ 1
    → IsSome (order_with id (orders_of side (tree_at bytes branch.second)))
    → order_after id (orders_of side t)
    ≡ option_or (order_after id (orders_of side (tree_at bytes branch.second))) (first_below bytes side (by_side side (Some branch.first) None))
after-second bytes Bid id t branch part b bit rests =
    ap (λ u. order_after id (orders_of Bid u)) b.is
    ∙ order_after-front id (orders_of Bid (tree_at bytes branch.second)) (orders_of Bid (tree_at bytes branch.first)) rests
after-second bytes Ask id t branch part b bit rests =
    ap (λ u. order_after id (orders_of Ask u)) b.is
    ∙ order_after-back id (orders_of Ask (tree_at bytes branch.first)) (orders_of Ask (tree_at bytes branch.second)) (apart_first bytes Ask id t branch part b bit)
    ∙ or-none (order_after id (orders_of Ask (tree_at bytes branch.second)))

-- ---- the child to which the bit leads

-- what holds at each child where the bit leads there holds at the child to which it leads
pub child-cases : (id : ℕ) (branch : Branch) (P : ℕ → Option ℕ → Type 0) (side : Side)
    → (bit_behind branch.prefix id ≡ 1 → P branch.second (by_side side (Some branch.first) None))
    → (bit_behind branch.prefix id ≢ 1 → P branch.first (by_side side None (Some branch.second)))
    → P (child_towards id branch) (child_beyond side id branch)
child-cases id branch P side second first =
    ⊎_elim
    (λ (one : eqb (bit_behind branch.prefix id) 1 ≡ true). rw one (second (eqb-true (bit_behind branch.prefix id) 1 one)))
    (λ (none : eqb (bit_behind branch.prefix id) 1 ≡ false). rw none (first (eqb-false (bit_behind branch.prefix id) 1 none)))
    (cases_Bool (eqb (bit_behind branch.prefix id) 1))

-- what one step tells: a part below, with fewer nodes, in which the id's order is found, and the order after it but for
-- the first one beyond
pub record IsStep (bytes : List ℕ) (id : ℕ) (side : Side) (t : Tree) (child : ℕ) (beyond : Option ℕ) : Type 0 where
  pub part : IsPart bytes (tree_at bytes child)
  pub fewer : length (nodes_of (tree_at bytes child)) < length (nodes_of t)
  pub found : order_with id (orders_of side t) ≡ order_with id (orders_of side (tree_at bytes child))
  pub beyond_part : IfSome beyond (λ n. IsPart bytes (tree_at bytes n))
  pub behind : IsSome (order_with id (orders_of side t))
      → order_after id (orders_of side t) ≡ option_or (order_after id (orders_of side (tree_at bytes child))) (first_below bytes side beyond)

beyond_of : (bytes : List ℕ) (side : Side) (t : Tree) (branch : Branch) → IsBranch bytes t branch
    → IfSome (by_side side (Some branch.first) None) (λ n. IsPart bytes (tree_at bytes n)) × IfSome (by_side side None (Some branch.second)) (λ n. IsPart bytes (tree_at bytes n))
beyond_of bytes Bid t branch b = (b.first_part, tt)
beyond_of bytes Ask t branch b = (tt, b.second_part)

pub step : (bytes : List ℕ) (id : ℕ) (side : Side) (t : Tree) (branch : Branch) → IsPart bytes t → IsBranch bytes t branch
    → IsStep bytes id side t (child_towards id branch) (child_beyond side id branch)
step bytes id side t branch part b =
    child-cases id branch (IsStep bytes id side t) side
    (λ one.
    let found = find-second bytes side id t branch part b one in record {
      part = b.second_part;
      fewer = nodes-second bytes t branch b;
      found = found;
      beyond_part = (beyond_of bytes side t branch b).0;
      behind = λ rests. after-second bytes side id t branch part b one (subst IsSome found rests);
    })
    (λ none.
    let found = find-first bytes side id t branch part b none in record {
      part = b.first_part;
      fewer = nodes-first bytes t branch b;
      found = found;
      beyond_part = (beyond_of bytes side t branch b).1;
      behind = λ rests. after-first bytes side id t branch part b none (subst IsSome found rests);
    })

-- the first order beyond, or else one further on
pub first_below-or : (bytes : List ℕ) (side : Side) (beyond next : Option ℕ) → IfSome beyond (λ n. IsPart bytes (tree_at bytes n))
    → option_or (first_below bytes side beyond) (first_below bytes side next) ≡ first_below bytes side (option_or beyond next)
first_below-or bytes side None next part = refl
first_below-or bytes side (Some n) next part = or-first _ _ (first-some bytes side (tree_at bytes n) part.held)

-- what was found so far on the way down, a step further
pub behind-step : (bytes : List ℕ) (id : ℕ) (side : Side) (t : Tree) (child : ℕ) (beyond next : Option ℕ) → IsStep bytes id side t child beyond
    → IsSome (order_with id (orders_of side t))
    → option_or (order_after id (orders_of side t)) (first_below bytes side next)
    ≡ option_or (order_after id (orders_of side (tree_at bytes child))) (first_below bytes side (option_or beyond next))
behind-step bytes id side t child beyond next s rests =
    ap (λ o. option_or o (first_below bytes side next)) (s.behind rests)
    ∙ or-assoc (order_after id (orders_of side (tree_at bytes child))) (first_below bytes side beyond) (first_below bytes side next)
    ∙ ap (λ o. option_or (order_after id (orders_of side (tree_at bytes child))) o) (first_below-or bytes side beyond next s.beyond_part)

-- no order is after the only one
pub after-alone : (id : ℕ) (order : Order) → order_after id (order ∷ []) ≡ None
after-alone id order = cond_both (eqb order.id id) None None (λ o. o ≡ None) (λ same. refl) (λ apart. refl)

-- what holds of each of two nodes that may be there holds of the first of them
pub part-or : (bytes : List ℕ) (beyond next : Option ℕ) → IfSome beyond (λ n. IsPart bytes (tree_at bytes n)) → IfSome next (λ n. IsPart bytes (tree_at bytes n))
    → IfSome (option_or beyond next) (λ n. IsPart bytes (tree_at bytes n))
part-or bytes None next one two = two
part-or bytes (Some n) next one two = one
