-- A new leaf beside a part of a tree: the tree that a new order makes.
use Rattle.std.proofs.Common.{◌≡◌, ◌≢◌, ℕ, suc, ◌+◌, ◌-◌, ◌<◌, ◌≤◌, ◌^◌, Bool, true, false, List, [], ◌∷◌, ◌++◌, length, append_assoc, Some, refl, sym, ap, subst, ◌∙◌, arith}
use Rattle.std.proofs.lemmas.Bool.{le-ltb, lt-ltb}
use Rattle.std.proofs.lemmas.List.{length-append}
use Rattle.dex_types.specs.declared.orders.Order.{Order}
use Rattle.dex_types.specs.declared.terms.Side.{Side}
use Rattle.dex_types.specs.declared.terms.Side.TheVariants.{Bid, Ask}
use Rattle.dex_types.specs.BookSide.{CanRest}
use Rattle.dex_types.specs.Posting.{posted}
use Rattle.dex_types.specs.Side.{precedes}
use Rattle.dex_slab.specs.Held.{Holds, IsInner, IsLeaf}
use Rattle.dex_slab.specs.Nodes.{count_of, node_bytes, root_of}
use Rattle.dex_slab.specs.Path.{Path, Leads, bit_behind, plug, shared_bits, top_key, top_of}
use Rattle.dex_slab.specs.Slab.{IsShared, IsSlabSize, IsTree, free_of, same, times}
use Rattle.dex_slab.specs.Tree.{Tree, Leaf, Inner, Other, AllKeys, Begins, CanAllRest, HasPrefixes, IsKnown, KeysAgree, leaves_of, nodes_of, orders_of}
use Rattle.dex_slab.specs.Walks.{Stops}
use Rattle.dex_slab.proofs.Holding.{AreSame, Holds-part, Holds-plug, top-plug}
use Rattle.dex_slab.proofs.IdLists.{AllIds, AllIds-append, AllIds-map, posted-behind, posted-front}
use Rattle.dex_slab.proofs.KeyBits.{Begins-from, Begins-lt}
use Rattle.dex_slab.proofs.Parting.{IsNewAt, least-shared, parts-keys, parts-low}
use Rattle.dex_slab.proofs.Plugs.{keys-part, keys-plug, known-part, known-plug, leaves-plug, least_at, nodes-plug, path_nodes, prefixes-part, prefixes-plug, rest-part, rest-plug, times-plug}
use Rattle.dex_slab.proofs.PoolLaw.{IsShared-order}
use Rattle.dex_slab.proofs.Retop.{Holds-retop, agree-retop, keys-retop, known-retop, leaves-retop, nodes-retop, nodes-top, orders-retop, prefixes-retop, rest-retop, retop, rest_of, top-retop}
use Rattle.dex_slab.proofs.Standing.{IsHeld, Stands}
use Rattle.dex_slab.proofs.Times.{times-append}
use Rattle.dex_slab.proofs.TreeOrders.{AllIds-of, before, before-precedes, behind, behind-follows, orders-plug}

-- two trees below an inner node, the new one as its second child or as its first
abbrev pub joined : Bool → ℕ → ℕ → ℕ → Tree → Tree → Tree
joined true node prefix key new old = Inner node prefix key old new
joined false node prefix key new old = Inner node prefix key new old

abbrev pub bit_number : Bool → ℕ
bit_number true = 1
bit_number false = 0

abbrev pub first_of : Bool → ℕ → ℕ → ℕ
first_of true new old = old
first_of false new old = new

abbrev pub second_of : Bool → ℕ → ℕ → ℕ
second_of true new old = new
second_of false new old = old

module _ (node prefix key : ℕ) (new old : Tree) where
  keys-joined : (one : Bool) (Fact : ℕ → Type 0) → Fact key → AllKeys Fact new → AllKeys Fact old → AllKeys Fact (joined one node prefix key new old)
  keys-joined true Fact here n o = (here, o, n)
  keys-joined false Fact here n o = (here, n, o)

  agree-joined : (one : Bool) → AllKeys (Begins prefix key (bit_number one)) new → AllKeys (Begins prefix key (1 - bit_number one)) old
      → KeysAgree new → KeysAgree old → KeysAgree (joined one node prefix key new old)
  agree-joined true n o kn ko = (o, n, ko, kn)
  agree-joined false n o kn ko = (n, o, kn, ko)

  known-joined : (one : Bool) → IsKnown new → IsKnown old → IsKnown (joined one node prefix key new old)
  known-joined true n o = (o, n)
  known-joined false n o = (n, o)

  rest-joined : (one : Bool) → CanAllRest new → CanAllRest old → CanAllRest (joined one node prefix key new old)
  rest-joined true n o = (o, n)
  rest-joined false n o = (n, o)

  prefixes-joined : (one : Bool) (least : ℕ) → least ≤ prefix → prefix < 128 → HasPrefixes (suc prefix) new → HasPrefixes (suc prefix) old
      → HasPrefixes least (joined one node prefix key new old)
  prefixes-joined true least le lt n o = (le, lt, o, n)
  prefixes-joined false least le lt n o = (le, lt, n, o)

  leaves-joined : (one : Bool) → leaves_of (joined one node prefix key new old) ≡ leaves_of new + leaves_of old
  leaves-joined true = omega arith
  leaves-joined false = refl

  times-joined : (one : Bool) (n : ℕ) → times n (nodes_of (joined one node prefix key new old)) ≡ same node n + times n (nodes_of new) + times n (nodes_of old)
  times-joined true n = omega (arith, times-append n (nodes_of old) (nodes_of new))
  times-joined false n = omega (arith, times-append n (nodes_of new) (nodes_of old))

  pub length-joined : (one : Bool) → length (nodes_of (joined one node prefix key new old)) ≡ suc (length (nodes_of new) + length (nodes_of old))
  length-joined true = omega (arith, length-append (nodes_of old) (nodes_of new))
  length-joined false = omega (arith, length-append (nodes_of new) (nodes_of old))

  pub top-joined : (one : Bool) → top_of (joined one node prefix key new old) ≡ node
  top-joined true = refl
  top-joined false = refl

  pub Holds-joined : (one : Bool) (bytes : List ℕ) → IsInner (node_bytes bytes node) prefix key (first_of one (top_of new) (top_of old)) (second_of one (top_of new) (top_of old))
      → Holds bytes new → Holds bytes old → Holds bytes (joined one node prefix key new old)
  Holds-joined true bytes h n o = (h, o, n)
  Holds-joined false bytes h n o = (h, n, o)

-- ---- the orders

nil_last : (xs : List Order) (order : Order) (ys : List Order) → (xs ++ order ∷ []) ++ ys ≡ xs ++ order ∷ ys
nil_last xs order ys = append_assoc xs (order ∷ []) ys

-- what stands beside a new leaf in book order, by the bit that leads to it
posted-joined : (one : Bool) (side : Side) (order : Order) (node leaf prefix : ℕ) (old : Tree) (others : List Order)
    → Begins prefix order.id (bit_number one) order.id → AllKeys (Begins prefix order.id (1 - bit_number one)) old
    → AllIds (λ id. precedes side id order.id ≡ false) others
    → posted side order (orders_of side old ++ others) ≡ orders_of side (joined one node prefix order.id (Leaf leaf order) old) ++ others
posted-joined true Ask order node leaf prefix old others here beside last =
    posted-behind Ask order (orders_of Ask old) others
    (AllIds-map (Begins prefix order.id 0) (λ id. precedes Ask id order.id ≡ true) (λ id begins. lt-ltb id order.id (Begins-lt prefix order.id id order.id begins here)) (orders_of Ask old) (AllIds-of (Begins prefix order.id 0) Ask old beside))
    ∙ ap (λ (l : List Order). orders_of Ask old ++ l) (posted-front Ask order others last)
    ∙ sym (nil_last (orders_of Ask old) order others)
posted-joined true Bid order node leaf prefix old others here beside last =
    posted-front Bid order (orders_of Bid old ++ others)
    (AllIds-append (λ id. precedes Bid id order.id ≡ false) (orders_of Bid old) others
    (AllIds-map (Begins prefix order.id 0) (λ id. precedes Bid id order.id ≡ false)
    (λ id begins. let lt = Begins-lt prefix order.id id order.id begins here in le-ltb order.id id (omega arith)) (orders_of Bid old) (AllIds-of (Begins prefix order.id 0) Bid old beside)) last)
posted-joined false Ask order node leaf prefix old others here beside last =
    posted-front Ask order (orders_of Ask old ++ others)
    (AllIds-append (λ id. precedes Ask id order.id ≡ false) (orders_of Ask old) others
    (AllIds-map (Begins prefix order.id 1) (λ id. precedes Ask id order.id ≡ false)
    (λ id begins. let lt = Begins-lt prefix order.id order.id id here begins in le-ltb id order.id (omega arith)) (orders_of Ask old) (AllIds-of (Begins prefix order.id 1) Ask old beside)) last)
posted-joined false Bid order node leaf prefix old others here beside last =
    posted-behind Bid order (orders_of Bid old) others
    (AllIds-map (Begins prefix order.id 1) (λ id. precedes Bid id order.id ≡ true) (λ id begins. lt-ltb order.id id (Begins-lt prefix order.id order.id id here begins)) (orders_of Bid old) (AllIds-of (Begins prefix order.id 1) Bid old beside))
    ∙ ap (λ (l : List Order). orders_of Bid old ++ l) (posted-front Bid order others last)
    ∙ sym (nil_last (orders_of Bid old) order others)

-- ---- the whole tree

module _ (path : Path) (part : Tree) (order : Order) (leaf moved : ℕ) (good : IsTree (plug path part)) (fits : order.id < 2 ^ 128) (low : top_key part < 2 ^ 128)
    (leads : Leads order.id path) (stops : Stops order.id part) (fresh : IsNewAt order.id part) (can_rest : CanRest order) (one : Bool)
    (bit : bit_behind (shared_bits (top_key part) order.id) order.id ≡ bit_number one) where
  abbrev s : ℕ
  s = shared_bits (top_key part) order.id

  -- the part, beside the new leaf
  abbrev pub grown : Tree
  grown = joined one (top_of part) s order.id (Leaf leaf order) (retop moved part)

  prefixed : HasPrefixes (least_at path) part
  prefixed = prefixes-part path part good.prefixes

  agreed : KeysAgree part
  agreed = keys-part path part good.keys

  known : IsKnown part
  known = known-part path part good.known

  s_low : s < 128
  s_low = parts-low order.id fits part (least_at path) low stops fresh prefixed

  bit-lt : (b : Bool) → bit_number b < 2
  bit-lt true = omega arith
  bit-lt false = omega arith

  beside_begins : AllKeys (Begins s order.id (1 - bit_number one)) part
  beside_begins = parts-keys order.id fits part (least_at path) low stops fresh prefixed agreed (1 - bit_number one) (omega (arith, bit-lt one))

  here_begins : Begins s order.id (bit_number one) order.id
  here_begins = Begins-from s order.id (bit_number one) order.id s_low refl bit

  -- the part's prefixes are longer than what it shares with the new key
  beside_prefixes : (t : Tree) (least : ℕ) → Stops order.id t → HasPrefixes least t → HasPrefixes (suc (shared_bits (top_key t) order.id)) t
  beside_prefixes (Leaf node other) least h p = tt
  beside_prefixes (Inner node prefix key first second) least h p = (h, p.1, p.2, p.3)
  beside_prefixes (Other node) least h p = absurd h

  agreed_grown : KeysAgree grown
  agreed_grown =
      agree-joined (top_of part) s order.id (Leaf leaf order) (retop moved part) one here_begins
      (keys-retop moved (Begins s order.id (1 - bit_number one)) part beside_begins) tt (agree-retop moved part agreed)

  pub good_grown : IsTree (plug path grown)
  good_grown = record {
    known = known-plug path part grown good.known
        (known-joined (top_of part) s order.id (Leaf leaf order) (retop moved part) one tt (known-retop moved part known));
    prefixes = prefixes-plug path part grown good.prefixes
        (prefixes-joined (top_of part) s order.id (Leaf leaf order) (retop moved part) one (least_at path)
        (least-shared order.id fits path part low known good.keys good.prefixes leads) s_low tt
        (prefixes-retop moved (suc s) part (beside_prefixes part (least_at path) stops prefixed)));
    keys = keys-plug order.id path part grown good.keys leads agreed_grown
        (λ Fact here all. keys-joined (top_of part) s order.id (Leaf leaf order) (retop moved part) one Fact here here (keys-retop moved Fact part all));
    can_rest = rest-plug path part grown good.can_rest
        (rest-joined (top_of part) s order.id (Leaf leaf order) (retop moved part) one can_rest (rest-retop moved part (rest-part path part good.can_rest)));
  }

  -- the order is posted
  pub orders_grown : (side : Side) → orders_of side (plug path grown) ≡ posted side order (orders_of side (plug path part))
  orders_grown side =
      let others : List Order = behind side path in
      let beside = keys-retop moved (Begins s order.id (1 - bit_number one)) part beside_begins in
      orders-plug side path grown
      ∙ ap (λ (l : List Order). before side path ++ l)
      (sym (posted-joined one side order (top_of part) leaf s (retop moved part) others here_begins beside (behind-follows side order.id path part good.keys leads))
      ∙ ap (λ (l : List Order). posted side order (l ++ others)) (orders-retop moved side part))
      ∙ sym (posted-behind side order (before side path) (orders_of side part ++ others) (before-precedes side order.id path part good.keys leads))
      ∙ ap (posted side order) (sym (orders-plug side path part))

  pub leaves_grown : leaves_of (plug path grown) ≡ leaves_of (plug path part) + 1
  leaves_grown =
      omega (arith, leaves-plug path grown, leaves-plug path part, leaves-joined (top_of part) s order.id (Leaf leaf order) (retop moved part) one, leaves-retop moved part)

  pub times_grown : (n : ℕ) → times n (nodes_of (plug path grown)) ≡ times n (leaf ∷ moved ∷ nodes_of (plug path part))
  times_grown n =
      omega (
        arith,
        times-plug n path grown,
        times-plug n path part,
        times-joined (top_of part) s order.id (Leaf leaf order) (retop moved part) one n,
        ap (times n) (nodes-retop moved part),
        ap (times n) (nodes-top part),
      )

  pub length_grown : length (nodes_of (plug path grown)) ≡ length (leaf ∷ moved ∷ nodes_of (plug path part))
  length_grown =
      omega (
        arith,
        nodes-plug path grown,
        nodes-plug path part,
        length-joined (top_of part) s order.id (Leaf leaf order) (retop moved part) one,
        ap (λ (l : List ℕ). length l) (nodes-retop moved part),
        ap (λ (l : List ℕ). length l) (nodes-top part),
      )

  -- the bytes in which the new leaf, the moved node and the new inner node were written
  pub record IsGrown (old new : List ℕ) : Type 0 where
    pub held : IsHeld old (plug path part)
    pub size : IsSlabSize (length new)
    pub shared : IsShared new (leaf ∷ moved ∷ nodes_of (plug path part)) (free_of new)
    pub count : count_of new ≡ leaves_of (plug path part) + 1
    pub root : root_of new ≡ root_of old
    pub leaf_is : IsLeaf (node_bytes new leaf) order
    pub copied : node_bytes new moved ≡ node_bytes old (top_of part)
    pub inner_is : IsInner (node_bytes new (top_of part)) s order.id (first_of one leaf moved) (second_of one leaf moved)
    pub kept : (n : ℕ) → n ≢ leaf → n ≢ moved → n ≢ top_of part → node_bytes new n ≡ node_bytes old n

  module _ (old new : List ℕ) (h : IsGrown old new) where
    -- each node is used once
    once : (n : ℕ) → same leaf n + same moved n + same (top_of part) n + times n (rest_of part) + times n (path_nodes path) ≤ 1
    once n =
        omega (arith, h.shared.once n, times-append n (leaf ∷ moved ∷ nodes_of (plug path part)) (free_of new), times-plug n path part, ap (times n) (nodes-top part))

    rest_same : AreSame (rest_of part) old new
    rest_same n met = h.kept n (λ e. absurd (omega (arith, once n))) (λ e. absurd (omega (arith, once n))) (λ e. absurd (omega (arith, once n)))

    path_same : AreSame (path_nodes path) old new
    path_same n met = h.kept n (λ e. absurd (omega (arith, once n))) (λ e. absurd (omega (arith, once n))) (λ e. absurd (omega (arith, once n)))

    holds_moved : Holds new (retop moved part)
    holds_moved = Holds-retop moved old new part (Holds-part old path part h.held.nodes) h.copied rest_same

    holds_grown : Holds new grown
    holds_grown =
        Holds-joined (top_of part) s order.id (Leaf leaf order) (retop moved part) one new
        (subst (λ (n : ℕ). IsInner (node_bytes new (top_of part)) s order.id (first_of one leaf n) (second_of one leaf n)) (sym (top-retop moved part)) h.inner_is)
        h.leaf_is holds_moved

    pub stands_grown : Stands new (Some (plug path grown))
    stands_grown =
        let top : top_of grown ≡ top_of part = top-joined (top_of part) s order.id (Leaf leaf order) (retop moved part) one in
        record {
          size = h.size;
          shared = IsShared-order new (leaf ∷ moved ∷ nodes_of (plug path part)) (nodes_of (plug path grown)) (free_of new) h.shared times_grown length_grown;
          count = h.count ∙ sym leaves_grown;
          good = good_grown;
          held = record {
            nodes = Holds-plug old new path part grown h.held.nodes holds_grown top path_same;
            root = top-plug path grown part top ∙ h.held.root ∙ sym h.root;
          };
        }
