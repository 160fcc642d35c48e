-- a new order leaves both sides in order, and no bid that crosses an ask
use Rattle.std.proofs.Common.{ℕ, ◌+◌, ◌-◌, ◌<◌, ◌^◌, ◌≡◌, ◌≢◌, ⊎_elim, true, false, List, [], ◌∷◌, length, take, sym, ap, ◌∙◌, subst, arith}
use Rattle.std.specs.List.{All}
use Rattle.std.proofs.lemmas.Bool.{cases_Bool, leb-false, lt-leb, false≢true, cond-true, cond-false}
use Rattle.std.proofs.lemmas.List.Elements.{All-nil, All-cons, All-take, All-weaker}
use Rattle.dex_types.specs.declared.orders.Order.{Order}
use Rattle.dex_types.specs.declared.terms.Lots.{Lots}
use Rattle.dex_types.specs.declared.terms.Side.{Side}
use Rattle.dex_types.specs.declared.terms.Side.TheVariants.{Bid, Ask}
use Rattle.dex_types.specs.Market.{Market, orders, capacity}
use Rattle.dex_types.specs.Meeting.{Meeting}
use Rattle.dex_types.specs.NewOrder.{NewOrder, Ordering, order_on, after_order, meeting_of, standing_of, terms_of, demand_of, rested, full_lock, spent}
use Rattle.dex_types.specs.Posting.{InBookOrder, post, can_rest, still_crosses, affordable}
use Rattle.dex_types.specs.Side.{price_of, sequence_of, id_of, opposite, crosses, precedes}
use Rattle.dex_types.specs.Trader.{Account}
use Rattle.dex_laws.specs.Book.{IsUncrossed, IsSideInOrder, IsBookInOrder}
use Rattle.dex_laws.proofs.BestFirstLaws.{All-PrecedesAll}
use Rattle.dex_laws.proofs.IdLaws.{price_of-id_of, sequence_of-id_of, crosses-before}
use Rattle.dex_laws.proofs.LeftLaws.{meet-left, All-left, InBookOrder-left}
use Rattle.dex_laws.proofs.PostLaws.{post-induction, All-posted, InBookOrder-post}

-- no order of one side crosses one of the other
abbrev pub NoneCrosses : Side → List Order → List Order → Type 0
NoneCrosses side own opposing = All (λ (order : Order). All (λ (other : Order). crosses side (price_of order.id) (price_of other.id) ≡ false) opposing) own

-- where the best opposite order does not cross, none does
pub none-crosses : (side : Side) (limit : ℕ) (left : List Order) → InBookOrder (opposite side) left → still_crosses side limit left ≡ false
    → All (λ (o : Order). crosses side limit (price_of o.id) ≡ false) left
none-crosses side limit [] sorted clear = All-nil (λ (o : Order). crosses side limit (price_of o.id) ≡ false)
none-crosses side limit (order ∷ others) sorted clear =
    All-cons (λ (o : Order). crosses side limit (price_of o.id) ≡ false) order others clear
    (All-weaker (λ (o : Order). precedes (opposite side) order.id o.id ≡ true) (λ (o : Order). crosses side limit (price_of o.id) ≡ false)
    (λ o before. ⊎_elim
    (λ (crossing : crosses side limit (price_of o.id) ≡ true). absurd (false≢true (sym clear ∙ crosses-before side limit order.id o.id before crossing)))
    (λ (away : crosses side limit (price_of o.id) ≡ false). away)
    (cases_Bool (crosses side limit (price_of o.id))))
    others (All-PrecedesAll (opposite side) order.id others sorted.0))

-- an order rests only where the best opposite order left does not cross it
pub rested-clear : (side : Side) (sizes : Lots) (n : NewOrder) (met : Meeting) → 0 < rested side sizes n met → still_crosses side n.price met.left ≡ false
rested-clear side sizes n met some =
    let lots : ℕ = affordable side sizes n.price met.demand.lots (full_lock side sizes n - spent side sizes n met) in
    ⊎_elim
    (λ (may : can_rest n.order_type ≡ true). ⊎_elim
    (λ (crossing : still_crosses side n.price met.left ≡ true).
    let none : rested side sizes n met ≡ 0 = cond-true _ _ _ may ∙ cond-true _ _ _ crossing in absurd (omega arith))
    (λ (clear : still_crosses side n.price met.left ≡ false). clear)
    (cases_Bool (still_crosses side n.price met.left)))
    (λ (never : can_rest n.order_type ≡ false). let none : rested side sizes n met ≡ 0 = cond-false _ _ _ never in absurd (omega arith))
    (cases_Bool (can_rest n.order_type))

-- what holds of each order on the side, and of the new one if it has lots, holds of each after a posting
pub All-post : (P : Order → Type 0) (side : Side) (room : ℕ) (order : Order) (standing : List Order) → (0 < order.lots → P order) → All P standing
    → All P (post side room order standing).side
All-post P side room order standing here all =
    post-induction side room order standing (λ posting. All P posting.side)
    (λ none. all)
    (λ some space. All-posted P side order (here some) standing all)
    (λ some full. All-posted P side order (here some) (take (length standing - 1) standing) (All-take P (length standing - 1) standing all))

-- a book that no order crosses stays so
uncrossed-order : (side : Side) (m : Market) (account : Account) (n : NewOrder) → m.next_sequence < 2 ^ 64
    → InBookOrder (opposite side) (orders (opposite side) m) → NoneCrosses side (orders side m) (orders (opposite side) m)
    → NoneCrosses side (order_on side m account n).posting.side (order_on side m account n).met.left
uncrossed-order side m account n small sorted clear =
    let o : Ordering = order_on side m account n in
    let opposing : List Order = orders (opposite side) m in
    let is_left = meet-left side (terms_of m.listing.sizes n) (demand_of side m.listing.sizes n) opposing in
    All-post (λ (order : Order). All (λ (other : Order). crosses side (price_of order.id) (price_of other.id) ≡ false) o.met.left)
    side (capacity side m) o.order (orders side m)
    (λ some.
    subst (λ price. All (λ (other : Order). crosses side price (price_of other.id) ≡ false) o.met.left) (sym (price_of-id_of side n.price m.next_sequence small))
    (none-crosses side n.price o.met.left (InBookOrder-left (opposite side) o.met.left opposing is_left sorted)
    (rested-clear side m.listing.sizes n o.met some)))
    (All-weaker (λ (order : Order). All (λ (other : Order). crosses side (price_of order.id) (price_of other.id) ≡ false) opposing)
    (λ (order : Order). All (λ (other : Order). crosses side (price_of order.id) (price_of other.id) ≡ false) o.met.left)
    (λ order all.
    All-left (λ (other : Order). crosses side (price_of order.id) (price_of other.id) ≡ false) (λ other lots some_go some_stay away. away) o.met.left opposing is_left all)
    (orders side m) clear)

-- the new order's id is new where all numbers are below the next
new-apart : (side : Side) (price next : ℕ) (standing : List Order) → next < 2 ^ 64 → All (λ (order : Order). sequence_of side order.id < next) standing
    → All (λ (order : Order). order.id ≢ id_of side price next) standing
new-apart side price next standing small numbered =
    All-weaker (λ (order : Order). sequence_of side order.id < next) (λ (order : Order). order.id ≢ id_of side price next)
    (λ order older same.
    omega (arith, older, ap (sequence_of side) same, sequence_of-id_of side price next small))
    standing numbered

own-in_order : (side : Side) (m : Market) (account : Account) (n : NewOrder) → m.next_sequence < 2 ^ 64 → IsSideInOrder side m.next_sequence (orders side m)
    → IsSideInOrder side (m.next_sequence + 1) (order_on side m account n).posting.side
own-in_order side m account n small in_order =
    let o : Ordering = order_on side m account n in
    record {
      sorted = InBookOrder-post side (capacity side m) o.order (orders side m) (new-apart side n.price m.next_sequence (orders side m) small in_order.numbered) in_order.sorted;
      numbered =
          All-post (λ (order : Order). sequence_of side order.id < m.next_sequence + 1) side (capacity side m) o.order (orders side m)
          (λ some. omega (arith, sequence_of-id_of side n.price m.next_sequence small))
          (All-weaker (λ (order : Order). sequence_of side order.id < m.next_sequence) (λ (order : Order). sequence_of side order.id < m.next_sequence + 1)
          (λ order older. omega arith) (orders side m) in_order.numbered);
    }

opposing-in_order : (side : Side) (m : Market) (n : NewOrder) → IsSideInOrder (opposite side) m.next_sequence (orders (opposite side) m)
    → IsSideInOrder (opposite side) (m.next_sequence + 1) (meeting_of side (standing_of side m) n).left
opposing-in_order side m n in_order =
    let opposing : List Order = orders (opposite side) m in
    let is_left = meet-left side (terms_of m.listing.sizes n) (demand_of side m.listing.sizes n) opposing in
    record {
      sorted = InBookOrder-left (opposite side) (meeting_of side (standing_of side m) n).left opposing is_left in_order.sorted;
      numbered =
          All-weaker (λ (order : Order). sequence_of (opposite side) order.id < m.next_sequence) (λ (order : Order). sequence_of (opposite side) order.id < m.next_sequence + 1)
          (λ order older. omega arith) (meeting_of side (standing_of side m) n).left
          (All-left (λ (order : Order). sequence_of (opposite side) order.id < m.next_sequence) (λ order lots some_go some_stay older. older)
          (meeting_of side (standing_of side m) n).left opposing is_left in_order.numbered);
    }

-- prices that do not cross, seen from either side
NoneCrosses-bids : (bids asks : List Order) → IsUncrossed bids asks → NoneCrosses Bid bids asks
NoneCrosses-bids bids asks below = λ i bid standing. λ j ask offered. lt-leb _ _ (below i bid standing j ask offered)

bids-NoneCrosses : (bids asks : List Order) → NoneCrosses Bid bids asks → IsUncrossed bids asks
bids-NoneCrosses bids asks none = λ i bid standing. λ j ask offered. leb-false _ _ (none i bid standing j ask offered)

NoneCrosses-asks : (bids asks : List Order) → IsUncrossed bids asks → NoneCrosses Ask asks bids
NoneCrosses-asks bids asks below = λ j ask offered. λ i bid standing. lt-leb _ _ (below i bid standing j ask offered)

asks-NoneCrosses : (bids asks : List Order) → NoneCrosses Ask asks bids → IsUncrossed bids asks
asks-NoneCrosses bids asks none = λ i bid standing. λ j ask offered. leb-false _ _ (none j ask offered i bid standing)

-- a book in order is in order after each new order
pub IsBookInOrder-after_order : (side : Side) (m : Market) (account : Account) (n : NewOrder) → m.next_sequence < 2 ^ 64 → IsBookInOrder m
    → IsBookInOrder (after_order side account n (order_on side m account n) m)
IsBookInOrder-after_order Bid m account n small book = record {
  bids = own-in_order Bid m account n small book.bids;
  asks = opposing-in_order Bid m n book.asks;
  uncrossed = bids-NoneCrosses _ _ (uncrossed-order Bid m account n small book.asks.sorted (NoneCrosses-bids m.bids m.asks book.uncrossed));
}
IsBookInOrder-after_order Ask m account n small book = record {
  bids = opposing-in_order Ask m n book.bids;
  asks = own-in_order Ask m account n small book.asks;
  uncrossed = asks-NoneCrosses _ _ (uncrossed-order Ask m account n small book.bids.sorted (NoneCrosses-asks m.bids m.asks book.uncrossed));
}
