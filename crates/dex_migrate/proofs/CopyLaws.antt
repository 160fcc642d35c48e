-- Orders that are put on an empty side, the best first.
use Rattle.std.proofs.Common.{◌≡◌, ℕ, ◌<◌, ◌++◌, true, List, [], ◌∷◌, length, Option, Some, sym, ap, ◌∙◌, subst, arith}
use Rattle.std.specs.List.{All}
use Rattle.std.proofs.lemmas.List.{append-nil, append_assoc, length-append}
use Rattle.std.proofs.lemmas.List.Elements.{All-nil, All-cons, All-head, All-tail}
use Rattle.dex_laws.specs.Walks.{orders_from, IsReached}
use Rattle.dex_laws.proofs.BookSideLaws.{between-sorted, order_with-none}
use Rattle.dex_laws.proofs.PostLaws.{posted-at}
use Rattle.dex_laws.proofs.WalkLaws.{walk-step}
use Rattle.dex_types.specs.declared.orders.Order.{Order}
use Rattle.dex_types.specs.declared.terms.Side.{Side}
use Rattle.dex_types.specs.BookSide.{CanRest, IsBookSide, IsNewId, order_after}
use Rattle.dex_types.specs.Posting.{InBookOrder, PrecedesAll, posted}
use Rattle.dex_types.specs.Side.{precedes}
use Rattle.dex_slab.specs.Slab.{IsSlab, resting, room_in}
use Rattle.dex_slab.specs.SlabSide.{slab_side}

precedes-one : (side : Side) (id : ℕ) (before : List Order) (order : Order) (after : List Order) → PrecedesAll side id (before ++ order ∷ after) → precedes side id order.id ≡ true
precedes-one side id [] order after all = all.0
precedes-one side id (first ∷ before) order after all = precedes-one side id before order after all.1

front-precedes : (side : Side) (before : List Order) (order : Order) (after : List Order) → InBookOrder side (before ++ order ∷ after)
    → All (λ (o : Order). precedes side o.id order.id ≡ true) before
front-precedes side [] order after sorted = All-nil _
front-precedes side (first ∷ before) order after sorted =
    All-cons (λ (o : Order). precedes side o.id order.id ≡ true) first before (precedes-one side first.id before order after sorted.0)
    (front-precedes side before order after sorted.1)

holds-of : (P : Order → Type 0) (before : List Order) (order : Order) (after : List Order) → All P (before ++ order ∷ after) → P order
holds-of P [] order after all = All-head P order after all
holds-of P (first ∷ before) order after all = holds-of P before order after (All-tail P first (before ++ order ∷ after) all)

-- where these were copied, and this is the next order
pub record IsCopied (side : Side) (all copied : List Order) (order : Order) : Type 0 where
  pub new : IsNewId order.id copied
  pub can_rest : CanRest order
  pub less : length copied < length all
  pub again : posted side order copied ++ orders_from (order_after order.id all) all ≡ all
  pub reached : IsReached (order_after order.id all) all
  pub smaller : length (orders_from (order_after order.id all) all) < length (orders_from (Some order) all)

pub copy-step : (side : Side) (room : ℕ) (all copied : List Order) (order : Order) → IsBookSide side room all → copied ++ orders_from (Some order) all ≡ all
    → IsReached (Some order) all → IsCopied side all copied order
copy-step side room all copied order held joined reached =
    let walk = walk-step side all order held.in_order reached in
    let rest : List Order = orders_from (order_after order.id all) all in
    let whole : copied ++ order ∷ rest ≡ all = ap (λ (l : List Order). copied ++ l) (sym walk.0) ∙ joined in
    let sorted : InBookOrder side (copied ++ order ∷ rest) = subst (InBookOrder side) (sym whole) held.in_order in
    let front : All (λ (o : Order). precedes side o.id order.id ≡ true) copied = front-precedes side copied order rest sorted in
    let put : posted side order copied ≡ copied ++ order ∷ [] =
    ap (posted side order) (sym (append-nil copied)) ∙ posted-at side order copied [] front tt in
    let many : length (copied ++ order ∷ rest) ≡ length all = ap (λ (l : List Order). length l) whole in
    let left : length (orders_from (Some order) all) ≡ length (order ∷ rest) = ap (λ (l : List Order). length l) walk.0 in
    record {
      new = order_with-none order.id copied (between-sorted side copied order rest sorted).apart;
      can_rest = holds-of CanRest copied order rest (subst (All CanRest) (sym whole) held.can_rest);
      less = omega (arith, many, length-append copied (order ∷ rest));
      again = ap (λ (l : List Order). l ++ rest) put ∙ append_assoc copied (order ∷ []) rest ∙ whole;
      reached = walk.1;
      smaller = omega (arith, left);
    }

-- the orders of a slab are copied so far, where the next of them is known
pub copy-from : (side : Side) (from : List ℕ) (slab : IsSlab from) (copied : List Order) (next : Option Order) (order : Order) → next ≡ Some order
    → copied ++ orders_from next (resting side from) ≡ resting side from → IsReached next (resting side from) → IsCopied side (resting side from) copied order
copy-from side from slab copied next order is joined reached =
    let all : List Order = resting side from in
    copy-step side (room_in from) all copied order (slab_side side from slab)
    (subst (λ (n : Option Order). copied ++ orders_from n all ≡ all) is joined)
    (subst (λ (n : Option Order). IsReached n all) is reached)
