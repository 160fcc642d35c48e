use Rattle.std.proofs.Common.{◌≡◌, ◌∙◌, ◌+◌, ℕ, List, [], Option, Some, ap, arith, length, refl, subst, sym}
use Rattle.dex_types.specs.declared.orders.Order.{Order}
use Rattle.dex_types.specs.Side.{price_of}
use Rattle.dex_laws.specs.Walks.{IsReached, orders_from}
use Rattle.dex_slab.specs.Slab.{resting}
use Rattle.dex_desk.specs.Books.{capped}
use Rattle.dex_desk.proofs.BookLaws.{HasCounted, counted-all, counted-end, counted-on, walk-at}
use Rattle.dex_desk.proofs.book.level_at.Goals as goal

pub orders-init : goal.orders-init
orders-init c = record {
  counted = record { lots = ap capped (omega arith); behind = refl; small = omega arith };
  reached = c.requires.rests;
}

pub orders-smaller : goal.orders-smaller
orders-smaller c =
    let side = c.args.side.now.side in
    let bytes = c.args.side.now.bytes.now in
    let order : Order = c.in-Some.order in
    let at = walk-at side bytes c.orders.next order c.requires.slab c.in-Some.is c.orders.invariant.reached in
    let rest = ap (λ (o : Option Order). length (orders_from o (resting side bytes))) c.after-next.ensures in
    omega (arith, ap length at.front, rest)

pub orders-preserved : goal.orders-preserved
orders-preserved c =
    let side = c.args.side.now.side in
    let bytes = c.args.side.now.bytes.now in
    let all = resting side bytes in
    let order : Order = c.in-Some.order in
    let price = price_of c.args.first.id in
    let at = walk-at side bytes c.orders.next order c.requires.slab c.in-Some.is c.orders.invariant.reached in
    let same : price_of order.id ≡ price = omega (arith, c.price_of.ensures, c.price_of-price.ensures, c.if-price_of-price.false) in
    let counted = counted-on price c.orders.lots order (orders_from c.orders.next all) _ (orders_from (Some c.args.first) all) at.front same c.orders.invariant.counted in
    record {
      counted = subst (λ (n : ℕ). HasCounted price n (orders_from c.after-next.result all) (orders_from (Some c.args.first) all)) (sym c.saturating_add-lots.ensures)
          (subst (λ (o : Option Order). HasCounted price (capped (c.orders.lots + order.lots)) (orders_from o all) (orders_from (Some c.args.first) all)) (sym c.after-next.ensures) counted);
      reached = subst (λ (o : Option Order). IsReached o all) (sym c.after-next.ensures) at.reached;
    }

pub returns-then-price_of-price : goal.returns-then-price_of-price
returns-then-price_of-price c =
    let side = c.args.side.now.side in
    let bytes = c.args.side.now.bytes.now in
    let all = resting side bytes in
    let order : Order = c.in-Some.order in
    let price = price_of c.args.first.id in
    let at = walk-at side bytes c.orders.next order c.requires.slab c.in-Some.is c.orders.invariant.reached in
    let other : price_of order.id ≡ price → ⊥ = λ same. c.if-price_of-price.true (c.price_of.ensures ∙ same ∙ sym c.price_of-price.ensures) in
    let counted = counted-all price c.orders.lots order (orders_from c.orders.next all) _ (orders_from (Some c.args.first) all) at.front other c.orders.invariant.counted in
    record {
      side = refl;
      price = c.price_of-price.ensures;
      lots = counted.0;
      behind = sym (ap (λ (o : Option Order). orders_from o all) c.in-Some.is) ∙ counted.1;
      reached = at.rests;
    }

pub returns : goal.returns
returns c =
    let all = resting c.args.side.now.side c.args.side.now.bytes.now in
    let price = price_of c.args.first.id in
    let none : orders_from c.orders.next all ≡ [] = ap (λ (o : Option Order). orders_from o all) c.in_default.is in
    let counted = counted-end price c.orders.lots (orders_from (Some c.args.first) all)
    (subst (λ (l : List Order). HasCounted price c.orders.lots l (orders_from (Some c.args.first) all)) none c.orders.invariant.counted) in
    record {
      side = refl;
      price = c.price_of-price.ensures;
      lots = counted.0;
      behind = none ∙ counted.1;
      reached = c.orders.invariant.reached;
    }
