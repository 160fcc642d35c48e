use Rattle.std.proofs.Common.{◌∷◌, [], ◌++◌, Option, Some, sym, ap, ◌∙◌, subst, arith}
use Rattle.std.proofs.lemmas.List.{append_assoc}
use Rattle.dex_types.specs.declared.orders.Order.{Order}
use Rattle.dex_laws.specs.Walks.{orders_from, IsReached}
use Rattle.dex_laws.proofs.WalkLaws.{walk-step}
use Rattle.dex_slab.specs.Slab.{resting}
use Rattle.dex_slab.specs.SlabSide.{slab_side}
use Rattle.dex_audit_rules.proofs.gathered.resting_orders.Goals as goal

pub orders-smaller : goal.orders-smaller
orders-smaller c =
    let all = resting c.args.side c.args.bytes.now in
    let order : Order = c.in-Some.order in
    let reached : IsReached (Some order) all = subst (λ (o : Option Order). IsReached o all) c.in-Some.is c.orders.invariant.reached in
    let step = walk-step c.args.side all order (slab_side c.args.side c.args.bytes.now c.requires).in_order reached in
    let next = ap (λ (o : Option Order). orders_from o all) c.in-Some.is ∙ step.0 ∙ ap (λ (o : Option Order). order ∷ orders_from o all) (sym c.after-next.ensures) in
    rw next (omega arith)

pub orders-preserved : goal.orders-preserved
orders-preserved c =
    let all = resting c.args.side c.args.bytes.now in
    let order : Order = c.in-Some.order in
    let reached : IsReached (Some order) all = subst (λ (o : Option Order). IsReached o all) c.in-Some.is c.orders.invariant.reached in
    let step = walk-step c.args.side all order (slab_side c.args.side c.args.bytes.now c.requires).in_order reached in
    let next = ap (λ (o : Option Order). orders_from o all) c.in-Some.is ∙ step.0 ∙ ap (λ (o : Option Order). order ∷ orders_from o all) (sym c.after-next.ensures) in
    record {
      read =
          ap (λ l. l ++ orders_from c.after-next.result all) c.in_ok-add.ensures
          ∙ append_assoc c.orders.orders.items (order ∷ []) (orders_from c.after-next.result all)
          ∙ ap (λ l. c.orders.orders.items ++ l) (sym next) ∙ c.orders.invariant.read;
      reached = subst (λ (o : Option Order). IsReached o all) (sym c.after-next.ensures) step.1;
    }
