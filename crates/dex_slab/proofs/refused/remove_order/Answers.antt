use Rattle.std.proofs.Common.{Option, ap, ◌∙◌, arith}
use Rattle.std.proofs.lemmas.List.{length-append}
use Rattle.dex_slab.specs.Nodes.{count_of, free_head_of, free_len_of}
use Rattle.dex_slab.specs.Slab.{free_of, nodes_in, orders_in, tree_of}
use Rattle.dex_slab.specs.Tree.{Tree}
use Rattle.dex_slab.proofs.FoundLaw.{given-some}
use Rattle.dex_slab.proofs.FreeList.{length-free_from}
use Rattle.dex_slab.proofs.HeaderLaw.{tree_of-kept}
use Rattle.dex_slab.proofs.refused.remove_order.Goals as goal

pub take_node-requires : goal.take_node-requires
take_node-requires c =
    let left = c.remove_order-order.new.bytes in
    let slab = c.remove_order-order.ensures.slab in
    record {
      used = nodes_in (tree_of left);
      shared = slab.shared;
      spare = omega (
        arith,
        length-append (nodes_in (tree_of left)) (free_of left),
        length-free_from left (free_len_of left) (free_head_of left),
        slab.shared.whole,
        slab.shared.bump,
        c.remove_order-order.ensures.freed,
        given-some (count_of c.args.bytes.now),
      );
      few = slab.size.few;
    }

pub returns-clause-orders : goal.returns-clause-orders
returns-clause-orders c side =
    let left = c.remove_order-order.new.bytes in
    let taken = c.take_node.ensures in
    ap (λ (o : Option Tree). orders_in side o) (tree_of-kept left c.take_node.new.bytes c.remove_order-order.ensures.slab taken.changes taken.root taken.count)
    ∙ c.remove_order-order.ensures.orders side
