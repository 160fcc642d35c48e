use Rattle.std.proofs.Common.{◌-◌, length-append, take, sym, ap, ◌∙◌, arith, rules}
use Rattle.std.proofs.lemmas.List.{length-take}
use Rattle.dex_types.specs.declared.terms.Side.TheVariants.{Bid, Ask}
use Rattle.dex_types.specs.Cancel.{all_orders_of, orders_of}
use Rattle.dex_cancel.specs.TakenOff.{queue_of, with_outs, without_all}
use Rattle.dex_cancel.proofs.TakenOffLaws.{room-now}
use Rattle.dex_cancel.proofs.PruneLaws.{asks_of_first, asks_of_first-left, bids-pruned, asks-pruned, outs-pruned}
use Rattle.dex_cancel.proofs.pruning.prune.Goals as goal

pub prune_side-requires-clause-can : goal.prune_side-requires-clause-can
prune_side-requires-clause-can g c =
    let bids = g.B.SideRead.orders c.args.bids.now in
    let asks = g.A.SideRead.orders c.args.asks.now in
    let own = orders_of c.args.account Bid bids in
    let later = orders_of c.args.account Ask asks in
    let most = c.from-limit.result in
    let taken = c.prune_side-taken.result in
    let bid = c.prune_side-taken.ensures in
    record {
      accepted = bid.left.accepted;
      room = room-now c.args.sizes (take most own) (take (most - taken) later) (take c.args.limit (all_orders_of c.args.account bids asks)) (queue_of c.args.ring.now.bytes.now)
          (queue_of c.prune_side-taken.new.ring.bytes.now) bid.left.queue c.requires.can.room
          (omega (
            arith,
            c.from-limit.ensures,
            bid.count,
            length-take most own,
            length-take (most - taken) later,
            length-take c.args.limit (all_orders_of c.args.account bids asks),
            length-append own later,
          ));
    }

pub returns : goal.returns
returns g c =
    let bids = g.B.SideRead.orders c.args.bids.now in
    let asks = g.A.SideRead.orders c.args.asks.now in
    let own = orders_of c.args.account Bid bids in
    let later = orders_of c.args.account Ask asks in
    let ring = queue_of c.args.ring.now.bytes.now in
    let first = c.prune_side-taken.ensures.left in
    let second = c.prune_side.ensures.left in
    let left = asks_of_first-left c.args.account c.args.limit _ _ bids c.from-limit.ensures c.prune_side-taken.ensures.count in
    let outs = first.queue ∙ ap (λ n. with_outs c.args.sizes (take n own) ring) c.from-limit.ensures in
    record {
      count =
          omega (
            arith,
            c.from-limit.ensures,
            c.prune_side-taken.ensures.count,
            c.prune_side.ensures.count,
            length-take c.from-limit.result own,
            length-take (c.from-limit.result - c.prune_side-taken.result) later,
            length-take c.args.limit (all_orders_of c.args.account bids asks),
            length-append own later,
          );
      left = record {
        bids = first.orders ∙ ap (λ n. without_all Bid (take n own) bids) c.from-limit.ensures ∙ sym (bids-pruned c.args.account c.args.limit bids asks);
        asks = second.orders ∙ ap (λ n. without_all Ask (take n later) asks) left ∙ sym (asks-pruned c.args.account c.args.limit bids asks);
        queue =
            second.queue
            ∙ ap (λ n. with_outs c.args.sizes (take n later) (queue_of c.prune_side-taken.new.ring.bytes.now)) left
            ∙ ap (with_outs c.args.sizes (take (asks_of_first c.args.account c.args.limit bids) later)) outs
            ∙ sym (outs-pruned c.args.sizes c.args.account c.args.limit bids asks ring);
        accepted = second.accepted;
      };
      bids = search rules;
      asks = search rules;
      place = search rules;
    }
