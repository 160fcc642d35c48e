use Rattle.std.proofs.Common.{rules}
use Rattle.dex_slab.proofs.FrameKept.{account_kept}
use Rattle.dex_slab.specs.StandsFor.{IsSideAccount}
use Rattle.dex_types.specs.Side.{opposite}
use Rattle.dex_step.proofs.acting_orders.order_on_bytes.Goals as goal

pub returns : goal.returns
returns c =
    let own : IsSideAccount c.args.taker.id_side c.apply_order.new.own.bytes.now =
    account_kept _ _ _ c.requires.own c.apply_order.ensures.own.place.1 c.apply_order.ensures.own.holding in
    let met : IsSideAccount (opposite c.args.taker.id_side) c.apply_order.new.opposite.bytes.now =
    account_kept _ _ _ c.requires.met c.apply_order.ensures.opposite.place.1 c.apply_order.ensures.opposite.holding in
    record {
      reply_is = search rules;
      does = search rules;
      list = search rules;
      queue = search rules;
      account = search rules;
      own = search (rules, own);
      met = search (rules, met);
      room = search rules;
    }
