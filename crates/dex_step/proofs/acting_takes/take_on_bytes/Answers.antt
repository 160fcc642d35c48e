use Rattle.std.proofs.Common.{rules}
use Rattle.dex_slab.proofs.FrameKept.{account_kept}
use Rattle.dex_slab.specs.StandsFor.{IsSideAccount}
use Rattle.dex_types.specs.Side.{opposite}
use Rattle.dex_step.proofs.acting_takes.take_on_bytes.Goals as goal

pub returns : goal.returns
returns c =
    let met : IsSideAccount (opposite c.args.taker.id_side) c.apply_take.new.opposite.bytes.now =
    account_kept _ _ _ c.requires.met c.apply_take.ensures.side.place.1 c.apply_take.ensures.side.holding in
    record {
      reply_is = search rules;
      does = search rules;
      list = search rules;
      market = search rules;
      queue = search rules;
      met = search (rules, met);
      room = search rules;
    }
