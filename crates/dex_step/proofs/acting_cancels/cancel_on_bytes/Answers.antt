use Rattle.std.proofs.Common.{rules}
use Rattle.dex_slab.proofs.FrameKept.{account_kept}
use Rattle.dex_slab.specs.StandsFor.{IsSideAccount}
use Rattle.dex_types.specs.declared.terms.Side.TheVariants.{Bid, Ask}
use Rattle.dex_step.proofs.acting_cancels.cancel_on_bytes.Goals as goal

pub returns : goal.returns
returns c =
    let bids : IsSideAccount Bid c.apply_cancel_by_slots.new.bids.bytes.now =
    account_kept _ _ _ c.requires.bids c.apply_cancel_by_slots.ensures.bids.place.1 c.apply_cancel_by_slots.ensures.bids.holding in
    let asks : IsSideAccount Ask c.apply_cancel_by_slots.new.asks.bytes.now =
    account_kept _ _ _ c.requires.asks c.apply_cancel_by_slots.ensures.asks.place.1 c.apply_cancel_by_slots.ensures.asks.holding in
    record {
      count_is = search rules;
      does = search rules;
      list = search rules;
      queue = search rules;
      bids = search (rules, bids);
      asks = search (rules, asks);
      bid_room = search rules;
      ask_room = search rules;
    }
