use Rattle.std.proofs.Common.{◌∙◌}
use Rattle.dex_types.specs.QueuedEvent.{decoded_event}
use Rattle.dex_crank.specs.PaidBytes.{paid_in}
use Rattle.dex_index.proofs.NearLaws.{changed-near, found-near}
use Rattle.dex_index.proofs.paying.pay_indexed.Goals as goal

pub pay_among-requires : goal.pay_among-requires
pay_among-requires c = record {
  bytes = c.requires.bytes;
  found = found-near c.args.index.now c.args.event.now.owner c.args.accounts.now c.near-near.ensures ∙ c.requires.found;
  can_take = c.requires.can_take;
}

pub returns : goal.returns
returns c =
    changed-near c.args.index.now c.args.event.now.owner c.args.accounts.now c.near-near.ensures (paid_in (decoded_event c.args.event.now))
    c.pay_among.new.accounts c.pay_among.ensures
