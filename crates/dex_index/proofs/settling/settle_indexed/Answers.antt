use Rattle.dex_index.proofs.NearLaws.{can-near, has-near}
use Rattle.dex_index.proofs.settling.settle_indexed.Goals as goal

pub settle_among-requires : goal.settle_among-requires
settle_among-requires c = can-near c.args.index.now c.args.owner c.args.accounts.now c.near-near.ensures _ c.requires

pub returns : goal.returns
returns c = has-near c.args.index.now c.args.owner c.args.accounts.now c.near-near.ensures _ c.settle_among.new.accounts c.settle_among.ensures
