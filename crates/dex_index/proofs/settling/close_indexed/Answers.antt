use Rattle.dex_index.proofs.NearLaws.{can-near, has-near}
use Rattle.dex_index.proofs.settling.close_indexed.Goals as goal

pub close_among-requires : goal.close_among-requires
close_among-requires c = can-near c.args.index.now c.args.owner c.args.accounts.now c.near-near.ensures _ c.requires

pub returns : goal.returns
returns c = has-near c.args.index.now c.args.owner c.args.accounts.now c.near-near.ensures _ c.close_among.new.accounts c.close_among.ensures
