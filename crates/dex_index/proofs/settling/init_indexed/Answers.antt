use Rattle.dex_index.proofs.NearLaws.{can-near, has-near}
use Rattle.dex_index.proofs.settling.init_indexed.Goals as goal

pub init_among-requires : goal.init_among-requires
init_among-requires c = can-near c.args.index.now c.args.owner c.args.accounts.now c.near-near.ensures _ c.requires

pub returns : goal.returns
returns c = has-near c.args.index.now c.args.owner c.args.accounts.now c.near-near.ensures _ c.init_among.new.accounts c.init_among.ensures
