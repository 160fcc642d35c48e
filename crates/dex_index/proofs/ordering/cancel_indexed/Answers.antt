use Rattle.dex_index.proofs.NearLaws.{can-near, kept-near}
use Rattle.dex_index.proofs.ordering.cancel_indexed.Goals as goal

pub cancel_among-requires : goal.cancel_among-requires
cancel_among-requires c = can-near c.args.index.now c.args.owner c.args.accounts.now c.near-near.ensures _ c.requires

pub returns-clause-held : goal.returns-clause-held
returns-clause-held c =
    kept-near c.args.index.now c.args.owner c.args.accounts.now c.near-near.ensures c.cancel_among.new.accounts c.cancel_among.ensures.held
