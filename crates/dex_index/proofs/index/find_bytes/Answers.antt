use Rattle.dex_index.proofs.NearLaws.{found-near}
use Rattle.dex_index.proofs.index.find_bytes.Goals as goal

pub returns : goal.returns
returns c = rw (found-near c.args.index.now c.args.address c.args.accounts.now c.near-near.ensures) at c.find_bytes.ensures
