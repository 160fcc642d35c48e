use Rattle.dex_accounts.proofs.Decoded.{told}
use Rattle.dex_accounts.proofs.laws.accounts_tell_their_market.Goals as goal

pub returns : goal.returns
returns c = told
