use Rattle.dex_accounts.proofs.OneMarket.{one_market}
use Rattle.dex_accounts.proofs.laws.accounts_stand_for_one_market.Goals as goal

pub returns : goal.returns
returns c = one_market
