use Rattle.dex_accounts.proofs.PartLaws.{StandsFor-parts}
use Rattle.dex_accounts.proofs.laws.accounts_stand_for_the_market_of_their_parts.Goals as goal

pub returns : goal.returns
returns c = StandsFor-parts
