use Rattle.dex_make.proofs.MadeLaws.{StandsFor-with_blanks}
use Rattle.dex_make.proofs.laws.accounts_with_blank_ones_stand_for_the_market_with_them.Goals as goal

pub returns : goal.returns
returns c = StandsFor-with_blanks
